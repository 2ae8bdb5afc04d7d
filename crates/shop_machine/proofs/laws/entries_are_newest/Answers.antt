use Rattle.shop_machine.proofs.Newest.{newest, all_of_it, all_gives, all_entered}
use Rattle.shop_machine.proofs.laws.entries_are_newest.Goals as goal

pub returns : goal.returns
returns c = record { newest = newest; all = all_of_it; unforgotten = all_entered; given = all_gives }
