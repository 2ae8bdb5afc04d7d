use Rattle.shop_machine.proofs.Newest.{stay_after, one_each_after}
use Rattle.shop_machine.proofs.laws.entries_stay.Goals as goal

pub returns : goal.returns
returns c = record { stay = stay_after; one_each = one_each_after }
