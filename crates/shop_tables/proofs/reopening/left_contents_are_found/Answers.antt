use Rattle.shop_tables.proofs.Reopened.{left_is_found}
use Rattle.shop_tables.proofs.reopening.left_contents_are_found.Goals as goal

pub returns : goal.returns
returns g c = left_is_found
