-- The query of the orders of jobs writes nothing.
use Rattle.std.proofs.Common.{◌≡◌, ℕ, true, List, codes, refl}
use Rattle.sqlite_tied.specs.Compute.{everything}
use Rattle.shop_statements.specs.Selecting.{is_select}

abbrev pub uses_text : List ℕ
uses_text = codes "SELECT job, ord FROM uses WHERE job >= ?1 ORDER BY job, ord LIMIT 1000"

pub uses_selects : is_select uses_text ≡ true
unfolding everything
uses_selects = refl
