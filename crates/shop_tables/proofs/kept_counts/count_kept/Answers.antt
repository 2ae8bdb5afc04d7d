use Rattle.std.proofs.Common.{◌≡◌, codes, refl, true}
use Rattle.sqlite_tied.specs.Compute.{everything}
use Rattle.shop_statements.specs.Selecting.{is_select}
use Rattle.shop_tables.proofs.kept_counts.count_kept.Goals as goal

selects : is_select (codes "SELECT count(*) FROM kept") ≡ true
unfolding everything
selects = refl

pub returns-in_err-rows-clause-leaves : goal.returns-in_err-rows-clause-leaves
returns-in_err-rows-clause-leaves g c = c.all_rows.ensures.leaves selects

pub returns-in-Some-clause-leaves : goal.returns-in-Some-clause-leaves
returns-in-Some-clause-leaves g c = c.all_rows.ensures.leaves selects

pub returns-clause-leaves : goal.returns-clause-leaves
returns-clause-leaves g c = c.all_rows.ensures.leaves selects
