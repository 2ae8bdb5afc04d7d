use Rattle.std.proofs.Common.{ℕ, [], ◌∷◌}
use Rattle.std.specs.Cmp.{nat_cmp_total}
use Rattle.std.specs.Ordering.{nat_cmp}
use Rattle.shop_rows.specs.Keys.{job_key}
use Rattle.shop_rows.specs.Open.{finds_with, waits}
use Rattle.shop_rows.specs.Rows.{row_at}
use Rattle.shop_rows.proofs.Listed.{found_put_each, numbers_same}
use Rattle.shop_book.proofs.memory_lists.put_job.Goals as goal

pub returns-in-Some-clause-listed : goal.returns-in-Some-clause-listed
returns-in-Some-clause-listed c =
    let job = c.in-Some.job in
    let old = c.args.jobs.now.items in
    let new = c.put.new.rows.items in
    let before = λ (number : ℕ). row_at job_key nat_cmp number old in
    numbers_same waits (finds_with nat_cmp job.act job before) (λ number. row_at job_key nat_cmp number new) c.list_job.new.keys.items
    (found_put_each job_key nat_cmp nat_cmp_total (job ∷ []) old new c.put.ensures.put) (c.list_job.ensures.lists before c.requires.listed)
