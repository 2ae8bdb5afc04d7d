use Rattle.std.proofs.Common.{Bool, subst}
use Rattle.std.specs.Ordering.{nat_cmp}
use Rattle.shop_rows.specs.Open.{own_key, waits}
use Rattle.shop_rows.specs.Rows.{SetsRow}
use Rattle.shop_rows.proofs.Listed.{numbers_settled}
use Rattle.shop_rows.proofs.open.list_job.Goals as goal

pub returns-clause-lists : goal.returns-clause-lists
returns-clause-lists c = λ find lists.
    let job = c.args.job.now in
    numbers_settled waits find job.act job c.args.keys.now.items c.settle.new.rows.items lists
    (subst (λ (b : Bool). SetsRow own_key nat_cmp job.act b c.args.keys.now.items c.settle.new.rows.items) c.is_waiting.ensures c.settle.ensures.settled)
