use Rattle.std.specs.Ordering.{nat_cmp}
use Rattle.shop_rows.specs.Keys.{job_key}
use Rattle.shop_book.specs.Equal.{job_decides}
use Rattle.shop_book.proofs.Held.{rows_decide}
use Rattle.shop_book.proofs.ledger.Ledger.has_jobs_of.Goals as goal

pub returns : goal.returns
returns c =
    let mine = c.args.self.now in
    let its = c.args.other.now in
    rows_decide job_key nat_cmp job_decides mine.jobs.items its.jobs.items c.eq.result c.eq.ensures mine.kept_up.jobs_rise its.kept_up.jobs_rise
