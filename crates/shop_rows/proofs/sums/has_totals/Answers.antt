use Rattle.std.proofs.Common.{true≢false, sym}
use Rattle.shop_rows.proofs.sums.has_totals.Goals as goal

pub returns-in-None : goal.returns-in-None
returns-in-None c = absurd (true≢false (sym (c.in-None.ensures.sure c.requires.small)))
