use Rattle.std.proofs.Common.{◌∙◌, sym}
use Rattle.shop_store.proofs.Counting.{more_sums, sums_of_last}
use Rattle.shop_store.proofs.checking.are_sums.Goals as goal

pub returns-then-not-has_totals : goal.returns-then-not-has_totals
returns-then-not-has_totals c =
    (λ h. absurd (cc), λ all. sym c.if-not-has_totals.true ∙ c.has_totals.ensures.1 (sums_of_last c.args.sums.now c.args.totals.now c.loop-row.row-index c.row-item.result c.loop-row-test.true all c.row-item.is))

pub loop-row-preserved : goal.loop-row-preserved
loop-row-preserved c = more_sums c.args.sums.now c.args.totals.now c.loop-row.row-index c.row-item.result c.loop-row-test.true c.row-item.is c.loop-row.invariant (c.has_totals.ensures.0 c.if-not-has_totals.false)
