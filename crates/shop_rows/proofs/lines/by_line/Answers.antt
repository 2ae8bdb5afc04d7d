use Rattle.std.proofs.Common.{List, take, sym, subst}
use Rattle.shop_records.specs.declared.records.Demand.{Demand}
use Rattle.shop_rows.specs.Lines.{AreByLine}
use Rattle.shop_rows.proofs.ByLine.{next_row, same_line}
use Rattle.shop_rows.proofs.lines.by_line.Goals as goal

pub returns-then-not-branch-clause-sure : goal.returns-then-not-branch-clause-sure
returns-then-not-branch-clause-sure c = λ apart.
    let taken = c.in_ok-add_line.ensures.taken c.if-not-branch.true in
    absurd (same_line c.args.order c.args.demands.now c.loop-demand.lines.items c.loop-demand.demand-index c.demand-item.result c.requires c.loop-demand-test.true c.demand-item.is c.loop-demand.invariant taken.0 taken.1 apart)

pub loop-demand-preserved : goal.loop-demand-preserved
loop-demand-preserved c =
    subst (λ (rows : List Demand). AreByLine c.args.order rows c.add_line.new.lines.items) (sym (next_row c.args.demands.now c.loop-demand.demand-index c.demand-item.result c.loop-demand-test.true c.demand-item.is))
    (c.in_ok-add_line.ensures.added c.if-not-branch.false (take c.loop-demand.demand-index c.args.demands.now) c.loop-demand.invariant)
