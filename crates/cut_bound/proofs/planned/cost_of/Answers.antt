use Rattle.std.proofs.Common.{◌*◌, ◌^◌, ap, ◌∙◌, arith}
use Rattle.std.specs.Prelude.{slice_get}
use Rattle.std.specs.Option.{option_map_or}
use Rattle.cut_bound.specs.declared.stock.StockSize.{StockSize}
use Rattle.cut_bound.specs.Solutions.{CutUnit}
use Rattle.cut_bound.proofs.PlannedUnits.{planned_done, planned_over}
use Rattle.cut_bound.proofs.planned.cost_of.Goals as goal

pub returns-in_err-cost-clause-none : goal.returns-in_err-cost-clause-none
returns-in_err-cost-clause-none c =
    let cost = λ (u : CutUnit). option_map_or (λ (s : StockSize). s.cost) (slice_get c.args.sizes.now u.place) 0 in
    let paid = ap (λ n. c.unit-item.result.times * n) c.cost_at_place.ensures in
    let over = planned_over cost c.args.units.now c.loop-unit.unit-index (2 ^ 128) c.unit-item.result (omega arith) c.unit-item.is (omega (arith, c.in_err-cost.ensures, c.loop-unit.invariant, paid)) in
    rw c.from_residual.ensures over

pub returns-clause-some : goal.returns-clause-some
returns-clause-some c =
    c.loop-unit.invariant
    ∙ planned_done (λ (u : CutUnit). option_map_or (λ (s : StockSize). s.cost) (slice_get c.args.sizes.now u.place) 0) c.args.units.now c.loop-unit.unit-index (omega arith)
