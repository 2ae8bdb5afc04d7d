use Rattle.std.proofs.Common.{List, subst, ◌∙◌}
use Rattle.cut_wants.specs.declared.wants.Want.{Want}
use Rattle.cut_bound.specs.Orders.{IsBoundByUnits}
use Rattle.cut_bound.proofs.OrderFaults.{priced_holds, ratable}
use Rattle.cut_bound.proofs.bound.priced_cost.Goals as goal

pub bound_by_units-requires-clause-ratable : goal.bound_by_units-requires-clause-ratable
bound_by_units-requires-clause-ratable c =
    rw (c.deref.ensures.value, c.in_ok-priced.ensures)
    (ratable c.args.kind c.args.kerf c.args.step c.args.sizes.now c.args.wants.now c.args.numbers.now c.requires.faultless)

pub returns : goal.returns
returns c =
    priced_holds c.args.kind c.args.kerf c.args.step c.args.sizes.now c.args.wants.now c.args.numbers.now c.in_ok-bound.bound c.requires.faultless c.requires.flat
    (subst (λ (ws : List Want). IsBoundByUnits c.args.kind c.args.kerf c.args.step c.args.sizes.now ws c.in_ok-bound.bound) (c.deref.ensures.value ∙ c.in_ok-priced.ensures) c.in_ok-bound.ensures)
