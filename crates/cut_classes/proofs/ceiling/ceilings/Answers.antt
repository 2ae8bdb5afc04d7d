use Rattle.std.proofs.Common.{List, subst, ◌∙◌}
use Rattle.std.specs.Prelude.{Contains}
use Rattle.cut_wants.specs.declared.wants.Want.{Want}
use Rattle.cut_classes.specs.Grids.{across_of, down_of}
use Rattle.cut_classes.proofs.ScaledAreas.{counted_each}
use Rattle.cut_classes.proofs.ceiling.ceilings.Goals as goal

pub counted_ceilings-requires-clause-counted : goal.counted_ceilings-requires-clause-counted
counted_ceilings-requires-clause-counted c = λ x has.
    counted_each c.args.kerf (across_of c.args.grid.now) (down_of c.args.grid.now) c.args.wants.now x
    (subst (λ (l : List Want). Contains l x) (c.deref.ensures.value ∙ c.in_ok-counted.ensures) has)
