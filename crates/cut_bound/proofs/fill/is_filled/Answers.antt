use Rattle.std.proofs.Common.{take_all, refl, subst, arith}
use Rattle.std.specs.Prelude.{All}
use Rattle.std.proofs.lemmas.List.Elements.{All-more}
use Rattle.cut_bound.specs.Planned.{IsFilled, solution_of}
use Rattle.cut_bound.proofs.fill.is_filled.Goals as goal

pub loop-want-preserved : goal.loop-want-preserved
loop-want-preserved c =
    let P = IsFilled c.args.sizes.now (solution_of c.args.units.now) in
    All-more P c.args.wants.now c.loop-want.want-index c.want-item.result (omega arith) c.loop-want.invariant (subst P c.want-item.is (c.if-not-is_want_filled.ensures.0 refl))

pub returns : goal.returns
returns c = (
  λ _. subst (All (IsFilled c.args.sizes.now (solution_of c.args.units.now))) (take_all c.loop-want.want-index c.args.wants.now (omega arith)) c.loop-want.invariant,
  λ _. refl,
)
