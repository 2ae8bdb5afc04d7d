use Rattle.std.proofs.Common.{◌∙◌, refl}
use Rattle.cut_bound.proofs.ListedPlans.{plan_by_leaves}
use Rattle.cut_bound.proofs.planned.is_plan_for.Goals as goal

pub returns : goal.returns
returns c =
    let same =
    plan_by_leaves c.args.wants.now c.args.kerf c.args.size c.args.plan.now c.deref.result.now c.see.ensures.kept (c.if-not-is_made_for.ensures.0 refl) (c.deref.ensures.value ∙ c.in_ok-leaves.ensures) in
    (λ reported. same.0 (c.are_pieces.ensures.0 reported), λ is. c.are_pieces.ensures.1 (same.1 is))
