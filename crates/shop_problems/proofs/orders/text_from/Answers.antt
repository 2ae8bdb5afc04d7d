use Rattle.std.proofs.Common.{◌≡◌, ◌∙◌, subst, sym}
use Rattle.cut_plan.specs.Proposals.{AreDemands}
use Rattle.shop_problems.specs.Orders.{IsPlanned, wants_in}
use Rattle.shop_problems.proofs.LineWants.{demands_in}
use Rattle.shop_problems.proofs.orders.text_from.Goals as goal

pub planned-requires-clause-demands : goal.planned-requires-clause-demands
planned-requires-clause-demands c =
    subst AreDemands (sym (c.deref.ensures.value ∙ c.in-Ok.ensures)) (demands_in c.args.code.now c.args.lines.now c.requires.few)

pub returns-in-Ok-lines_of-clause-ok : goal.returns-in-Ok-lines_of-clause-ok
returns-in-Ok-lines_of-clause-ok c =
    let plan = c.in_ok-plan.plan in
    let wants : c.deref.result.now ≡ wants_in c.args.code.now c.args.lines.now = c.deref.ensures.value ∙ c.in-Ok.ensures in
    let planned = subst (λ ws. IsPlanned c.args.material.now c.args.sizes.now c.args.search.stages ws plan) wants c.in_ok-plan.ensures.ok in
    record { plan = plan; planned = planned; reported = c.in-Ok-lines_of.ensures }
