use Rattle.std.proofs.Common.{sym, ap, ◌∙◌}
use Rattle.std.specs.Prelude.{is_some}
use Rattle.shop_machine.proofs.ReservingDecision.{reserve_allowed}
use Rattle.shop_machine.proofs.reserving.decide_reserve.Goals as goal

pub returns-clause-decision : goal.returns-clause-decision
returns-clause-decision c =
    λ at found.
    rw (c.in-Some.is, c.in-Some-plan.is) (
      reserve_allowed c.in-Some.part c.args.material c.in-Some-plan.plan at c.args.act (sym c.is_free.ensures ∙ c.if-not-is_free.false) (ap is_some c.in-Some-material.is) (sym (c.in_default-plan_refusal.ensures.refusal at found)),
      c.in_ok-change.ensures.change at found,
    )
