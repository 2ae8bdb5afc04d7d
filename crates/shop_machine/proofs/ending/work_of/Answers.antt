use Rattle.std.proofs.Common.{sym, ◌∙◌}
use Rattle.shop_machine.proofs.EndingDecision.{job_test}
use Rattle.shop_machine.proofs.ending.work_of.Goals as goal

pub returns-then-not-rests-clause-refused : goal.returns-then-not-rests-clause-refused
returns-then-not-rests-clause-refused c =
    λ at found.
    rw (c.in-Some.is, c.in-Some-part.is, c.in-Some-material.is)
    (job_test c.args.stop.now c.in-Some.job c.in-Some-part.part c.in-Some-material.material at c.args.totals.now _ (sym c.is_waiting.ensures ∙ c.if-not-is_waiting.false) (sym c.can_end.ensures.test ∙ c.if-not-can_end.false)
    (sym (c.rests.ensures.test at c.in-Some-material.material found) ∙ c.if-not-rests.true))

pub returns-clause-allowed : goal.returns-clause-allowed
returns-clause-allowed c =
    λ at found.
    rw (c.in-Some.is, c.in-Some-part.is, c.in-Some-material.is)
    (job_test c.args.stop.now c.in-Some.job c.in-Some-part.part c.in-Some-material.material at c.args.totals.now _ (sym c.is_waiting.ensures ∙ c.if-not-is_waiting.false) (sym c.can_end.ensures.test ∙ c.if-not-can_end.false)
    (sym (c.rests.ensures.test at c.in-Some-material.material found) ∙ c.if-not-rests.false))
