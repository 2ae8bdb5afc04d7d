use Rattle.std.proofs.Common.{◌≡◌, ◌∙◌, None, subst, ap}
use Rattle.std.specs.Prelude.{MatchOption}
use Rattle.cut_tree.specs.declared.halts.Halt.{Halt}
use Rattle.cut_tree.specs.declared.halts.Stop.{Stop}
use Rattle.cut_tree.specs.Stops.{halted}
use Rattle.shop_machine.specs.Ending.{job_refusal, IsEnd}
use Rattle.shop_machine.proofs.ending.decide_break.Goals as goal

pub returns-clause-decision : goal.returns-clause-decision
returns-clause-decision c =
    λ at found.
    subst (λ (stop : Stop). (job_refusal stop c.args.job c.args.part c.args.material at c.args.totals ≡ None)
    × MatchOption c.args.job ⊥ (λ j. MatchOption c.args.part ⊥ (λ p. MatchOption c.args.material ⊥ (λ m. IsEnd stop j p m.limits c.args.totals at c.in_ok-change.change))))
    (c.halted-stop.ensures ∙ ap (λ (h : Halt). halted h c.args.rest) c.in_ok-halt.ensures) (c.in_ok-change.ensures.decision at found)
