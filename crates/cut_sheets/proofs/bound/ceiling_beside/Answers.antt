use Rattle.std.proofs.Common.{sym, subst, ◌∙◌}
use Rattle.cut_wants.specs.Best.{IsBestOf}
use Rattle.cut_sheets.specs.Rounded.{steps_down}
use Rattle.cut_sheets.proofs.SheetSteps.{ceiling_holds, exact_wants}
use Rattle.cut_sheets.proofs.bound.ceiling_beside.Goals as goal

pub returns-then-are_exact-clause-best : goal.returns-then-are_exact-clause-best
returns-then-are_exact-clause-best c =
    subst (λ xs. IsBestOf xs 0 (steps_down c.args.kerf c.args.step c.args.size.w) (steps_down c.args.kerf c.args.step c.args.size.h) c.args.best_up)
    (exact_wants c.args.kerf c.args.step c.args.wants.now c.requires.step.some (sym c.are_exact.ensures ∙ c.if-are_exact.true)) c.requires.best

pub returns-then-are_exact-clause-most : goal.returns-then-are_exact-clause-most
returns-then-are_exact-clause-most c =
    ceiling_holds c.args.wants.now c.args.kerf c.args.step c.args.size.w c.args.size.h c.args.best_up c.requires.step (returns-then-are_exact-clause-best c)
