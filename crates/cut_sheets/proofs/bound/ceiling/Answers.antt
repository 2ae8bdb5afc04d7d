use Rattle.std.proofs.Common.{◌+◌, ◌/◌, sym, subst, ◌∙◌, arith}
use Rattle.cut_wants.specs.Best.{IsBestOf}
use Rattle.cut_sheets.specs.Rounded.{wants_down, steps_down}
use Rattle.cut_sheets.proofs.SheetSteps.{down_own, down_small, ceiling_holds}
use Rattle.cut_sheets.proofs.BestWorths.{value_small}
use Rattle.cut_sheets.proofs.bound.ceiling.Goals as goal

pub table_worth-requires-clause-own : goal.table_worth-requires-clause-own
table_worth-requires-clause-own c = rw (c.deref.ensures.value, c.in_ok-rounded.ensures) (down_own _ _ _ c.requires.own)

pub table_worth-requires-clause-small : goal.table_worth-requires-clause-small
table_worth-requires-clause-small c = rw (c.deref.ensures.value, c.in_ok-rounded.ensures) (down_small _ _ _ c.requires.step c.requires.worthy)

pub returns-clause-best : goal.returns-clause-best
returns-clause-best c =
    rw (sym c.w.ensures.value, sym c.h.ensures.value) (subst (λ xs. IsBestOf xs 0 ((c.w.result + c.args.kerf) / c.args.step) ((c.h.result + c.args.kerf) / c.args.step) c.in_ok-best.best) (c.deref.ensures.value ∙ c.in_ok-rounded.ensures) c.in_ok-best.ensures)

pub returns-clause-most : goal.returns-clause-most
returns-clause-most c = ceiling_holds c.args.wants.now c.args.kerf c.args.step c.args.size.w c.args.size.h c.in_ok-best.best c.requires.step (returns-clause-best c)

pub returns-clause-small : goal.returns-clause-small
returns-clause-small c =
    omega (
      arith,
      value_small (wants_down c.args.kerf c.args.step c.args.wants.now) (steps_down c.args.kerf c.args.step c.args.size.w) (steps_down c.args.kerf c.args.step c.args.size.h) c.in_ok-best.best
          (down_own _ _ _ c.requires.own) (down_small _ _ _ c.requires.step c.requires.worthy) c.requires.wide c.requires.tall (returns-clause-best c),
    )
