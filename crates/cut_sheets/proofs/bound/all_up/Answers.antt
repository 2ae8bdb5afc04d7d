use Rattle.std.proofs.Common.{◌≤◌, ◌+◌, arith, sym, subst, ap, ◌∙◌, take_all}
use Rattle.cut_wants.specs.declared.wants.Want.{Want}
use Rattle.cut_sheets.specs.Rounded.{want_up}
use Rattle.cut_sheets.specs.Table.{HaveSides}
use Rattle.cut_sheets.proofs.SheetSteps.{step_at, ups_more}
use Rattle.cut_wants.proofs.LeafSums.{first_each}
use Rattle.cut_sheets.proofs.bound.all_up.Goals as goal

pub up-want-requires-clause-within : goal.up-want-requires-clause-within
up-want-requires-clause-within c =
    subst (λ (x : Want). c.args.step ≤ x.size.w + c.args.kerf) (sym c.want-item.is)
    (step_at c.args.kerf c.args.step c.args.wants.now c.loop-want.want-index c.want-item.result c.requires.step (omega arith))

pub loop-want-preserved : goal.loop-want-preserved
loop-want-preserved c = (
  ups_more c.args.kerf c.args.step c.args.wants.now c.loop-want.want-index c.want-item.result c.up-want.result c.loop-want.rounded.items c.push.new.self.items (omega arith)
      c.loop-want.invariant.0 c.in_ok-push.ensures.items (c.up-want.ensures.value ∙ ap (want_up c.args.kerf c.args.step) c.want-item.is),
  first_each (λ (x : Want). (1 ≤ x.size.w) × (1 ≤ x.size.h)) c.args.wants.now c.loop-want.want-index c.want-item.result (omega arith) c.loop-want.invariant.1
      (subst (λ (x : Want). (1 ≤ x.size.w) × (1 ≤ x.size.h)) c.want-item.is c.up-want.ensures.sides),
)

pub returns-clause-sides : goal.returns-clause-sides
returns-clause-sides c = subst (λ xs. HaveSides xs) (take_all c.loop-want.want-index c.args.wants.now (omega arith)) c.loop-want.invariant.1
