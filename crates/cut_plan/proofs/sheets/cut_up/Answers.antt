use Rattle.cut_measure.specs.declared.sizes.Kind.TheVariants.{Sheet}
use Rattle.cut_sheets.proofs.SheetSteps.{up_own, up_small}
use Rattle.cut_plan.proofs.Faultless as facts
use Rattle.cut_plan.proofs.sheets.cut_up.Goals as goal

pub all_up-requires-clause-step : goal.all_up-requires-clause-step
all_up-requires-clause-step c =
    let f = facts.faultless Sheet c.args.size c.args.kerf c.args.step c.args.wants.now c.requires.faultless in
    facts.is_step c.args.kerf c.args.step c.args.wants.now f.stepped

pub kept_leaves-requires-clause-own : goal.kept_leaves-requires-clause-own
kept_leaves-requires-clause-own c =
    let f = facts.faultless Sheet c.args.size c.args.kerf c.args.step c.args.wants.now c.requires.faultless in
    rw (c.deref.ensures.value, c.in_ok-scaled.ensures.value) (up_own c.args.kerf c.args.step c.args.wants.now (facts.own _ Sheet c.args.wants.now f.in_range))

pub kept_leaves-requires-clause-small : goal.kept_leaves-requires-clause-small
kept_leaves-requires-clause-small c =
    let f = facts.faultless Sheet c.args.size c.args.kerf c.args.step c.args.wants.now c.requires.faultless in
    rw (c.deref.ensures.value, c.in_ok-scaled.ensures.value) (
    up_small c.args.kerf c.args.step c.args.wants.now (facts.is_step c.args.kerf c.args.step c.args.wants.now f.stepped).some c.in_ok-scaled.ensures.sides
    (facts.worthy _ Sheet c.args.wants.now f.in_range)
    )

pub returns-clause-kept : goal.returns-clause-kept
returns-clause-kept c = rw (c.deref.ensures.value, c.in_ok-scaled.ensures.value, c.w.ensures.value, c.h.ensures.value) at c.in_ok-best_leaves.ensures.kept

pub returns-clause-best : goal.returns-clause-best
returns-clause-best c = rw (c.deref.ensures.value, c.in_ok-scaled.ensures.value, c.w.ensures.value, c.h.ensures.value) at c.in_ok-best_leaves.ensures.best
