use Rattle.std.proofs.Common.{◌≡◌, length, arith, ◌∙◌}
use Rattle.cut_measure.specs.declared.sizes.Kind.TheVariants.{Sheet}
use Rattle.cut_sheets.proofs.SheetSteps.{steps_inside}
use Rattle.cut_sheets.proofs.PlacedLeaves.{kept_places}
use Rattle.cut_plan.proofs.Faultless as facts
use Rattle.std.proofs.lemmas.List.{length-map}
use Rattle.cut_sheets.specs.Rounded.{want_up}
use Rattle.cut_plan.specs.Sheets.{kept_counts}
use Rattle.cut_plan.proofs.SheetPlans.{laid, few_laid, kept_left, dropped_small}
use Rattle.cut_plan.proofs.sheets.lay_out.Goals as goal

pub place-requires-clause-own : goal.place-requires-clause-own
place-requires-clause-own c =
    let f = facts.faultless Sheet c.args.size c.args.kerf c.args.step c.args.wants.now c.requires.faultless in
    facts.own _ Sheet c.args.wants.now f.in_range

pub place-requires-clause-places : goal.place-requires-clause-places
place-requires-clause-places c =
    let f = facts.faultless Sheet c.args.size c.args.kerf c.args.step c.args.wants.now c.requires.faultless in
    let cut = c.requires.kept in
    rw (c.w.ensures.value, c.h.ensures.value) (
    kept_places c.args.wants.now c.args.kerf c.args.step _ _ _ c.args.size.w c.args.size.h (facts.is_step c.args.kerf c.args.step c.args.wants.now f.stepped).some
    c.requires.sides cut.inside cut.pruned (steps_inside c.args.kerf c.args.step c.args.size.w) (steps_inside c.args.kerf c.args.step c.args.size.h)
    )

pub counted_worth-worth-requires-clause-len : goal.counted_worth-worth-requires-clause-len
counted_worth-worth-requires-clause-len c =
    let f = facts.faultless Sheet c.args.size c.args.kerf c.args.step c.args.wants.now c.requires.faultless in
    let cut = c.requires.kept in
    let len : length c.args.best_leaves.counts.items ≡ length c.args.wants.now = cut.len ∙ length-map c.args.wants.now (want_up c.args.kerf c.args.step) in
    rw (c.deref-2.ensures.value, c.in_ok-kept.ensures, c.deref.ensures.value) (
    facts.counts_length c.args.wants.now (kept_counts c.args.wants.now c.args.best_leaves.counts.items) (kept_left c.args.wants.now c.args.best_leaves.counts.items len)
    )

pub counted_worth-worth-requires-clause-small : goal.counted_worth-worth-requires-clause-small
counted_worth-worth-requires-clause-small c =
    let f = facts.faultless Sheet c.args.size c.args.kerf c.args.step c.args.wants.now c.requires.faultless in
    let cut = c.requires.kept in
    let len : length c.args.best_leaves.counts.items ≡ length c.args.wants.now = cut.len ∙ length-map c.args.wants.now (want_up c.args.kerf c.args.step) in
    let left = kept_left c.args.wants.now c.args.best_leaves.counts.items len in
    rw (c.deref-2.ensures.value, c.in_ok-kept.ensures, c.deref.ensures.value) (omega (
      arith,
      facts.value_left c.args.wants.now (kept_counts c.args.wants.now c.args.best_leaves.counts.items) left,
      facts.left_fits Sheet c.args.wants.now f.in_range,
    ))

pub dropped_of-dropped-requires-clause-small : goal.dropped_of-dropped-requires-clause-small
dropped_of-dropped-requires-clause-small c =
    let f = facts.faultless Sheet c.args.size c.args.kerf c.args.step c.args.wants.now c.requires.faultless in
    let cut = c.requires.kept in
    rw c.deref-3.ensures.value (omega (arith, dropped_small c.args.wants.now c.args.best_leaves.counts.items cut.small, facts.few _ Sheet c.args.wants.now f.in_range))

pub returns-clause-laid : goal.returns-clause-laid
returns-clause-laid c =
    let f = facts.faultless Sheet c.args.size c.args.kerf c.args.step c.args.wants.now c.requires.faultless in
    let cut = c.requires.kept in
    let len : length c.args.best_leaves.counts.items ≡ length c.args.wants.now = cut.len ∙ length-map c.args.wants.now (want_up c.args.kerf c.args.step) in
    let places = rw (c.w.ensures.value, c.h.ensures.value) at c.in_ok-root.ensures in
    laid c.args.size c.args.kerf c.args.step c.args.wants.now c.args.best_leaves.counts.items _ _ _ _ (facts.own _ Sheet c.args.wants.now f.in_range) cut places len
    (rw (c.deref-2.ensures.value, c.in_ok-kept.ensures, c.deref.ensures.value) at c.counted_worth-worth.ensures) (rw c.deref-3.ensures.value at c.dropped_of-dropped.ensures)

pub returns-clause-few : goal.returns-clause-few
returns-clause-few c =
    let f = facts.faultless Sheet c.args.size c.args.kerf c.args.step c.args.wants.now c.requires.faultless in
    let cut = c.requires.kept in
    let len : length c.args.best_leaves.counts.items ≡ length c.args.wants.now = cut.len ∙ length-map c.args.wants.now (want_up c.args.kerf c.args.step) in
    let places = rw (c.w.ensures.value, c.h.ensures.value) at c.in_ok-root.ensures in
    omega (
      arith,
      few_laid c.args.size c.args.kerf c.args.step c.args.wants.now c.args.best_leaves.counts.items _ _ (facts.own _ Sheet c.args.wants.now f.in_range) cut places len,
      facts.few _ Sheet c.args.wants.now f.in_range,
    )

pub ceiling_beside-requires-clause-own : goal.ceiling_beside-requires-clause-own
ceiling_beside-requires-clause-own c =
    let f = facts.faultless Sheet c.args.size c.args.kerf c.args.step c.args.wants.now c.requires.faultless in
    facts.own _ Sheet c.args.wants.now f.in_range

pub ceiling_beside-requires-clause-worthy : goal.ceiling_beside-requires-clause-worthy
ceiling_beside-requires-clause-worthy c =
    let f = facts.faultless Sheet c.args.size c.args.kerf c.args.step c.args.wants.now c.requires.faultless in
    facts.worthy _ Sheet c.args.wants.now f.in_range

pub ceiling_beside-requires-clause-step : goal.ceiling_beside-requires-clause-step
ceiling_beside-requires-clause-step c =
    let f = facts.faultless Sheet c.args.size c.args.kerf c.args.step c.args.wants.now c.requires.faultless in
    facts.is_step c.args.kerf c.args.step c.args.wants.now f.stepped
