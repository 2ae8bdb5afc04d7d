use Rattle.std.proofs.Common.{false, true, refl, sym, ap, subst, ◌∙◌}
use Rattle.std.specs.Prelude.{◌&&◌}
use Rattle.std.specs.List.{list_all}
use Rattle.cut_tree.specs.declared.leaves.Leaf.{Leaf}
use Rattle.shop_machine.specs.Moving.{tally}
use Rattle.shop_machine.specs.Recounts.{pieces_in, plan_leaves}
use Rattle.shop_machine.specs.Undoing.{can_take_back, have_cells, has_made, laid_by, IsUndo}
use Rattle.shop_machine.proofs.UndoingDecision.{judged, of_found_rows, left_is, gone_is, is_left, holds_cells, holds_made, leaves_of_job, taken_back}
use Rattle.cut_tree.specs.Laying.{IsLaid}
use Rattle.cut_tree.specs.Stops.{outcome_of}
use Rattle.shop_machine.proofs.undoing.decide_undo.Goals as goal

pub returns-then-not-are_as_left-clause-decision : goal.returns-then-not-are_as_left-clause-decision
returns-then-not-are_as_left-clause-decision c =
    λ at found other.
    let over = c.in_ok-over.over in
    let is = c.in_ok-over.ensures.over in
    let rows = c.deref-laid.ensures.value ∙ c.in_ok-rows.ensures.rows in
    let left = left_is over.end over.job over.part over.limits c.deref-laid.result.now c.as_slice-parts.result.now rows (c.as_slice-parts.ensures ∙ c.in_ok-left.ensures.parts) in
    judged c.args.job c.args.halt c.args.part c.args.material c.args.found.now at c.args.totals over.end over.job over.part over.limits is.0 is.1 is.2
    c.in_ok-over.ensures.stop c.in_ok-over.ensures.fits false (can_take_back over.end over.job over.part over.limits at c.args.totals)
    (is_left over.end over.job over.part over.limits c.args.found.now c.as_slice-parts.result.now c.are_as_left.result false left c.are_as_left.ensures c.if-not-are_as_left.true) refl

pub returns-then-not-have_cells-clause-decision : goal.returns-then-not-have_cells-clause-decision
returns-then-not-have_cells-clause-decision c =
    λ at found other.
    let over = c.in_ok-over.over in
    let is = c.in_ok-over.ensures.over in
    let rows = c.deref-laid.ensures.value ∙ c.in_ok-rows.ensures.rows in
    let left = left_is over.end over.job over.part over.limits c.deref-laid.result.now c.as_slice-parts.result.now rows (c.as_slice-parts.ensures ∙ c.in_ok-left.ensures.parts) in
    let outgoing = gone_is over.end over.job over.part over.limits c.deref-laid.result.now c.in_ok-left.outgoing rows c.in_ok-left.ensures.cells in
    judged c.args.job c.args.halt c.args.part c.args.material c.args.found.now at c.args.totals over.end over.job over.part over.limits is.0 is.1 is.2
    c.in_ok-over.ensures.stop c.in_ok-over.ensures.fits true false
    (is_left over.end over.job over.part over.limits c.args.found.now c.as_slice-parts.result.now c.are_as_left.result true left c.are_as_left.ensures c.if-not-are_as_left.false)
    (ap (λ b. b && list_all (λ (leaf : Leaf). has_made (pieces_in leaf.demand (laid_by over.end over.job)) (at leaf.demand)) (plan_leaves over.job.plan))
    (holds_cells over.end over.job over.part over.limits c.args.totals c.in_ok-left.outgoing c.cells-most.result c.have_cells.result false outgoing c.cells-most.ensures.value c.have_cells.ensures c.if-not-have_cells.true))

pub returns-then-not-are_made-clause-decision : goal.returns-then-not-are_made-clause-decision
returns-then-not-are_made-clause-decision c =
    λ at found other.
    let over = c.in_ok-over.over in
    let is = c.in_ok-over.ensures.over in
    let rows = c.deref-laid.ensures.value ∙ c.in_ok-rows.ensures.rows in
    let left = left_is over.end over.job over.part over.limits c.deref-laid.result.now c.as_slice-parts.result.now rows (c.as_slice-parts.ensures ∙ c.in_ok-left.ensures.parts) in
    let outgoing = gone_is over.end over.job over.part over.limits c.deref-laid.result.now c.in_ok-left.outgoing rows c.in_ok-left.ensures.cells in
    let leaves = leaves_of_job c.args.job over.job c.args.leaves.now is.0 c.requires.leaves in
    judged c.args.job c.args.halt c.args.part c.args.material c.args.found.now at c.args.totals over.end over.job over.part over.limits is.0 is.1 is.2
    c.in_ok-over.ensures.stop c.in_ok-over.ensures.fits true false
    (is_left over.end over.job over.part over.limits c.args.found.now c.as_slice-parts.result.now c.are_as_left.result true left c.are_as_left.ensures c.if-not-are_as_left.false)
    (taken_back over.end over.job over.part over.limits at c.args.totals true false
    (holds_cells over.end over.job over.part over.limits c.args.totals c.in_ok-left.outgoing c.cells-most.result c.have_cells.result true outgoing c.cells-most.ensures.value c.have_cells.ensures c.if-not-have_cells.false)
    (holds_made over.end over.job at c.deref-laid.result.now c.args.leaves.now c.are_made.result false rows leaves (c.are_made.ensures.test at found) c.if-not-are_made.true))

pub returns-clause-decision : goal.returns-clause-decision
returns-clause-decision c =
    λ at found.
    let over = c.in_ok-over.over in
    let is = c.in_ok-over.ensures.over in
    let rows = c.deref-laid.ensures.value ∙ c.in_ok-rows.ensures.rows in
    let left = left_is over.end over.job over.part over.limits c.deref-laid.result.now c.as_slice-parts.result.now rows (c.as_slice-parts.ensures ∙ c.in_ok-left.ensures.parts) in
    let outgoing = gone_is over.end over.job over.part over.limits c.deref-laid.result.now c.in_ok-left.outgoing rows c.in_ok-left.ensures.cells in
    let leaves = leaves_of_job c.args.job over.job c.args.leaves.now is.0 c.requires.leaves in
    let made = c.in_ok-change.ensures.change at found in (
      judged c.args.job c.args.halt c.args.part c.args.material c.args.found.now at c.args.totals over.end over.job over.part over.limits is.0 is.1 is.2
          c.in_ok-over.ensures.stop c.in_ok-over.ensures.fits true true
          (is_left over.end over.job over.part over.limits c.args.found.now c.as_slice-parts.result.now c.are_as_left.result true left c.are_as_left.ensures c.if-not-are_as_left.false)
          (taken_back over.end over.job over.part over.limits at c.args.totals true true
          (holds_cells over.end over.job over.part over.limits c.args.totals c.in_ok-left.outgoing c.cells-most.result c.have_cells.result true outgoing c.cells-most.ensures.value c.have_cells.ensures c.if-not-have_cells.false)
          (holds_made over.end over.job at c.deref-laid.result.now c.args.leaves.now c.are_made.result true rows leaves (c.are_made.ensures.test at found) c.if-not-are_made.false)),
      of_found_rows c.args.job c.args.halt c.args.part c.args.material c.args.found.now at c.args.totals over.end over.job over.part over.limits is.0 is.1 is.2
          c.in_ok-over.ensures.stop c.in_ok-over.ensures.fits (λ j p params. IsUndo j c.args.halt p params c.args.totals at c.in_ok-change.change)
          (record { end = over.end; ended = c.in_ok-over.ensures.stop; rows = made.0; recounted = made.1; is = made.2 }),
    )

pub undo-requires-clause-left : goal.undo-requires-clause-left
undo-requires-clause-left c =
    let over = c.in_ok-over.over in
    left_is over.end over.job over.part over.limits c.deref-laid.result.now c.as_slice-parts.result.now (c.deref-laid.ensures.value ∙ c.in_ok-rows.ensures.rows)
    (c.as_slice-parts.ensures ∙ c.in_ok-left.ensures.parts)

pub undo-requires-clause-outgoing : goal.undo-requires-clause-outgoing
undo-requires-clause-outgoing c = c.in_ok-left.ensures.cells ∙ ap tally (sym (c.as_slice-parts.ensures ∙ c.in_ok-left.ensures.parts))

pub undo-requires-clause-laid : goal.undo-requires-clause-laid
undo-requires-clause-laid c = c.deref-laid.ensures.value ∙ c.in_ok-rows.ensures.rows

pub undo-requires-clause-leaves : goal.undo-requires-clause-leaves
undo-requires-clause-leaves c = leaves_of_job c.args.job c.in_ok-over.over.job c.args.leaves.now c.in_ok-over.ensures.over.0 c.requires.leaves

pub undo-requires-clause-cells : goal.undo-requires-clause-cells
undo-requires-clause-cells c =
    ap (λ n. have_cells n c.in_ok-left.outgoing c.args.totals) (sym c.cells-most.ensures.value) ∙ sym c.have_cells.ensures ∙ c.if-not-have_cells.false

pub undo-requires-clause-rows : goal.undo-requires-clause-rows
undo-requires-clause-rows c = c.are_made.ensures.rows c.in_ok-over.over.job.plan.tree c.if-not-are_made.false

pub ended_parts-requires-clause-laid : goal.ended_parts-requires-clause-laid
ended_parts-requires-clause-laid c =
    let over = c.in_ok-over.over in
    let plan = over.job.plan in
    subst (IsLaid plan.tree plan.w plan.h plan.kerf (outcome_of over.end)) (sym c.deref-laid.ensures.value) c.in_ok-rows.ensures.laid
