use Rattle.std.proofs.Common.{◌≡◌, ◌*◌, map, sym, ap, subst, ◌∙◌, arith}
use Rattle.cut_tree.specs.Stops.{outcome_of}
use Rattle.std.specs.Prelude.{sum_by}
use Rattle.shop_records.specs.declared.records.Part.{Part}
use Rattle.shop_machine.specs.Ending.{row_part}
use Rattle.shop_machine.specs.Moving.{tally, AreFew}
use Rattle.shop_machine.proofs.Inside.{all_inside, part_cells, few_cells}
use Rattle.shop_machine.proofs.UndoingDecision.{part_fits}
use Rattle.shop_machine.proofs.Tallied.{few_tallied}
use Rattle.shop_machine.proofs.ending.ended_parts.Goals as goal

pub cut_parts-requires-clause-across : goal.cut_parts-requires-clause-across
cut_parts-requires-clause-across c =
    λ k d within.
    let plan = c.args.job.now.plan in
    let row = all_inside plan.tree plan.w plan.h plan.kerf (outcome_of c.args.stop.now) c.args.rows.now c.requires.laid k d within in
    let part = part_fits c.args.job.now c.args.part.now c.requires.part in
    (row.some_width, omega (arith, row.right, part.width, part.right))

pub cut_parts-requires-clause-down : goal.cut_parts-requires-clause-down
cut_parts-requires-clause-down c =
    λ k d within.
    let plan = c.args.job.now.plan in
    let row = all_inside plan.tree plan.w plan.h plan.kerf (outcome_of c.args.stop.now) c.args.rows.now c.requires.laid k d within in
    let part = part_fits c.args.job.now c.args.part.now c.requires.part in
    (row.some_height, omega (arith, row.bottom, part.height, part.bottom))

pub tally-incoming-requires : goal.tally-incoming-requires
tally-incoming-requires c =
    let plan = c.args.job.now.plan in
    let made : c.as_slice.result.now ≡ map (row_part c.args.part.now c.args.limits c.args.job.now.act) c.args.rows.now = c.as_slice.ensures ∙ c.in_ok-parts.ensures in
    let cells = ap (sum_by (λ (p : Part). p.size.w * p.size.h)) made ∙ part_cells c.args.part.now c.args.limits c.args.job.now.act plan.tree plan.w plan.h plan.kerf (outcome_of c.args.stop.now) c.args.rows.now c.requires.laid in
    let part = part_fits c.args.job.now c.args.part.now c.requires.part in
    let few = few_cells plan.w plan.h (omega (arith, part.width, part.right)) (omega (arith, part.height, part.bottom)) in
    omega (arith, cells, few)

pub returns-clause-cells : goal.returns-clause-cells
returns-clause-cells c = c.tally-incoming.ensures ∙ ap tally (c.as_slice.ensures ∙ c.in_ok-parts.ensures)

pub returns-clause-few : goal.returns-clause-few
returns-clause-few c =
    let plan = c.args.job.now.plan in
    let made = map (row_part c.args.part.now c.args.limits c.args.job.now.act) c.args.rows.now in
    let cells = part_cells c.args.part.now c.args.limits c.args.job.now.act plan.tree plan.w plan.h plan.kerf (outcome_of c.args.stop.now) c.args.rows.now c.requires.laid in
    let part = part_fits c.args.job.now c.args.part.now c.requires.part in
    let sides : plan.w * plan.h ≡ c.args.part.now.size.w * c.args.part.now.size.h = ap (λ w. w * plan.h) (sym part.width) ∙ ap (λ h. c.args.part.now.size.w * h) (sym part.height) in
    subst (AreFew (c.args.part.now.size.w * c.args.part.now.size.h)) (sym (c.tally-incoming.ensures ∙ ap tally (c.as_slice.ensures ∙ c.in_ok-parts.ensures)))
    (few_tallied made (c.args.part.now.size.w * c.args.part.now.size.h) (cells ∙ sides))
