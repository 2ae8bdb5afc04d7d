use Rattle.std.proofs.Common.{◌≡◌, List, subst, ap, ◌∙◌}
use Rattle.std.specs.Prelude.{MatchOption}
use Rattle.cut_measure.specs.Measures.{Size}
use Rattle.shop_files.specs.declared.problems.Piece.{Piece}
use Rattle.shop_files.specs.Problems.{IsProblem}
use Rattle.shop_records.specs.Content.{material_at}
use Rattle.shop_machine.specs.Ordering.{AreMaterialsFound, lines_in}
use Rattle.shop_machine.specs.Importing.{problem_lines}
use Rattle.shop_forms.specs.Forms.{json_texts}
use Rattle.shop_desk.proofs.Deciding.{problem_decided}
use Rattle.shop_desk.proofs.importing.import_problem.Goals as goal

pub returns-clause-decision : goal.returns-clause-decision
returns-clause-decision g c =
    λ clean_disk m held new.
    let before_found = c.found_lines.ensures.keeps.clean_disk clean_disk in
    let before_first = c.next_demand.ensures.keeps.clean_disk before_found in
    let before_rows = c.receipt_rows.ensures.keeps.clean_disk before_first in
    let at_rows = c.order.ensures.keeps.stays before_rows m held in
    let at_first = c.receipt_rows.ensures.keeps.stays before_first m at_rows in
    let at_found = c.next_demand.ensures.keeps.stays before_found m at_first in
    let is = c.in_ok-known.field-0 in
    let rows = c.in_ok-known.ensures.rows before_first m at_rows in
    let is_lines = c.in_ok-found.ensures.lines ∙ c.as_slice-2.ensures ∙ c.in_ok-lines.ensures ∙ ap (problem_lines c.args.material) c.as_slice.ensures in
    let lines : lines_in c.deref.result.now ≡ problem_lines c.args.material c.in-Some.problem.pieces = rw c.deref.ensures.value is_lines in
    let found : AreMaterialsFound (material_at m) c.deref.result.now = rw c.deref.ensures.value (c.in_ok-found.ensures.found clean_disk m at_found) in
    let spelled : IsProblem c.args.text.now c.in-Some.problem.size c.in-Some.problem.pieces =
    subst (λ o. MatchOption o ((size : Size) (pieces : List Piece) → IsProblem c.args.text.now size pieces → ⊥) (λ p. IsProblem c.args.text.now p.size p.pieces)) c.in-Some.is c.in_ok-problem.ensures.spelled in
    problem_decided json_texts m c.args.order c.args.text.now c.in_ok-used.used (c.in_ok-used.ensures.row before_rows m held) (lines_in c.deref.result.now) c.in_ok-first.first c.in_ok-body.body c.in_ok-body.ensures
    (c.in_ok-first.ensures.number before_found m at_first) c.args.material c.in-Some.problem.size c.in-Some.problem.pieces is.known is.totals is.act
    rows.of_material rows.of_totals rows.of_act lines (new, spelled)
    (g.B.Book.failed c.args.book.now) (g.B.Book.failed c.found_lines.new.book) c.decide_problem.result (c.decide_problem.ensures.decision (material_at m) found)
