use Rattle.std.proofs.Common.{◌≡◌, List, subst, ◌∙◌}
use Rattle.std.specs.Prelude.{MatchOption}
use Rattle.shop_files.specs.declared.orders.OrderLine.{OrderLine}
use Rattle.shop_files.specs.Orders.{IsOrders}
use Rattle.shop_records.specs.Content.{material_at}
use Rattle.shop_machine.specs.Ordering.{AreMaterialsFound, lines_in}
use Rattle.shop_forms.specs.Forms.{json_texts}
use Rattle.shop_desk.proofs.Deciding.{lines_decided}
use Rattle.shop_desk.proofs.importing.import_lines.Goals as goal

pub returns-clause-decision : goal.returns-clause-decision
returns-clause-decision g c =
    λ clean_disk m held new.
    let before_lines = c.found_lines.ensures.keeps.clean_disk clean_disk in
    let before_first = c.next_demand.ensures.keeps.clean_disk before_lines in
    let at_first = c.order.ensures.keeps.stays before_first m held in
    let at_lines = c.next_demand.ensures.keeps.stays before_lines m at_first in
    let is_used = c.in_ok-used.ensures.row before_first m held in
    let is_lines = c.in_ok-found.ensures.lines ∙ c.as_slice.ensures in
    let is_first = c.in_ok-first.ensures.number before_lines m at_first in
    let lines : lines_in c.deref.result.now ≡ c.in-Some.lines = rw c.deref.ensures.value is_lines in
    let found : AreMaterialsFound (material_at m) c.deref.result.now = rw c.deref.ensures.value (c.in_ok-found.ensures.found clean_disk m at_lines) in
    let spelled : IsOrders c.args.text.now c.in-Some.lines =
    subst (λ o. MatchOption o ((ls : List OrderLine) → IsOrders c.args.text.now ls → ⊥) (λ ls. IsOrders c.args.text.now ls)) c.in-Some.is c.in_ok-lines.ensures in
    lines_decided json_texts m c.args.order c.args.text.now c.in_ok-used.used is_used (lines_in c.deref.result.now) c.in_ok-first.first c.in_ok-body.body c.in_ok-body.ensures is_first c.in-Some.lines lines (new, spelled)
    (g.B.Book.failed c.args.book.now) (g.B.Book.failed c.found_lines.new.book) c.decide_lines.result (c.decide_lines.ensures.decision (material_at m) found)
