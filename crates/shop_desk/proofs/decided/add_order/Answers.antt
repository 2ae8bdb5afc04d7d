use Rattle.std.proofs.Common.{◌≡◌, refl, ◌∙◌}
use Rattle.shop_records.specs.declared.changes.Change.{Change}
use Rattle.shop_records.specs.declared.messages.Command.TheVariants.{AddOrder}
use Rattle.shop_records.specs.Readings.{unread}
use Rattle.shop_records.specs.Content.{material_at}
use Rattle.shop_machine.specs.Ordering.{AreMaterialsFound, lines_in, order_change}
use Rattle.shop_forms.specs.Forms.{json_texts}
use Rattle.shop_desk.proofs.Deciding.{decided_by, same_order, order_by}
use Rattle.shop_desk.proofs.decided.add_order.Goals as goal

pub returns-clause-decision : goal.returns-clause-decision
returns-clause-decision g c =
    λ clean_disk m held well_formed.
    let before_first = c.next_demand.ensures.keeps.clean_disk clean_disk in
    let before_lines = c.found_lines.ensures.keeps.clean_disk before_first in
    let at_lines = c.order.ensures.keeps.stays before_lines m held in
    let at_first = c.found_lines.ensures.keeps.stays before_first m at_lines in
    let is_used = c.in_ok-used.ensures.row before_lines m held in
    let is_lines = c.in_ok-found.ensures.lines ∙ c.as_slice.ensures in
    let is_first = c.in_ok-first.ensures.number clean_disk m at_first in
    let lines : lines_in c.deref.result.now ≡ c.args.lines.now = rw c.deref.ensures.value is_lines in
    let found : AreMaterialsFound (material_at m) c.deref.result.now = rw c.deref.ensures.value (c.in_ok-found.ensures.found before_first m at_lines) in
    decided_by json_texts m (AddOrder c.args.order c.args.lines.now) unread refl (g.B.Book.failed c.args.book.now) (g.B.Book.failed c.next_demand.new.self) _ (same_order m c.args.order c.args.lines.now (lines_in c.deref.result.now) c.in_ok-used.used c.in_ok-first.first is_used lines is_first)
    (λ (change : Change). change ≡ order_change c.args.order (lines_in c.deref.result.now) c.in_ok-first.first)
    (order_by m c.args.order c.args.lines.now (lines_in c.deref.result.now) c.in_ok-used.used c.in_ok-first.first is_used lines is_first)
    c.decide_order.result (c.decide_order.ensures.decision (material_at m) found)
