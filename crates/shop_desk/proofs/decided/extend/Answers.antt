use Rattle.std.proofs.Common.{◌≡◌, ◌∙◌, ℕ, Some, ap, length, refl, sym}
use Rattle.shop_records.specs.declared.changes.Change.{Change}
use Rattle.shop_records.specs.declared.messages.Command.TheVariants.{Extend}
use Rattle.shop_records.specs.Readings.{unread}
use Rattle.shop_records.specs.declared.records.Demand.{Demand}
use Rattle.shop_records.specs.Content.{demand_at, demands_of, last_line, material_at}
use Rattle.shop_records.proofs.LineCounts.{same_count, same_last}
use Rattle.shop_machine.specs.Ordering.{AreMaterialsFound, lines_in}
use Rattle.shop_machine.specs.Extending.{extend_change}
use Rattle.shop_forms.specs.Forms.{json_texts}
use Rattle.shop_desk.proofs.Deciding.{decided_by, same_extend, extend_by}
use Rattle.shop_desk.proofs.decided.extend.Goals as goal

pub returns-clause-decision : goal.returns-clause-decision
returns-clause-decision g c =
    λ clean_disk m held well_formed.
    let before_first = c.next_demand.ensures.keeps.clean_disk clean_disk in
    let before_found = c.found_lines.ensures.keeps.clean_disk before_first in
    let before_there = c.lines_of.ensures.keeps.clean_disk before_found in
    let at_there = c.order.ensures.keeps.stays before_there m held in
    let at_found = c.lines_of.ensures.keeps.stays before_found m at_there in
    let at_first = c.found_lines.ensures.keeps.stays before_first m at_found in
    let is_known = c.in_ok-known.ensures.row before_there m held in
    let is_there = c.in_ok-there.ensures.rows before_found m at_there in
    let is_lines = c.in_ok-found.ensures.lines ∙ c.as_slice.ensures in
    let is_first = c.in_ok-first.ensures.number clean_disk m at_first in
    let own : (n : ℕ) (d : Demand) → demand_at m n ≡ Some d → d.number ≡ n = λ n d is. (well_formed.demands n d is).numbered in
    let lines : lines_in c.deref.result.now ≡ c.args.lines.now = rw c.deref.ensures.value is_lines in
    let found : AreMaterialsFound (material_at m) c.deref.result.now = rw c.deref.ensures.value (c.in_ok-found.ensures.found before_first m at_found) in
    let count = same_count m own c.args.order c.in_ok-there.there is_there in
    let last = same_last m own c.args.order c.in_ok-there.there is_there in
    decided_by json_texts m (Extend c.args.order c.args.lines.now) unread refl (g.B.Book.failed c.args.book.now) (g.B.Book.failed c.next_demand.new.self) _
    (same_extend m c.args.order c.args.lines.now (lines_in c.deref.result.now) c.in_ok-known.known c.in_ok-first.first is_known lines is_first)
    (λ (change : Change). change ≡ extend_change c.args.order (lines_in c.deref.result.now) c.in_ok-first.first)
    (extend_by m c.args.order c.args.lines.now (lines_in c.deref.result.now) c.in_ok-known.known c.in_ok-first.first is_known lines is_first)
    c.decide_extend.result (c.decide_extend.ensures.decision (material_at m) (demands_of m c.args.order) found (count ∙ ap length (sym c.as_slice-rows.ensures)) (last ∙ ap last_line (sym c.as_slice-rows.ensures) ∙ sym c.last_of.ensures))
