use Rattle.std.proofs.Common.{sym, ◌∙◌}
use Rattle.shop_records.specs.Content.{parts_of}
use Rattle.shop_text.proofs.PartsTaken.{lines_taken, reported}
use Rattle.shop_text.proofs.yields.report_text.Goals as goal

pub returns-clause-reported : goal.returns-clause-reported
returns-clause-reported g c =
    λ clean_disk m held.
    let still = c.in_ok-visit_parts.ensures.keeps.clean_disk clean_disk in
    let before = c.in_ok-totals.ensures.keeps.clean_disk still in
    let first = c.in_ok-material.ensures.keeps.stays before m held in
    let second = c.in_ok-totals.ensures.keeps.stays still m first in
    let row = c.in_ok-material.ensures.row before m held in
    let lines = lines_taken (parts_of m c.args.code) _ _ _ c.visit_parts.new.visitor c.if-not-branch.false (λ what it. it clean_disk m second) c.in_ok-visit_parts.ensures.visit in
    reported m c.args.code c.in-Some.material c.in_ok-totals.totals _ _ _ _ (sym c.in-Some.is ∙ row) (c.in_ok-totals.ensures.sums still m first) c.new.ensures.bytes c.in_ok-push_head.ensures lines c.in_ok-push_str.ensures.bytes
