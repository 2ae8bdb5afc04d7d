use Rattle.std.proofs.Common.{◌≡◌, take, inl, inr, ◌∙◌}
use Rattle.shop_desk.specs.ReportedEntries.{entries_for}
use Rattle.shop_desk.proofs.ReportedEntries.{reports_whole}
use Rattle.shop_desk.proofs.history.reported_first.Goals as goal

pub returns-then-more-clause-reported : goal.returns-then-more-clause-reported
returns-then-more-clause-reported g c =
    λ clean_disk m held.
    let before = c.in_ok-entries.ensures.keeps.clean_disk clean_disk in
    let all = entries_for m c.args.about.now c.args.after in
    let rows = c.as_slice-rows.result.now in
    let is : rows ≡ take c.args.most all = c.as_slice-rows.ensures ∙ c.in_ok-found.ensures.rows before m held in
    reports_whole m all rows c.args.most c.in_ok-entries.entries c.in_ok-entries.more is
    (c.in_ok-entries.ensures.reported clean_disk m (c.in_ok-found.ensures.keeps.stays before m held)) (inl c.if-more.true)

pub returns-then-rows-most-clause-reported : goal.returns-then-rows-most-clause-reported
returns-then-rows-most-clause-reported g c =
    λ clean_disk m held.
    let before = c.in_ok-entries.ensures.keeps.clean_disk clean_disk in
    let all = entries_for m c.args.about.now c.args.after in
    let rows = c.as_slice-rows.result.now in
    let is : rows ≡ take c.args.most all = c.as_slice-rows.ensures ∙ c.in_ok-found.ensures.rows before m held in
    reports_whole m all rows c.args.most c.in_ok-entries.entries c.in_ok-entries.more is
    (c.in_ok-entries.ensures.reported clean_disk m (c.in_ok-found.ensures.keeps.stays before m held)) (inr c.if-rows-most.true)
