use Rattle.std.proofs.Common.{ap, sym, ◌∙◌}
use Rattle.shop_records.specs.Content.{of_found}
use Rattle.shop_records.specs.declared.journal.Entry.{Entry}
use Rattle.shop_book.proofs.Ends.{found_first, next_entry, not_yet}
use Rattle.shop_book.proofs.job_ends.time_of_end.Goals as goal

pub returns-then-is_end_of : goal.returns-then-is_end_of
returns-then-is_end_of c =
    sym (ap (of_found (λ (entry : Entry). entry.at))
    (found_first c.args.job c.args.entries.now c.loop-entry.entry-index c.entry-item.result (next_entry c.args.entries.now c.loop-entry.entry-index c.entry-item.result c.loop-entry-test.true c.entry-item.is) c.loop-entry.invariant (sym c.is_end_of.ensures ∙ c.if-is_end_of.true)))

pub loop-entry-preserved : goal.loop-entry-preserved
loop-entry-preserved c =
    not_yet c.args.job c.args.entries.now c.loop-entry.entry-index c.entry-item.result (next_entry c.args.entries.now c.loop-entry.entry-index c.entry-item.result c.loop-entry-test.true c.entry-item.is) c.loop-entry.invariant (sym c.is_end_of.ensures ∙ c.if-is_end_of.false)
