use Rattle.std.proofs.Common.{rules, sym, ap, ◌∙◌}
use Rattle.std.specs.Ordering.{nat_cmp}
use Rattle.shop_rows.specs.Rows.{row_at}
use Rattle.shop_book.specs.EndRows.{end_key}
use Rattle.shop_book.proofs.Ends.{newly_ended, none_of}
use Rattle.shop_book.proofs.job_ends.put_end.Goals as goal

pub returns-clause-times : goal.returns-clause-times
returns-clause-times c =
    λ job. newly_ended c.args.entry.now job c.args.rows.now.items c.put.new.rows.items c.put.ensures.put (search rules)
    (ap (row_at end_key nat_cmp c.args.entry.now.job) (sym c.deref.ensures.value) ∙ sym c.find.ensures.row ∙ none_of c.find.result (sym c.is_some.ensures ∙ c.if-is_some.false))
