use Rattle.shop_tables.proofs.InvalidRows.{totals_at}
use Rattle.shop_tables.proofs.invalid.may_be_totals.Goals as goal

pub returns-else-has_counts : goal.returns-else-has_counts
returns-else-has_counts c e coded is = c.has_counts.ensures (totals_at c.args.row.now e is)
