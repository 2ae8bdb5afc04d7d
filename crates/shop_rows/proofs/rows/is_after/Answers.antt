use Rattle.std.proofs.Common.{sym, ◌∙◌}
use Rattle.shop_rows.proofs.Places.{after_last}
use Rattle.shop_rows.proofs.rows.is_after.Goals as goal

pub returns-in-Less : goal.returns-in-Less
returns-in-Less g c = λ is. after_last (λ row. g.R.Key.RowKey.cmp (g.R.KeyedRow.key_of row) c.args.key) c.args.rows.now c.in-Some.row.now (sym c.in-Some.ensures.value) (sym c.compare.ensures ∙ c.in-Less.is)
