use Rattle.std.proofs.Common.{sym, ap, ◌∙◌}
use Rattle.shop_rows.proofs.Places.{tested, row_found, row_missed}
use Rattle.shop_rows.proofs.rows.at.Goals as goal

pub returns-in-Ok-clause-row : goal.returns-in-Ok-clause-row
returns-in-Ok-clause-row g c =
    sym (row_found g.R.KeyedRow.key_of g.R.Key.RowKey.cmp g.met.R.Key.RowKey.total g.met.R.Key.RowKey.exact c.args.rows.now (tested _ c.requires) c.in-Ok.i c.index-rows-i.result c.args.key
    c.in-Ok.ensures.range c.index-rows-i.is c.in-Ok.ensures.position)

pub returns-in-Err-clause-row : goal.returns-in-Err-clause-row
returns-in-Err-clause-row g c =
    sym (row_missed g.R.KeyedRow.key_of g.R.Key.RowKey.cmp g.met.R.Key.RowKey.total g.met.R.Key.RowKey.exact c.args.rows.now (tested _ c.requires) c.in-Err.field-0 c.args.key
    c.in-Err.ensures.range c.in-Err.ensures.position)

pub returns-in-Ok-clause-key : goal.returns-in-Ok-clause-key
returns-in-Ok-clause-key g c =
    g.met.R.Key.RowKey.exact (g.R.KeyedRow.key_of c.index-rows-i.result) c.args.key (ap (λ row. g.R.Key.RowKey.cmp (g.R.KeyedRow.key_of row) c.args.key) c.index-rows-i.is ∙ c.in-Ok.ensures.position c.index-rows-i.result)
