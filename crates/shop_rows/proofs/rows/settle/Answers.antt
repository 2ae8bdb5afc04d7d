use Rattle.std.proofs.Common.{Bool, sym, subst}
use Rattle.shop_rows.specs.Rows.{SetsRow, IsTakenOut}
use Rattle.shop_rows.proofs.Places.{settled_put, settled_taken}
use Rattle.shop_rows.proofs.rows.settle.Goals as goal

pub returns-then-is_there-clause-settled : goal.returns-then-is_there-clause-settled
returns-then-is_there-clause-settled g c =
    subst (λ (b : Bool). SetsRow g.R.KeyedRow.key_of g.R.Key.RowKey.cmp (g.R.KeyedRow.key_of c.args.row) b c.args.rows.now.items c.put.new.rows.items) (sym c.if-is_there.true)
    (settled_put g.R.KeyedRow.key_of g.R.Key.RowKey.cmp g.met.R.Key.RowKey.total c.args.row c.args.rows.now.items c.put.new.rows.items c.put.ensures.put)

pub returns-clause-settled : goal.returns-clause-settled
returns-clause-settled g c =
    subst (λ (b : Bool). SetsRow g.R.KeyedRow.key_of g.R.Key.RowKey.cmp (g.R.KeyedRow.key_of c.args.row) b c.args.rows.now.items c.take_row.new.rows.items) (sym c.if-is_there.false)
    (settled_taken g.R.KeyedRow.key_of g.R.Key.RowKey.cmp g.met.R.Key.RowKey.total (g.R.KeyedRow.key_of c.args.row) c.args.rows.now.items c.take_row.new.rows.items
    (subst (λ k. IsTakenOut g.R.KeyedRow.key_of g.R.Key.RowKey.cmp k c.args.rows.now.items c.take_row.new.rows.items) c.key.ensures c.take_row.ensures.taken))
