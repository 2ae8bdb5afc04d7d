use Rattle.std.specs.List.{insert_slice}
use Rattle.shop_rows.proofs.Places.{met, of_none, rise-put_each, rise_inside, tested}
use Rattle.shop_rows.proofs.rows.run_place.Goals as goal

pub returns-clause-rising : goal.returns-clause-rising
returns-clause-rising g c =
    rise-put_each g.R.KeyedRow.key_of g.R.Key.RowKey.cmp g.met.R.Key.RowKey.total c.args.added.now c.args.rows.now (insert_slice c.args.rows.now c.in_ok-i.i c.args.added.now) (c.in_ok-i.ensures.put c.args.added.now c.in_ok-first.ensures.run) c.requires

pub returns-in_err-first-clause-none : goal.returns-in_err-first-clause-none
returns-in_err-first-clause-none g c =
    of_none c.from_residual.result (λ i within together.
    c.in_err-first.ensures.none (met _ (rise_inside g.R.KeyedRow.key_of g.R.Key.RowKey.cmp g.met.R.Key.RowKey.total g.met.R.Key.RowKey.exact c.args.rows.now c.args.added.now i (tested _ together))))
