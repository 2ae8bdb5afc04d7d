use Rattle.shop_rows.proofs.Places.{tested, first_is_new, last_is_before, run_end, run_put, run_new}
use Rattle.shop_rows.proofs.rows.gap.Goals as goal

pub returns-clause-put : goal.returns-clause-put
returns-clause-put g c =
    run_put g.R.KeyedRow.key_of g.R.Key.RowKey.cmp g.met.R.Key.RowKey.total g.met.R.Key.RowKey.exact c.args.rows.now (tested _ c.requires) c.in-Err.i c.args.first c.args.last
    c.in-Err.ensures.range c.in-Err.ensures.position (c.is_before.ensures.yes c.if-not-is_before.false)

pub returns-clause-new : goal.returns-clause-new
returns-clause-new g c =
    run_new g.R.KeyedRow.key_of g.R.Key.RowKey.cmp g.met.R.Key.RowKey.total g.met.R.Key.RowKey.exact c.args.rows.now (tested _ c.requires) c.in-Err.i c.args.first c.args.last
    c.in-Err.ensures.range c.in-Err.ensures.position (c.is_before.ensures.yes c.if-not-is_before.false)

-- where it stands together with others that rise, neither is in its way
pub returns-in_default-clause-none : goal.returns-in_default-clause-none
returns-in_default-clause-none g c = λ added i run within together.
    let x = run_end g.R.KeyedRow.key_of g.R.Key.RowKey.cmp g.met.R.Key.RowKey.total g.met.R.Key.RowKey.exact added 0 c.args.first run.begins in
    first_is_new g.R.KeyedRow.key_of g.R.Key.RowKey.cmp g.met.R.Key.RowKey.total g.met.R.Key.RowKey.exact c.args.rows.now added i (tested _ together) c.args.first c.args.last within run
    c.in_default.field-0 x.0 c.in_default.ensures.range (c.in_default.ensures.position x.0)

pub returns-then-not-is_before-clause-none : goal.returns-then-not-is_before-clause-none
returns-then-not-is_before-clause-none g c = λ added i run within together.
    let x = run_end g.R.KeyedRow.key_of g.R.Key.RowKey.cmp g.met.R.Key.RowKey.total g.met.R.Key.RowKey.exact added 0 c.args.first run.begins in
    let no = c.is_before.ensures.no c.if-not-is_before.true in
    no.1 x.0
    (last_is_before g.R.KeyedRow.key_of g.R.Key.RowKey.cmp g.met.R.Key.RowKey.total g.met.R.Key.RowKey.exact c.args.rows.now added i (tested _ together) c.args.first c.args.last within run
    (tested _ c.requires) c.in-Err.i x.0 no.0 c.in-Err.ensures.position)
