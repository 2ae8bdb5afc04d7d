use Rattle.std.proofs.Common.{sym, arith}
use Rattle.shop_store.proofs.Chunks.{last_value}
use Rattle.shop_store.proofs.numbered.load_chunk.Goals as goal

pub returns-in-None : goal.returns-in-None
returns-in-None g c values is fit =
    let it = last_value g.T.Loadable.row_of values c.args.rows.now c.in-Some.last.now is (sym c.in-Some.ensures.value) in
    let number = c.in_ok-number.ensures it.1 it.3 in
    ((it.0, it.1, it.2, omega (arith, number)), (c.in_ok-row.ensures values is fit).1)
