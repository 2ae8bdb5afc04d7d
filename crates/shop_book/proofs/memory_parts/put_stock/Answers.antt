use Rattle.std.proofs.Common.{◌+◌, length, arith}
use Rattle.shop_book.proofs.Tallied.{spares_fewer}
use Rattle.shop_book.proofs.memory_parts.put_stock.Goals as goal

pub put_one_by_one-requires-clause-spares : goal.put_one_by_one-requires-clause-spares
put_one_by_one-requires-clause-spares c =
    let undone = c.args.undone.now in
    let rows = c.args.rows.now in
    spares_fewer (length undone + length rows) (length undone) undone c.put_moved.new.parts c.put_moved.new.totals c.put_moved.new.lists.items (omega arith)
    (c.put_moved.ensures.spares (length undone + length rows) undone c.requires.undone)

pub put_parts-requires-clause-spares : goal.put_parts-requires-clause-spares
put_parts-requires-clause-spares c =
    let undone = c.args.undone.now in
    let rows = c.args.rows.now in
    c.put_one_by_one.ensures.spares (length rows) rows (c.put_moved.ensures.spares (length undone + length rows) rows c.requires.spares)
