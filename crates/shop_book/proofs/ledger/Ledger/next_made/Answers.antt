use Rattle.std.proofs.Common.{refl, subst, sym}
use Rattle.std.specs.Prelude.{IsTrue}
use Rattle.shop_records.specs.declared.pieces.PieceSource.{PieceSource}
use Rattle.shop_records.specs.declared.pieces.PieceSource.TheVariants as source
use Rattle.shop_rows.specs.PartRows.{parts_in}
use Rattle.shop_book.specs.Ledgers.{content_in}
use Rattle.shop_book.specs.Filing.{is_filed_in, is_filed_of, PassesNone}
use Rattle.shop_book.specs.Pieces.{HaveLinesOf, IsFiledForOrder, MadePiece}
use Rattle.shop_book.proofs.Filed.{batch_made, order_made, passes_fewer, unit_made}
use Rattle.shop_book.proofs.ledger.Ledger.next_made.Goals as goal

pub returns-in-Order : goal.returns-in-Order
returns-in-Order c =
    let book = c.args.self.now in
    let parts = parts_in book.parts in
    let demands = book.demands.items in
    let rows = c.args.lines.now in
    let order = c.in-Order.order in
    let lines = subst (λ (of : PieceSource). HaveLinesOf of demands rows) c.in-Order.is c.requires in
    subst (λ (of : PieceSource). PassesNone (MadePiece (content_in book) parts of) c.args.last c.order_act.result) (sym c.in-Order.is)
    (passes_fewer (IsFiledForOrder book.pieces rows order) (MadePiece (content_in book) parts (source.Order order)) c.args.last c.order_act.result
    (order_made book.pieces (content_in book) parts book.kept_up.filed demands rows book.kept_up.demands_rise refl order lines)
    c.order_act.ensures)

pub returns-in-Batch : goal.returns-in-Batch
returns-in-Batch c =
    let book = c.args.self.now in
    let parts = parts_in book.parts in
    let batch = c.in-Batch.batch in
    subst (λ (of : PieceSource). PassesNone (MadePiece (content_in book) parts of) c.args.last c.next_of.result) (sym c.in-Batch.is)
    (passes_fewer (λ act. IsTrue (is_filed_of book.pieces batch act)) (MadePiece (content_in book) parts (source.Batch batch)) c.args.last c.next_of.result
    (batch_made book.pieces (content_in book) parts book.kept_up.filed batch)
    c.next_of.ensures)

pub returns-in-Unit : goal.returns-in-Unit
returns-in-Unit c =
    let book = c.args.self.now in
    let parts = parts_in book.parts in
    let unit = c.in-Unit.unit in
    subst (λ (of : PieceSource). PassesNone (MadePiece (content_in book) parts of) c.args.last c.next_in.result) (sym c.in-Unit.is)
    (passes_fewer (λ act. IsTrue (is_filed_in book.pieces unit act)) (MadePiece (content_in book) parts (source.Unit unit)) c.args.last c.next_in.result
    (unit_made book.pieces (content_in book) parts book.kept_up.filed unit)
    c.next_in.ensures)
