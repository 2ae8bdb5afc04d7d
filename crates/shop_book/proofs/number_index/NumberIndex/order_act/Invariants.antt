use Rattle.std.proofs.Common.{take}
use Rattle.shop_book.specs.Filing.{PassesNone}
use Rattle.shop_book.specs.Pieces.{IsFiledForOrder}
use Rattle.shop_book.proofs.number_index.NumberIndex.order_act.Given as goal

abbrev pub invariant-loop-row : goal.invariant-loop-row
invariant-loop-row l = PassesNone (IsFiledForOrder l.self (take l.row-index l.rows) l.order) l.last l.first
