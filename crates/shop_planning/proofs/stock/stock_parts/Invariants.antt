use Rattle.std.proofs.Common.{◌≡◌, ◌≤◌, ◌++◌, drop, length}
use Rattle.std.specs.Prelude.{All}
use Rattle.shop_planning.specs.Stock.{IsStockPart, parts_from, stock_parts}
use Rattle.shop_planning.proofs.stock.stock_parts.Given as goal

abbrev pub invariant-loop-row : goal.invariant-loop-row
invariant-loop-row l =
    record {
      items : l.parts.items ++ parts_from l.kind l.remnant (length l.parts.items) (drop l.row-index l.found) ≡ stock_parts l.kind l.remnant l.found;
      few : length l.parts.items ≤ l.row-index;
      well_formed : All (IsStockPart l.kind) l.parts.items;
    }
