use Rattle.std.proofs.Common.{◌≡◌, ◌≤◌, ◌++◌, length, take}
use Rattle.std.specs.Prelude.{filter}
use Rattle.shop_book.specs.Ledgers.{content_in}
use Rattle.shop_book.specs.Pieces.{is_asked}
use Rattle.shop_book.proofs.ledger.Ledger.push_act.Given as goal

abbrev pub invariant-loop-part : goal.invariant-loop-part
invariant-loop-part l =
    record {
      few : length l.rows ≤ l.asked.most;
      reported : l.rows ≡ take l.asked.most (l.fn.rows ++ filter (is_asked (content_in l.self) l.asked) (take l.part-index l.part-items));
    }
