use Rattle.std.proofs.Common.{◌≡◌, ◌+◌, ◌-◌, ◌≤◌, ◌++◌, ◌^◌, length, take}
use Rattle.std.specs.Prelude.{filter}
use Rattle.shop_rows.specs.PartRows.{parts_in}
use Rattle.shop_book.specs.Ledgers.{content_in}
use Rattle.shop_book.specs.Filing.{first_left}
use Rattle.shop_book.specs.Pieces.{is_asked}
use Rattle.shop_book.proofs.ReportedPieces.{is_left}
use Rattle.shop_book.proofs.ledger.Ledger.asked_pieces.Given as goal

-- the pieces so far and those of the acts that are left are all
abbrev pub invariant-loop-lines : goal.invariant-loop-lines
invariant-loop-lines l =
    let asked = is_asked (content_in l.self) l.asked in
    record {
      few : length l.rows ≤ l.asked.most;
      reported : take l.asked.most (l.rows ++ filter (is_left asked (first_left l.last)) (parts_in l.self.parts)) ≡ take l.asked.most (filter asked (parts_in l.self.parts));
    }

abbrev pub decreases-loop-lines : goal.decreases-loop-lines
decreases-loop-lines l = 2 ^ 32 + 1 - first_left l.last
