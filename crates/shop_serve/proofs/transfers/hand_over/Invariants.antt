use Rattle.std.proofs.Common.{◌≤◌, ◌-◌, ℕ, List, length, take}
use Rattle.std.specs.Prelude.{Option}
use Rattle.std.specs.Io.KnownBytes.{Appends}
use Rattle.shop_serve.proofs.transfers.hand_over.Given as goal

abbrev pub invariant-loop-sent : goal.invariant-loop-sent
invariant-loop-sent g l =
    record {
      within : l.sent ≤ length l.answer;
      bytes : (before : Option (List ℕ)) → Appends before (g.C.Connection.contents l.fn.stream) (take l.fn.sent l.answer) → Appends before (g.C.Connection.contents l.stream) (take l.sent l.answer);
    }

abbrev pub decreases-loop-sent : goal.decreases-loop-sent
decreases-loop-sent g l = length l.answer - l.sent
