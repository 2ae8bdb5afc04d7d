use Rattle.std.proofs.Common.{◌≡◌, ◌+◌, ◌++◌, drop}
use Rattle.shop_problems.specs.Wants.{wants_from, wants_of}
use Rattle.shop_problems.proofs.wants.wants_of.Given as goal

abbrev pub invariant-loop-piece : goal.invariant-loop-piece
invariant-loop-piece l = (l.wants.items ++ wants_from l.demand (drop l.piece-index l.pieces) ≡ wants_of l.pieces) × (l.demand ≡ l.piece-index + 1)
