use Rattle.std.proofs.Common.{take}
use Rattle.std.specs.Prelude.{All}
use Rattle.cut_wants.specs.Legal.{IsWantedPiece}
use Rattle.cut_bound.proofs.planned.are_wanted.Given as goal

abbrev pub invariant-loop-leaf : goal.invariant-loop-leaf
invariant-loop-leaf l = All (λ f. IsWantedPiece l.wants f.demand f.turned f.w f.h) (take l.leaf-index l.leaves)
