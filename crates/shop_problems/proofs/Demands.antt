-- Demands numbered one after another.
use Rattle.std.proofs.Common.{ℕ, suc, ◌+◌, ◌≤◌, List, [], ◌∷◌, length, arith}
use Rattle.std.proofs.lemmas.List.Elements.{All-cons, All-nil}
use Rattle.cut_plan.specs.Proposals.{AreDemands, HasDemandNumber}
use Rattle.shop_files.specs.declared.problems.Piece.{Piece}
use Rattle.shop_problems.specs.Wants.{want_of, wants_from}

-- such demands are in range
pub demands_from : (demand : ℕ) (pieces : List Piece) → 1 ≤ demand → demand + length pieces ≤ 2147483648 → AreDemands (wants_from demand pieces)
demands_from demand [] some few = All-nil HasDemandNumber
demands_from demand (p ∷ ps) some few =
    All-cons HasDemandNumber (want_of demand p) (wants_from (suc demand) ps) (some, omega (arith, few)) (demands_from (suc demand) ps (omega arith) (omega (arith, few)))
