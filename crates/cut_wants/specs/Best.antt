-- The greatest value that a tree of a class has.
use Rattle.std.specs.Prelude.{◌≡◌, ℕ, ◌≤◌, List}
use Rattle.cut_wants.specs.declared.wants.Want.{Want}
use Rattle.cut_tree.specs.Tree.{Tree}
use Rattle.cut_wants.specs.Legal.{Legal, worth_of, IsWithinCounts}

pub record IsBest (wants : List Want) (class : Tree → Type 0) (best : ℕ) : Type 0 where
  pub found : (t : Tree) × class t × (worth_of wants t ≡ best)
  pub most : (t : Tree) → class t → worth_of wants t ≤ best

-- over all legal trees, with any number of pieces
abbrev pub IsBestOf : List Want → ℕ → ℕ → ℕ → ℕ → Type 0
IsBestOf wants k w h best = IsBest wants (λ t. Legal wants k t w h) best

-- over the legal trees within the counts
abbrev pub IsBestWithin : List Want → ℕ → ℕ → ℕ → ℕ → Type 0
IsBestWithin wants k w h best = IsBest wants (λ t. Legal wants k t w h × IsWithinCounts wants t) best
