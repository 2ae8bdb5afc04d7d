-- The plan of a bar: pieces cut off one after another.
use Rattle.std.specs.Prelude.{ℕ, false, ◌+◌, ◌-◌, ◌*◌, ◌≤◌, ◌<◌, ◌==◌, nat_le, if◌then◌else◌, List, [], ◌∷◌, length, sum_by}
use Rattle.cut_measure.specs.declared.ranges.TheConstants.{MAX_NUMBERS}
use Rattle.cut_tree.specs.declared.token.TheConstants.{MAX_CUTS}
use Rattle.cut_measure.specs.declared.sizes.Axis.TheVariants.{X}
use Rattle.cut_tree.specs.declared.bars.BarFault.{BarFault}
use Rattle.cut_tree.specs.declared.bars.BarFault.TheVariants.{TooLong, TooManyCuts, NoMemory}
use Rattle.cut_tree.specs.Tree.{Tree, Piece, Rest, Trim, Cut, cut_count}

-- a piece of a bar is a demand, which has a number that a demand may have, and a length
abbrev pub IsBarPiece : ℕ × ℕ → Type 0
IsBarPiece p = (1 ≤ p.0) × (p.0 ≤ MAX_NUMBERS) × (1 ≤ p.1)

-- the length of bar that pieces take, with a kerf between each two
abbrev pub bar_length : List (ℕ × ℕ) → (kerf : ℕ) → ℕ
bar_length pieces k = sum_by (λ p. p.1) pieces + (length pieces - 1) * k

-- The tree of pieces that a bar of this length has room for: in their order, each cut off at its own length. A last piece
-- that fills its part is a leaf without a cut, and what is left is a rest.
abbrev pub bar_tree : List (ℕ × ℕ) → (w kerf : ℕ) → Tree
bar_tree [] w k = Rest
bar_tree (p ∷ ps) w k =
    if p.1 == w then Piece p.0 false
    else if nat_le w (p.1 + k) then Trim X p.1 (Piece p.0 false)
    else Cut X p.1 (Piece p.0 false) (bar_tree ps (w - p.1 - k) k)

-- why there is no plan: the pieces are too long for the bar, or else their tree has over 255 cuts, or memory ran out
abbrev pub IsBarFault : BarFault → List (ℕ × ℕ) → (w kerf : ℕ) → Type 0
IsBarFault TooLong pieces w k = w < bar_length pieces k
IsBarFault TooManyCuts pieces w k = (bar_length pieces k ≤ w) × (MAX_CUTS < cut_count (bar_tree pieces w k))
IsBarFault NoMemory pieces w k = bar_length pieces k ≤ w
