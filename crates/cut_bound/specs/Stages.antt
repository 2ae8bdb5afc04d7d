-- The stages of a plan: the most that one of its pieces takes.
use Rattle.std.specs.Prelude.{ℕ, ◌+◌, ◌≤◌, Option, None, Some, IfSome, max}
use Rattle.cut_measure.specs.declared.sizes.Axis.{Axis}
use Rattle.cut_measure.specs.declared.sizes.Axis.TheVariants.{X, Y}
use Rattle.cut_tree.specs.Tree.{Tree, Piece, Rest, Trim, Cut}

-- 1 if a cut along an axis begins a run, which it does unless the cut before it has the same axis
abbrev pub turn : (last : Option Axis) → Axis → ℕ
turn None axis = 1
turn (Some X) X = 0
turn (Some X) Y = 1
turn (Some Y) X = 1
turn (Some Y) Y = 0

-- The most runs of parallel cuts, trims among them, on a way from the root to a piece of the tree. `taken` of them are
-- above the tree, the lowest along `last`. A tree without a piece has none.
abbrev pub stages_below : (last : Option Axis) (taken : ℕ) → Tree → ℕ
stages_below last taken (Piece demand turned) = taken
stages_below last taken Rest = 0
stages_below last taken (Trim axis a first) = stages_below (Some axis) (taken + turn last axis) first
stages_below last taken (Cut axis a first second) =
    max (stages_below (Some axis) (taken + turn last axis) first) (stages_below (Some axis) (taken + turn last axis) second)

-- the stages of a whole tree
abbrev pub stage_count : Tree → ℕ
stage_count tree = stages_below None 0 tree

-- the tree has at most so many stages, where there is a limit
abbrev pub IsStaged : (most : Option ℕ) → Tree → Type 0
IsStaged most tree = IfSome most (λ n. stage_count tree ≤ n)
