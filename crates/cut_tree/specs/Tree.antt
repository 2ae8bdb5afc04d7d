-- Cutting trees: what they are, which follow the rule of cuts, and sums over their leaves.
use Rattle.std.specs.Prelude.{ℕ, Bool, ◌+◌, ◌-◌, ◌≤◌, ◌<◌, ◌==◌, if◌then◌else◌}
use Rattle.cut_measure.specs.declared.sizes.Axis.{Axis}
use Rattle.cut_measure.specs.declared.sizes.Axis.TheVariants.{X, Y}

-- A piece of a demand, turned or not; a rest; a cut after which the saw leaves nothing; a cut with a second part.
pub data Tree : Type 0 where
  Piece : (demand : ℕ) (turned : Bool) → Tree
  Rest : Tree
  Trim : (axis : Axis) (place : ℕ) (first : Tree) → Tree
  Cut : (axis : Axis) (place : ℕ) (first second : Tree) → Tree

-- The tree cuts a rectangle of w by h with a saw of width k, and each piece leaf is as `leaf` says of its demand, whether
-- it is turned, and its sides. A cut's place is inside the side that it divides, its first part has that place as its
-- side, and it has a second part exactly where the saw leaves something of the rectangle.
abbrev pub CutsInto : (leaf : ℕ → Bool → ℕ → ℕ → Type 0) → Tree → (w h kerf : ℕ) → Type 0
CutsInto leaf (Piece demand turned) w h k = leaf demand turned w h
CutsInto leaf Rest w h k = Unit {0}
CutsInto leaf (Trim X a first) w h k = (1 ≤ a) × (a < w) × (w ≤ a + k) × CutsInto leaf first a h k
CutsInto leaf (Trim Y a first) w h k = (1 ≤ a) × (a < h) × (h ≤ a + k) × CutsInto leaf first w a k
CutsInto leaf (Cut X a first second) w h k =
    (1 ≤ a) × (a + k < w) × CutsInto leaf first a h k × CutsInto leaf second (w - a - k) h k
CutsInto leaf (Cut Y a first second) w h k =
    (1 ≤ a) × (a + k < h) × CutsInto leaf first w a k × CutsInto leaf second w (h - a - k) k

-- the cuts follow the rule, whatever the pieces are
abbrev pub IsShaped : Tree → (w h kerf : ℕ) → Type 0
IsShaped tree w h k = CutsInto (λ _ _ _ _. Unit {0}) tree w h k

-- the sum of f over the demands of the piece leaves
abbrev pub leaf_sum : (ℕ → ℕ) → Tree → ℕ
leaf_sum f (Piece demand turned) = f demand
leaf_sum f Rest = 0
leaf_sum f (Trim axis a first) = leaf_sum f first
leaf_sum f (Cut axis a first second) = leaf_sum f first + leaf_sum f second

-- how many piece leaves of a demand a tree has
abbrev pub count_of : Tree → ℕ → ℕ
count_of tree demand = leaf_sum (λ d. if d == demand then 1 else 0) tree

-- how many nodes a tree has
abbrev pub node_count : Tree → ℕ
node_count (Piece demand turned) = 1
node_count Rest = 1
node_count (Trim axis a first) = 1 + node_count first
node_count (Cut axis a first second) = 1 + node_count first + node_count second

-- how many cuts a tree has
abbrev pub cut_count : Tree → ℕ
cut_count (Piece demand turned) = 0
cut_count Rest = 0
cut_count (Trim axis a first) = 1 + cut_count first
cut_count (Cut axis a first second) = 1 + cut_count first + cut_count second
