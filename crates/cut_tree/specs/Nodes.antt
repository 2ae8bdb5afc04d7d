-- The tree that a plan's nodes stand for, and the rows that the plan lays, node by node.
use Rattle.std.specs.Prelude.{ℕ, zero, suc, ◌+◌, ◌-◌, ◌<◌, ◌^◌, List, [], ◌∷◌, ◌++◌, if◌then◌else◌}
use Rattle.cut_measure.specs.declared.sizes.Axis.{Axis}
use Rattle.cut_measure.specs.declared.sizes.Axis.TheVariants.{X, Y}
use Rattle.cut_tree.specs.declared.lay.Owner.{Owner}
use Rattle.cut_tree.specs.declared.lay.Owner.TheVariants as owner
use Rattle.cut_tree.specs.declared.lay.Row.{Row}
use Rattle.cut_tree.specs.declared.lay.Rect.{Rect}
use Rattle.cut_tree.specs.declared.node.Node.{Node}
use Rattle.cut_tree.specs.declared.node.Node.TheVariants as node
use Rattle.cut_tree.specs.Tree.{Tree, Piece, Rest, Trim, Cut, node_count, cut_count}
use Rattle.cut_tree.specs.Cells.{Outcome, Made, LeftWhole, Spoiled, Split, is_split}

-- the tree, without where its nodes lie in memory
abbrev pub tree_of : Node → Tree
tree_of (node.Piece demand turned) = Piece demand turned
tree_of node.Rest = Rest
tree_of (node.Trim' axis a p first) = Trim axis a (tree_of first)
tree_of (node.Cut' axis a p first q second) = Cut axis a (tree_of first) (tree_of second)

-- the side of a rectangle that a cut along an axis divides
abbrev pub side_of : Rect → Axis → ℕ
side_of r X = r.w
side_of r Y = r.h

-- the first columns or rows of a rectangle
abbrev pub first_rect : Rect → Axis → ℕ → Rect
first_rect r X n = record r { w = n }
first_rect r Y n = record r { h = n }

-- what is after its first columns or rows
abbrev pub rest_rect : Rect → Axis → ℕ → Rect
rest_rect r X n = record r { x = r.x + n; w = r.w - n }
rest_rect r Y n = record r { y = r.y + n; h = r.h - n }

-- its far sides are numbers of 32 bits
abbrev pub FarSidesFit : Rect → Type 0
FarSidesFit r = (r.x + r.w < 2 ^ 32) × (r.y + r.h < 2 ^ 32)

-- the rows of a rectangle that is one node's, which are none where it has no cell
abbrev pub one_row : ℕ → (x y w h : ℕ) → Owner → List Row
one_row n x y w h owner = record { node = n; x = x; y = y; w = w; h = h; owner = owner } ∷ []

-- the kerf strip of a cut, unless the saw has no width
abbrev pub strip_row : ℕ → ℕ → (x y w h : ℕ) → List Row
strip_row zero n x y w h = []
strip_row (suc k) n x y w h = one_row n x y w h owner.Kerf

-- what is lost of a rectangle whose cut went wrong, and the rest that is left of it
abbrev pub split_rows : Axis → ℕ → (x y w h rest : ℕ) → List Row
split_rows X n x y w h rest =
    if is_split rest w then one_row n x y (w - rest) h owner.Lost ++ one_row (n + 1) (x + (w - rest)) y rest h owner.Rest
    else one_row n x y w h owner.Lost
split_rows Y n x y w h rest =
    if is_split rest h then one_row n x y w (h - rest) owner.Lost ++ one_row (n + 1) x (y + (h - rest)) w rest owner.Rest
    else one_row n x y w h owner.Lost

abbrev pub rows_by_outcome : Axis → Outcome → List Row → ℕ → (x y w h : ℕ) → List Row
rows_by_outcome axis Made made n x y w h = made
rows_by_outcome axis LeftWhole made n x y w h = one_row n x y w h owner.Uncut
rows_by_outcome axis Spoiled made n x y w h = one_row n x y w h owner.Lost
rows_by_outcome axis (Split rest) made n x y w h = split_rows axis n x y w h rest

-- the rows of a tree on the rectangle at (x, y) of w by h, its first node being number n and its first cut number c
abbrev pub rows_of : Tree → (x y w h kerf : ℕ) → (ℕ → Outcome) → (n c : ℕ) → List Row
rows_of (Piece demand turned) x y w h k outcome n c = one_row n x y w h (owner.Piece demand)
rows_of Rest x y w h k outcome n c = one_row n x y w h owner.Rest
rows_of (Trim X a first) x y w h k outcome n c =
    rows_by_outcome X (outcome c)
    (strip_row k n (x + a) y (w - a) h ++ rows_of first x y a h k outcome (n + 1) (c + 1))
    n x y w h
rows_of (Trim Y a first) x y w h k outcome n c =
    rows_by_outcome Y (outcome c)
    (strip_row k n x (y + a) w (h - a) ++ rows_of first x y w a k outcome (n + 1) (c + 1))
    n x y w h
rows_of (Cut X a first second) x y w h k outcome n c =
    rows_by_outcome X (outcome c)
    (strip_row k n (x + a) y k h ++ rows_of first x y a h k outcome (n + 1) (c + 1)
    ++ rows_of second (x + a + k) y (w - a - k) h k outcome (n + 1 + node_count first) (c + 1 + cut_count first))
    n x y w h
rows_of (Cut Y a first second) x y w h k outcome n c =
    rows_by_outcome Y (outcome c)
    (strip_row k n x (y + a) w k ++ rows_of first x y w a k outcome (n + 1) (c + 1)
    ++ rows_of second x (y + a + k) w (h - a - k) k outcome (n + 1 + node_count first) (c + 1 + cut_count first))
    n x y w h
