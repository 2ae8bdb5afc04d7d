-- The piece leaves of a tree, node by node.
use Rattle.std.specs.Prelude.{ℕ, ◌-◌, List, [], ◌∷◌, ◌++◌}
use Rattle.cut_measure.specs.declared.sizes.Axis.TheVariants.{X, Y}
use Rattle.cut_tree.specs.declared.leaves.Leaf.{Leaf}
use Rattle.cut_tree.specs.Tree.{Tree, Piece, Rest, Trim, Cut}

-- the piece leaves of a tree on w by h: a cut's first part comes before its second
abbrev pub leaves_of : Tree → (w h kerf : ℕ) → List Leaf
leaves_of (Piece demand turned) w h k = record { demand = demand; turned = turned; w = w; h = h } ∷ []
leaves_of Rest w h k = []
leaves_of (Trim X a first) w h k = leaves_of first a h k
leaves_of (Trim Y a first) w h k = leaves_of first w a k
leaves_of (Cut X a first second) w h k = leaves_of first a h k ++ leaves_of second (w - a - k) h k
leaves_of (Cut Y a first second) w h k = leaves_of first w a k ++ leaves_of second w (h - a - k) k
