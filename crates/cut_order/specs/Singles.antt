-- The tree of one piece on a unit.
use Rattle.std.specs.Prelude.{ℕ, ◌+◌, ◌==◌, ◌&&◌, Bool, true, false, nat_le, if◌then◌else◌}
use Rattle.cut_measure.specs.declared.sizes.Axis.{Axis}
use Rattle.cut_measure.specs.declared.sizes.Axis.TheVariants.{X, Y}
use Rattle.cut_measure.specs.Measures.{Size}
use Rattle.cut_tree.specs.Tree.{Tree, Piece, Rest, Trim, Cut}
use Rattle.cut_wants.specs.declared.wants.Want.{Want}

-- a tree on the first columns or rows of a rectangle, and what is after them left over
abbrev pub cut_off : Axis → (place side kerf : ℕ) → Tree → Tree
cut_off axis place side k first = if place == side then first else (if nat_le side (place + k) then Trim axis place first else Cut axis place first Rest)

-- a piece of w by h in the corner of a unit
abbrev pub cornered : (demand : ℕ) (turned : Bool) (w h kerf : ℕ) → Size → Tree
cornered demand turned w h k size = cut_off X w size.w k (cut_off Y h size.h k (Piece demand turned))

-- the want's piece fits without being turned
abbrev pub is_upright : Size → Want → Bool
is_upright size x = nat_le x.size.w size.w && nat_le x.size.h size.h

-- one piece of the want, turned where it has to be
abbrev pub single : (kerf : ℕ) → Size → Want → Tree
single k size x = if is_upright size x then cornered x.demand false x.size.w x.size.h k size else cornered x.demand true x.size.h x.size.w k size
