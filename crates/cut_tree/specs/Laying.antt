-- Rows of rectangles that share a unit out among the nodes of a tree.
use Rattle.std.specs.Prelude.{ℕ, ◌≡◌, ◌+◌, ◌≤◌, ◌<◌, ◌↔◌, List, All, Any, AllPairs}
use Rattle.cut_tree.specs.declared.lay.Owner.{Owner}
use Rattle.cut_tree.specs.declared.lay.Row.{Row}
use Rattle.cut_tree.specs.Tree.{Tree}
use Rattle.cut_tree.specs.Cells.{Outcome, Location, location_of}

-- the row's rectangle holds the cell
pub record CoversCell (r : Row) (x y : ℕ) : Type 0 where
  pub left : r.x ≤ x
  pub right : x < r.x + r.w
  pub top : r.y ≤ y
  pub bottom : y < r.y + r.h

-- the cell (x, y) belongs to this node of the tree, as this owner's
pub record Owns (tree : Tree) (w h kerf : ℕ) (outcome : ℕ → Outcome) (node : ℕ) (owner : Owner) (x y : ℕ) : Type 0 where
  pub inside_width : x < w
  pub inside_height : y < h
  pub same_node : (location_of tree w h kerf outcome 0 0 x y).node ≡ node
  pub same_owner : (location_of tree w h kerf outcome 0 0 x y).owner ≡ owner

-- the row is where the location says that the cell (at_x, at_y) lies: its node, owner and sides, and the cell's place inside it
pub record IsLocation (r : Row) (s : Location) (at_x at_y : ℕ) : Type 0 where
  pub node : s.node ≡ r.node
  pub owner : s.owner ≡ r.owner
  pub w : s.w ≡ r.w
  pub h : s.h ≡ r.h
  pub x : r.x + s.x ≡ at_x
  pub y : r.y + s.y ≡ at_y

-- The rows share the cells of a unit of w by h out: the numbers of their nodes rise, each has a cell, the cells of a
-- row are those of its node, and each cell of the unit is in a row.
pub record IsLaid (tree : Tree) (w h kerf : ℕ) (outcome : ℕ → Outcome) (rows : List Row) : Type 0 where
  pub rising : AllPairs (λ r s. r.node < s.node) rows
  pub some_cell : All (λ r. (0 < r.w) × (0 < r.h)) rows
  pub own_cells : All (λ r. (x y : ℕ) → CoversCell r x y ↔ Owns tree w h kerf outcome r.node r.owner x y) rows
  pub own_place : All (λ r. (x y : ℕ) → CoversCell r x y → IsLocation r (location_of tree w h kerf outcome 0 0 x y) x y) rows
  pub each_cell : (x y : ℕ) → x < w → y < h → Any (λ r. CoversCell r x y) rows
