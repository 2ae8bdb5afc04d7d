-- Rows that share a unit's cells out among the nodes of a tree, said of cells alone.
use Rattle.std.specs.Prelude.{ℕ, ◌<◌, ◌↔◌, List, All, Any, AllPairs}
use Rattle.cut_tree.specs.declared.lay.Row.{Row}
use Rattle.cut_tree.specs.Tree.{Tree}
use Rattle.cut_tree.specs.Cells.{Outcome}
use Rattle.cut_tree.specs.Laying.{CoversCell, Owns}

-- The numbers of the rows' nodes rise, each row has a cell, the cells of a row are those of its node and owner, and each cell
-- of the unit is in a row.
pub record SharesCells (tree : Tree) (w h kerf : ℕ) (outcome : ℕ → Outcome) (rows : List Row) : Type 0 where
  pub rising : AllPairs (λ r s. r.node < s.node) rows
  pub some_cell : All (λ r. (0 < r.w) × (0 < r.h)) rows
  pub own_cells : All (λ r. (x y : ℕ) → CoversCell r x y ↔ Owns tree w h kerf outcome r.node r.owner x y) rows
  pub each_cell : (x y : ℕ) → x < w → y < h → Any (λ r. CoversCell r x y) rows
