-- The demands of a plan: how its pieces are counted for them, and the rows that were found for its leaves.
use Rattle.std.specs.Prelude.{◌≡◌, ◌≢◌, ℕ, ◌+◌, ◌-◌, ◌≤◌, List, [], ◌∷◌, map, Option, Some, MatchOption, All, Any, AllPairs, ◌⊎◌, ◌++◌, ◌<◌, ◌^◌, IfSome, count_by}
use Rattle.cut_tree.specs.declared.leaves.Leaf.{Leaf}
use Rattle.cut_tree.specs.declared.lay.Row.{Row}
use Rattle.cut_tree.specs.Tree.{Tree, count_of}
use Rattle.cut_tree.specs.Patterns.{Pattern}
use Rattle.cut_tree.specs.Leaves.{leaves_of}
use Rattle.cut_tree.specs.Counting.{is_demand_piece}
use Rattle.shop_records.specs.declared.records.Demand.{Demand}
use Rattle.shop_machine.specs.declared.recounts.FoundLeaf.{FoundLeaf}
use Rattle.shop_machine.specs.declared.recounts.Recount.{Recount}
use Rattle.shop_machine.specs.declared.recounts.Recount.TheVariants.{Reserved, Laid, Freed, Unmade}

abbrev pub plan_leaves : Pattern → List Leaf
plan_leaves plan = leaves_of plan.tree plan.w plan.h plan.kerf

-- The rows are those of the tree's demands, each once, recounted by how many of the tree's pieces are its own. A function
-- finds the rows before.
pub record AreRecounted (at : ℕ → Option Demand) (recount : ℕ → Demand → Demand) (tree : Tree) (rows : List Demand) : Type 0 where
  pub only : All (λ row. (before : Demand) × (at row.number ≡ Some before) × (1 ≤ count_of tree row.number) × (row ≡ recount (count_of tree row.number) before)) rows
  pub each : (number : ℕ) → 1 ≤ count_of tree number → Any (λ row. row.number ≡ number) rows
  pub once : AllPairs (λ a b. a.number ≢ b.number) rows

-- so many more are reserved
abbrev pub with_reserved : ℕ → Demand → Demand
with_reserved n demand = record demand { reserved = demand.reserved + n }

-- so many are free again
abbrev pub with_freed : ℕ → Demand → Demand
with_freed n demand = record demand { reserved = demand.reserved - n }

-- how many of the laid rows are pieces of the demand
abbrev pub pieces_in : ℕ → List Row → ℕ
pieces_in number laid = count_by (λ row. is_demand_piece number row.owner) laid

-- so many are no longer reserved, and those of them that are laid are made
abbrev pub with_laid : List Row → ℕ → Demand → Demand
with_laid laid n demand = record demand { reserved = demand.reserved - n; made = demand.made + pieces_in demand.number laid }

-- those that were laid aren't made any more
abbrev pub with_unmade : List Row → ℕ → Demand → Demand
with_unmade laid n demand = record demand { made = demand.made - pieces_in demand.number laid }

abbrev pub leaves_in : List FoundLeaf → List Leaf
leaves_in found = map (λ (f : FoundLeaf). f.leaf) found

-- the rows of the demands are those that the function finds
abbrev pub AreDemandsFound : (ℕ → Option Demand) → List FoundLeaf → Type 0
AreDemandsFound at found = All (λ f. f.demand ≡ at f.leaf.demand) found

abbrev pub recount_by : Recount → ℕ → Demand → Demand
recount_by Reserved n demand = with_reserved n demand
recount_by (Laid laid) n demand = with_laid laid.now n demand
recount_by Freed n demand = with_freed n demand
recount_by (Unmade laid) n demand = with_unmade laid.now n demand

-- the counts stay in range
abbrev pub CanRecount : Recount → ℕ → Demand → Type 0
CanRecount Reserved n demand = demand.reserved + n < 2 ^ 32
CanRecount (Laid laid) n demand = (n ≤ demand.reserved) × (demand.made + pieces_in demand.number laid.now < 2 ^ 32)
CanRecount Freed n demand = n ≤ demand.reserved
CanRecount (Unmade laid) n demand = pieces_in demand.number laid.now ≤ demand.made

-- so many are reserved, and can be made
abbrev pub CanBeMade : ℕ → Demand → Type 0
CanBeMade n demand = (n ≤ demand.reserved) × (demand.made + n < 2 ^ 32)

-- The row of a leaf's demand is there, under its own number, with room for the tree's pieces.
abbrev pub HasRow : (allows : ℕ → Demand → Type 0) → Tree → FoundLeaf → Type 0
HasRow allows tree found =
    MatchOption found.demand ⊥ (λ demand. (demand.number ≡ found.leaf.demand) × allows (count_of tree found.leaf.demand) demand)

-- where the row of a leaf's demand is there, it stands under its own number
abbrev pub IsNumbered : FoundLeaf → Type 0
IsNumbered found = IfSome found.demand (λ demand. demand.number ≡ found.leaf.demand)

-- the leaves are of one demand, with one row
abbrev pub IsAlike : FoundLeaf → FoundLeaf → Type 0
IsAlike found other = (other.leaf.demand ≡ found.leaf.demand) × (other.demand ≡ found.demand)

-- the row stands after the others, unless one of its number is there
abbrev pub IsAddedOnce : List Demand → Demand → List Demand → Type 0
IsAddedOnce old row new =
    (Any (λ other. other.number ≡ row.number) old × (new ≡ old))
    ⊎ (All (λ other. other.number ≢ row.number) old × (new ≡ old ++ row ∷ []))
