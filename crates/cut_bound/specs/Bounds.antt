-- What all that is left costs at least: its worth, at what a worth costs if it is cut of one of the sizes.
use Rattle.std.specs.Prelude.{◌≡◌, ◌⊎◌, ℕ, ◌*◌, ◌-◌, ◌≤◌, List, All, Any, IfNone, map, sum_by, unwrap_or}
use Rattle.std.specs.Int.{div_ceil}
use Rattle.cut_measure.specs.Measures.{Size}
use Rattle.cut_tree.specs.Tree.{Tree}
use Rattle.cut_wants.specs.declared.wants.Want.{Want}
use Rattle.cut_wants.specs.Legal.{Legal, IsWithinCounts, worth_of}
use Rattle.cut_bound.specs.declared.stock.StockSize.{StockSize}
use Rattle.cut_bound.specs.declared.stock.BoundedSize.{BoundedSize}

-- no legal plan of a unit of this size, within the counts, is worth more
abbrev pub IsMost : List Want → (kerf : ℕ) → Size → ℕ → Type 0
IsMost wants kerf size best = (t : Tree) → Legal wants kerf t size.w size.h → IsWithinCounts wants t → worth_of wants t ≤ best

-- of each size no legal plan is worth more than its best
abbrev pub AreBounded : List Want → (kerf : ℕ) → List BoundedSize → Type 0
AreBounded wants kerf bounded = All (λ r. IsMost wants kerf r.stock.size r.best) bounded

-- the sizes that have a bound
abbrev pub sizes_of : List BoundedSize → List StockSize
sizes_of bounded = map (λ r. r.stock) bounded

-- At the rate of the size t its cost is paid for its best worth. What the best worth of a unit of the size r costs so,
-- beyond the unit's own cost, or 0 where that is more; all of it times the best of t, so that nothing is divided.
abbrev pub excess : (t r : BoundedSize) → ℕ
excess t r = t.stock.cost * r.best - r.stock.cost * t.best

-- the excess of all units at hand of the limited sizes
abbrev pub excess_at_hand : BoundedSize → List BoundedSize → ℕ
excess_at_hand t bounded = sum_by (λ r. unwrap_or r.stock.limit 0 * excess t r) bounded

-- a unit of the size t is worth something, and at its rate no size without a limit has an excess
pub record SetsPrice (t : BoundedSize) (bounded : List BoundedSize) : Type 0 where
  pub some : 1 ≤ t.best
  pub unbeaten : All (λ r. IfNone r.stock.limit (excess t r ≡ 0)) bounded

-- what a worth costs at the rate of the size t, the excess of the units at hand taken off, rounded up
abbrev pub cost_at : BoundedSize → List BoundedSize → (worth : ℕ) → ℕ
cost_at t bounded worth = div_ceil (t.stock.cost * worth - excess_at_hand t bounded) t.best

-- the greatest f of those of xs that are P, or 0 where none is
pub record IsGreatest {A : Type 0} (P : A → Type 0) (f : A → ℕ) (xs : List A) (greatest : ℕ) : Type 0 where
  pub reached : (greatest ≡ 0) ⊎ Any (λ x. P x × (greatest ≡ f x)) xs
  pub most : All (λ x. P x → f x ≤ greatest) xs

-- the greatest cost at the rate of a size that sets the price, or 0 where none does
abbrev pub IsGreatestCost : List BoundedSize → (worth cost : ℕ) → Type 0
IsGreatestCost bounded worth cost = IsGreatest (λ t. SetsPrice t bounded) (λ t. cost_at t bounded worth) bounded cost
