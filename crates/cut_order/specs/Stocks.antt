-- Stocks that a search takes.
use Rattle.std.specs.Prelude.{◌≡◌, ℕ, ◌+◌, ◌≤◌, ◌&&◌, Bool, true, nat_le, IsTrue, List, All, Option, Some, None, length, sum_by, unwrap_or}
use Rattle.cut_measure.specs.declared.sizes.Kind.{Kind}
use Rattle.cut_measure.specs.declared.sizes.Kind.TheVariants.{Bar}
use Rattle.cut_bound.specs.declared.limits.TheConstants.{MAX_BOUGHT_SIZES, MAX_PARTS}
use Rattle.cut_bound.specs.declared.stock.StockSize.{StockSize}
use Rattle.cut_order.specs.declared.instance.TheConstants.{MIN_STAGES, MAX_COST, MAX_STAGES}

-- the units at hand of the limited sizes, together
abbrev pub parts_of : List StockSize → ℕ
parts_of sizes = sum_by (λ s. unwrap_or s.limit 0) sizes

-- each bar has a height of 1
abbrev pub AreFlat : Kind → List StockSize → Type 0
AreFlat kind sizes = kind ≡ Bar → All (λ s. s.size.h ≡ 1) sizes

-- at most 1010 sizes and 1000 units at hand, none too dear, and each bar with a height of 1
pub record IsStock (kind : Kind) (sizes : List StockSize) : Type 0 where
  pub few : length sizes ≤ MAX_PARTS + MAX_BOUGHT_SIZES
  pub at_hand : parts_of sizes ≤ MAX_PARTS
  pub cheap : All (λ s. s.cost ≤ MAX_COST) sizes
  pub flat : AreFlat kind sizes

-- the limit of a plan's stages, if there is one, is 2 to 255
abbrev pub is_stage_limit : Option ℕ → Bool
is_stage_limit None = true
is_stage_limit (Some n) = nat_le MIN_STAGES n && nat_le n MAX_STAGES

abbrev pub IsStageLimit : Option ℕ → Type 0
IsStageLimit stages = IsTrue (is_stage_limit stages)
