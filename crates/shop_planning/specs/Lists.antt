-- When the numbers of a query are in their ranges, and its lists are ones that are planned.
use Rattle.std.specs.Prelude.{ℕ, ◌==◌, ◌&&◌, ◌||◌, Bool, false, nat_eq, nat_le, nat_lt, List, [], ◌∷◌, length, Option, Some, None}
use Rattle.std.specs.List.{list_any}
use Rattle.cut_measure.specs.Names.{Name}
use Rattle.cut_bound.specs.declared.limits.TheConstants.{MAX_BOUGHT_SIZES, MAX_CALLS, MAX_ORDER_WANTS, MAX_PARTS}
use Rattle.cut_order.specs.Stocks.{is_stage_limit}
use Rattle.shop_records.specs.Same.{same_name}
use Rattle.shop_plans.specs.declared.limits.TheConstants.{UNIT_COST}
use Rattle.shop_plans.specs.declared.queries.BuySize.{BuySize}
use Rattle.shop_plans.specs.declared.queries.PlansQuery.{PlansQuery}

-- a remnant's cell costs 1 to 100, the search makes 1 to 5000 tables, and stages have a limit of 2 to 255 or none
abbrev pub is_in_range : PlansQuery → Bool
is_in_range q = nat_le 1 q.remnant && nat_le q.remnant UNIT_COST && nat_le 1 q.calls && nat_le q.calls MAX_CALLS && is_stage_limit q.stages

-- something stands twice
abbrev pub has_twice : {A : Type 0} → (A → A → Bool) → List A → Bool
has_twice same [] = false
has_twice same (x ∷ xs) = list_any (λ y. same y x) xs || has_twice same xs

-- demands are named that are no list of 1 to 100, each once
abbrev pub are_bad_demands : Option (List ℕ) → Bool
are_bad_demands None = false
are_bad_demands (Some ns) = length ns == 0 || nat_lt MAX_ORDER_WANTS (length ns) || has_twice nat_eq ns

-- parts are named that are no list of at most 1000, each once
abbrev pub are_bad_parts : Option (List Name) → Bool
are_bad_parts None = false
are_bad_parts (Some ns) = nat_lt MAX_PARTS (length ns) || has_twice same_name ns

abbrev pub same_sides : BuySize → BuySize → Bool
same_sides a b = a.h == b.h && a.w == b.w

-- one of the lists isn't planned; of sizes that may be bought there are at most 10, each once
abbrev pub has_bad_list : PlansQuery → Bool
has_bad_list q = are_bad_demands q.demands || are_bad_parts q.parts || nat_lt MAX_BOUGHT_SIZES (length q.buy) || has_twice same_sides q.buy
