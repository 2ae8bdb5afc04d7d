-- The plans that are reported, each with the parts that are cut by it, and their order.
use Rattle.std.specs.Prelude.{◌≡◌, ℕ, ◌+◌, ◌==◌, ◌&&◌, min, Bool, List, [], ◌∷◌, ◌++◌, drop, filter, fold, map, slice_get, take, Option, Some, None, option_map}
use Rattle.std.specs.List.{cons_option}
use Rattle.std.specs.List.Sorted.{IsPermutation, IsSorted}
use Rattle.std.specs.declared.cmp.Ordering.{Ordering}
use Rattle.std.specs.Ordering.{nat_cmp, ordering_then}
use Rattle.std.specs.Cmp.Lexicographic.{slice_cmp}
use Rattle.cut_measure.specs.Names.{name_cmp}
use Rattle.cut_tree.specs.Spelling.{text_of}
use Rattle.cut_bound.specs.declared.limits.TheConstants.{MAX_PARTS}
use Rattle.cut_bound.specs.declared.planned.PlannedUnit.{PlannedUnit}
use Rattle.cut_bound.specs.declared.stock.StockSize.{StockSize}
use Rattle.cut_bound.specs.Solutions.{units_at}
use Rattle.cut_bound.specs.Planned.{solution_of}
use Rattle.shop_plans.specs.declared.answers.ReportedPlan.{ReportedPlan}
use Rattle.shop_planning.specs.declared.instance.PlanInstance.{PlanInstance}
use Rattle.shop_planning.specs.declared.instance.StockPart.{StockPart}
use Rattle.shop_planning.specs.declared.response.Entry.{Entry}
use Rattle.shop_planning.specs.Shares.{shares_of}

-- by act, and then by node
abbrev pub by_name : StockPart → StockPart → Ordering
by_name a b = name_cmp a.name b.name

-- the same parts, by rising name
pub record IsRanked (parts ranked : List StockPart) : Type 0 where
  pub all : IsPermutation parts ranked
  pub rising : IsSorted by_name ranked

-- the part has the sides of the size, and costs as much
abbrev pub is_of : StockSize → StockPart → Bool
is_of s part = part.size.w == s.size.w && part.size.h == s.size.h && part.cost == s.cost

-- the place in the stock's list of the part that stands there first
abbrev pub first_place : List StockPart → ℕ
first_place parts = fold (λ first part. min first part.place) MAX_PARTS parts

-- so many parts of a size, by rising name, after those that other plans took
abbrev pub taken : List StockPart → (before : ℕ) → PlannedUnit → StockSize → List StockPart
taken ranked before u s = take u.times (drop before (filter (is_of s) ranked))

-- a plan by which parts of a size are cut
abbrev pub part_entry : List StockPart → (before : ℕ) → PlannedUnit → StockSize → Entry
part_entry ranked before u s =
    record {
      place = first_place (taken ranked before u s);
      reported = record { buy = 0; h = s.size.h; parts = map (λ (part : StockPart). part.name) (taken ranked before u s); tree = text_of u.plan.tree; w = s.size.w };
    }

-- a plan by which bought units of a size are cut: after all parts, by the place of the size
abbrev pub bought_entry : PlannedUnit → StockSize → Entry
bought_entry u s =
    record {
      place = MAX_PARTS + u.place;
      reported = record { buy = u.times; h = s.size.h; parts = []; tree = text_of u.plan.tree; w = s.size.w };
    }

abbrev pub entry_by : Option ℕ → List StockPart → (before : ℕ) → PlannedUnit → StockSize → Entry
entry_by None ranked before u s = bought_entry u s
entry_by (Some number) ranked before u s = part_entry ranked before u s

abbrev pub entry_of : List StockPart → (before : ℕ) → PlannedUnit → StockSize → Entry
entry_of ranked before u s = entry_by s.limit ranked before u s

-- the plans of units, one after another: each takes the parts that those before it left
abbrev pub entries_from : List StockSize → List StockPart → (before units : List PlannedUnit) → List Entry
entries_from sizes ranked before [] = []
entries_from sizes ranked before (u ∷ us) =
    cons_option (option_map (entry_of ranked (units_at (solution_of before) u.place) u) (slice_get sizes u.place)) (entries_from sizes ranked (before ++ u ∷ []) us)

abbrev pub entries_of : List StockSize → List StockPart → List PlannedUnit → List Entry
entries_of sizes ranked units = entries_from sizes ranked [] units

-- by the places, and then by the texts of the trees
abbrev pub in_order : Entry → Entry → Ordering
in_order a b = ordering_then (nat_cmp a.place b.place) (slice_cmp nat_cmp a.reported.tree b.reported.tree)

-- A plan for each size and each plan of a unit, with the parts of that size that are cut by it, or how many bought units
-- are: first those with parts, by the place in the stock's list of the part that stands there first, and then the others,
-- by the place of their size and then by the text.
pub record AreReportedPlans (instance : PlanInstance) (units : List PlannedUnit) (reported : List ReportedPlan) : Type 0 where
  pub ranked : List StockPart
  pub parts : IsRanked instance.parts.items ranked
  pub list : List Entry
  pub each : IsPermutation (entries_of instance.sizes.items ranked (shares_of units)) list
  pub ordered : IsSorted in_order list
  pub plans : reported ≡ map (λ (e : Entry). e.reported) list
