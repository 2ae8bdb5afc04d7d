-- The demands and the parts that a query asks for.
use Rattle.std.specs.Prelude.{◌≡◌, ◌≤◌, ℕ, ◌&&◌, not, nat_lt, Bool, false, List, count_by, filter, length, map, take, Option, Some, None, IfSome}
use Rattle.cut_measure.specs.declared.ranges.TheConstants.{MAX_NUMBERS}
use Rattle.cut_measure.specs.declared.sizes.Kind.{Kind}
use Rattle.cut_measure.specs.declared.sizes.Kind.TheVariants.{Bar, Sheet}
use Rattle.cut_measure.specs.Names.{Name}
use Rattle.cut_bars.specs.declared.bar.TheConstants.{MAX_BAR_LENGTH}
use Rattle.cut_bound.specs.declared.limits.TheConstants.{MAX_ORDER_WANTS, MAX_PARTS}
use Rattle.shop_records.specs.declared.records.Demand.{Demand}
use Rattle.shop_records.specs.declared.records.Part.{Part}
use Rattle.shop_records.specs.Columns.{is_free}
use Rattle.shop_records.specs.Content.{Content, demand_at, part_at}
use Rattle.shop_records.specs.Lists.{is_due_before, open_demands, parts_after}
use Rattle.shop_answers.specs.declared.planning.FoundDemand.{FoundDemand}
use Rattle.shop_answers.specs.Planning.{left_of}
use Rattle.shop_plans.specs.declared.queries.PlansQuery.{PlansQuery}
use Rattle.shop_planning.specs.declared.asking.AskedRows.{AskedRows}

-- ---- demands

-- the demand of a number, with its row if it is there
abbrev pub found_demand : Content → ℕ → FoundDemand
found_demand content n = record { number = n; demand = demand_at content n }

abbrev pub with_row : Demand → FoundDemand
with_row d = record { number = d.number; demand = Some d }

-- something is neither reserved nor made
abbrev pub has_left : Demand → Bool
has_left d = nat_lt 0 (left_of d)

-- how many of these demands come before one: those that are due earlier, those without a day last, and of one day the lower
-- numbers
abbrev pub before_it : Content → List Demand → Demand → ℕ
before_it content rows demand = count_by (λ other. is_due_before content other demand) rows

-- the first 100 of them in that order, those that fewer than 100 come before; they keep the order in which they stand
abbrev pub first_by_day : Content → List Demand → List Demand
first_by_day content rows = filter (λ demand. nat_lt (before_it content rows demand) MAX_ORDER_WANTS) rows

-- The demands that are named; or else the first 100 of the material by day of which something is left, by rising number. As a
-- number is at most 2147483647, so many rows are all.
abbrev pub demands_for : Content → List ℕ → Option (List ℕ) → List FoundDemand
demands_for content code None = map with_row (first_by_day content (filter has_left (take MAX_NUMBERS (open_demands content 0 (Some code)))))
demands_for content code (Some numbers) = map (found_demand content) numbers

-- ---- parts

-- a bar that is longer than what is planned
abbrev pub is_long : Kind → Part → Bool
is_long Bar part = nat_lt MAX_BAR_LENGTH part.size.w
is_long Sheet part = false

-- it stands, isn't reserved, and isn't too long
abbrev pub can_be_planned : Kind → Part → Bool
can_be_planned kind part = is_free part.state && not (is_long kind part)

-- the first 1000 of the rows that can be planned
abbrev pub first_planned : Kind → List Part → List (Option Part)
first_planned kind rows = map Some (take MAX_PARTS (filter (can_be_planned kind) rows))

-- The parts that are named, as far as they are there; or else the first 1000 of the material, by rising act and then node,
-- that can be planned, of the first 2147483647 that stand.
abbrev pub parts_for : Content → List ℕ → Kind → Option (List Name) → List (Option Part)
parts_for content code kind None = first_planned kind (take MAX_NUMBERS (parts_after content code None))
parts_for content code kind (Some names) = map (part_at content) names

-- at most 1000 parts are named
abbrev pub AreFewNames : Option (List Name) → Type 0
AreFewNames names = IfSome names (λ ns. length ns ≤ MAX_PARTS)

-- the rows that a query asks for
pub record AreAsked (content : Content) (kind : Kind) (q : PlansQuery) (rows : AskedRows) : Type 0 where
  pub demands : rows.demands.items ≡ demands_for content q.material q.demands
  pub parts : rows.parts.items ≡ parts_for content q.material kind q.parts
