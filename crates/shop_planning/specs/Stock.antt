-- The stock of a query: its parts and what they cost, the sizes, and the step.
use Rattle.std.specs.Prelude.{◌≡◌, ◌≤◌, ℕ, ◌+◌, ◌*◌, ◌==◌, ◌&&◌, Bool, List, [], ◌∷◌, ◌++◌, count_by, filter_map, map, Option, Some, None, option_map, if◌then◌else◌}
use Rattle.std.specs.List.{list_any}
use Rattle.cut_measure.specs.declared.sizes.Kind.{Kind}
use Rattle.cut_measure.specs.declared.sizes.Kind.TheVariants.{Bar, Sheet}
use Rattle.cut_measure.specs.Measures.{Size, size_of}
use Rattle.cut_bound.specs.declared.stock.StockSize.{StockSize}
use Rattle.cut_order.specs.declared.instance.TheConstants.{MAX_COST}
use Rattle.shop_records.specs.declared.records.Part.{Part}
use Rattle.shop_records.specs.Columns.{is_whole}
use Rattle.shop_answers.specs.Planning.{planned_size}
use Rattle.shop_plans.specs.declared.limits.TheConstants.{UNIT_COST}
use Rattle.shop_plans.specs.declared.queries.BuySize.{BuySize}
use Rattle.shop_planning.specs.declared.instance.StockPart.{StockPart}

-- ---- parts

-- each cell of a unit costs 100, and one of a remnant as much as the query says
abbrev pub part_cost : (remnant : ℕ) → Part → Size → ℕ
part_cost remnant part size = if is_whole part then size.w * size.h * UNIT_COST else size.w * size.h * remnant

-- a part at a place of the stock's list
abbrev pub stock_part : Kind → (remnant place : ℕ) → Part → StockPart
stock_part kind remnant place part =
    record { name = part.name; size = planned_size kind part.size; cost = part_cost remnant part (planned_size kind part.size); place = place }

-- the parts of the rows, their places numbered from this one on
abbrev pub parts_from : Kind → (remnant place : ℕ) → List (Option Part) → List StockPart
parts_from kind remnant place [] = []
parts_from kind remnant place (None ∷ rows) = parts_from kind remnant place rows
parts_from kind remnant place (Some part ∷ rows) = stock_part kind remnant place part ∷ parts_from kind remnant (place + 1) rows

abbrev pub stock_parts : Kind → (remnant : ℕ) → List (Option Part) → List StockPart
stock_parts kind remnant rows = parts_from kind remnant 0 rows

-- a part isn't too dear, and a bar has height 1
pub record IsStockPart (kind : Kind) (part : StockPart) : Type 0 where
  pub cheap : part.cost ≤ MAX_COST
  pub flat : kind ≡ Bar → part.size.h ≡ 1

-- ---- sizes

-- the items of xs of which none before is alike, where those of `seen` stand before
abbrev pub firsts : {A : Type 0} → (A → A → Bool) → (seen xs : List A) → List A
firsts alike seen [] = []
firsts alike seen (x ∷ xs) = if list_any (alike x) seen then firsts alike (seen ++ x ∷ []) xs else x ∷ firsts alike (seen ++ x ∷ []) xs

-- they have the same sides and cost the same
abbrev pub are_alike : StockPart → StockPart → Bool
are_alike a b = a.size.w == b.size.w && a.size.h == b.size.h && a.cost == b.cost

-- the size of a part, with how many of the parts have it
abbrev pub part_size : List StockPart → StockPart → StockSize
part_size parts part = record { size = part.size; cost = part.cost; limit = Some (count_by (are_alike part) parts) }

-- the sizes of parts, each once, in the order in which the first part of each stands
abbrev pub part_sizes : List StockPart → List StockSize
part_sizes parts = map (part_size parts) (firsts are_alike [] parts)

-- a size that may be bought, without limit, where units of the kind may have it
abbrev pub bought_size : Kind → BuySize → Option StockSize
bought_size kind b = option_map (λ (size : Size). let s : StockSize = record { size = size; cost = size.w * size.h * UNIT_COST; limit = None } in s) (size_of kind b.w b.h)

-- the sizes of the parts, and then those that may be bought
abbrev pub sizes_of : Kind → List StockPart → List BuySize → List StockSize
sizes_of kind parts buy = part_sizes parts ++ filter_map (bought_size kind) buy

-- a size isn't too dear, and one of a bar has height 1
pub record IsStockSize (kind : Kind) (s : StockSize) : Type 0 where
  pub cheap : s.cost ≤ MAX_COST
  pub flat : kind ≡ Bar → s.size.h ≡ 1

-- ---- the step

-- none for a bar; else the one that is given, if one is
abbrev pub step_for : Kind → Option ℕ → Option ℕ
step_for Bar step = None
step_for Sheet step = step
