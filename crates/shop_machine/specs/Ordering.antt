-- Adding an order.
use Rattle.std.specs.Prelude.{◌≡◌, ℕ, suc, ◌+◌, ◌-◌, ◌&&◌, List, [], ◌∷◌, map, length, Bool, true, false, not, nat_le, nat_lt, Option, Some, None, All}
use Rattle.std.specs.Option.{option_or}
use Rattle.cut_measure.specs.declared.ranges.TheConstants.{MAX_NUMBERS, MAX_COUNT, MAX_WORTH}
use Rattle.cut_measure.specs.declared.sizes.Kind.{Kind}
use Rattle.cut_measure.specs.declared.sizes.Kind.TheVariants.{Bar, Sheet}
use Rattle.cut_measure.specs.Measures.{is_size}
use Rattle.shop_files.specs.declared.limits.TheConstants.{MAX_LINES}
use Rattle.shop_records.specs.declared.records.Material.{Material}
use Rattle.shop_records.specs.declared.records.Demand.{Demand}
use Rattle.shop_records.specs.declared.changes.Change.{Change}
use Rattle.shop_files.specs.declared.orders.OrderLine.{OrderLine}
use Rattle.shop_records.specs.declared.refusals.Refusal.{Refusal}
use Rattle.shop_records.specs.declared.refusals.Refusal.TheVariants.{NoMaterial, NumbersSpent, OrderExists, BadLine}
use Rattle.shop_records.specs.declared.messages.Reply.TheVariants as reply
use Rattle.shop_machine.specs.declared.ordering.FoundLine.{FoundLine}
use Rattle.shop_machine.specs.Decisions.{first_of, no_change}

abbrev pub is_bar : Kind → Bool
is_bar Bar = true
is_bar Sheet = false

-- A line is good after the line of this number: its own is greater, its size is one of the material's kind, its count and
-- its worth are in range, and a bar's pieces don't turn.
abbrev pub is_good_line : ℕ → OrderLine → Kind → Bool
is_good_line last line kind =
    nat_lt last line.line && is_size kind line.w line.h && nat_le 1 line.count && nat_le line.count MAX_COUNT
    && nat_le 1 line.worth && nat_le line.worth MAX_WORTH && not (is_bar kind && line.turn)

abbrev pub line_refusal : ℕ → OrderLine → Option Material → Option Refusal
line_refusal last line None = Some NoMaterial
line_refusal last line (Some m) = first_of ((not (is_good_line last line m.kind), BadLine) ∷ [])

-- line by line, after the line of this number; a function finds the materials
abbrev pub lines_refusal : (List ℕ → Option Material) → ℕ → List OrderLine → Option Refusal
lines_refusal at last [] = None
lines_refusal at last (line ∷ lines) = option_or (line_refusal last line (at line.material)) (lines_refusal at line.line lines)

-- of an order: whether its code is used, where its materials are found, its lines, and its first demand's number
abbrev pub order_refusal : Bool → (List ℕ → Option Material) → List OrderLine → ℕ → Option Refusal
order_refusal used at lines first =
    option_or (first_of ((used, OrderExists) ∷ (not (nat_le 1 (length lines) && nat_le (length lines) MAX_LINES), BadLine) ∷ []))
    (option_or (lines_refusal at 0 lines) (first_of ((nat_lt (MAX_NUMBERS + 1) (first + length lines), NumbersSpent) ∷ [])))

-- nothing of it is reserved or made yet
abbrev pub new_demand : List ℕ → ℕ → OrderLine → Demand
new_demand order number line =
    record {
      number = number;
      order = order;
      line = line.line;
      material = line.material;
      size = record { w = line.w; h = line.h };
      may_turn = line.turn;
      worth = line.worth;
      wanted = line.count;
      reserved = 0;
      made = 0;
    }

-- the demands of lines, numbered in one sequence
abbrev pub new_demands : List ℕ → ℕ → List OrderLine → List Demand
new_demands order first [] = []
new_demands order first (line ∷ lines) = new_demand order first line ∷ new_demands order (suc first) lines

abbrev pub order_change : List ℕ → List OrderLine → ℕ → Change
order_change order lines first =
    record (no_change (reply.AddOrder (length lines) first order)) {
      order = Some order;
      demands = new_demands order first lines;
      demand = Some (first + length lines - 1);
    }

abbrev pub lines_in : List FoundLine → List OrderLine
lines_in found = map (λ (f : FoundLine). f.line) found

-- the rows of the materials are those that the function finds
abbrev pub AreMaterialsFound : (List ℕ → Option Material) → List FoundLine → Type 0
AreMaterialsFound at found = All (λ f. f.material ≡ at f.line.material) found
