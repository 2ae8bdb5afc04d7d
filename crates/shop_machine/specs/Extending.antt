-- Extending an order: lines behind its last one.
use Rattle.std.specs.Prelude.{ℕ, ◌+◌, ◌-◌, ◌&&◌, List, [], ◌∷◌, length, Bool, not, nat_le, nat_lt, Option, Some}
use Rattle.std.specs.Option.{option_or}
use Rattle.cut_measure.specs.declared.ranges.TheConstants.{MAX_NUMBERS}
use Rattle.shop_files.specs.declared.limits.TheConstants.{MAX_LINES}
use Rattle.shop_files.specs.declared.orders.OrderLine.{OrderLine}
use Rattle.shop_records.specs.declared.records.Material.{Material}
use Rattle.shop_records.specs.declared.records.Demand.{Demand}
use Rattle.shop_records.specs.declared.changes.Change.{Change}
use Rattle.shop_records.specs.declared.refusals.Refusal.{Refusal}
use Rattle.shop_records.specs.declared.refusals.Refusal.TheVariants.{NumbersSpent, NoOrder, BadLine}
use Rattle.shop_records.specs.declared.messages.Reply.TheVariants as reply
use Rattle.shop_records.specs.Content.{last_line}
use Rattle.shop_machine.specs.Decisions.{first_of, no_change}
use Rattle.shop_machine.specs.Ordering.{lines_refusal, new_demands}

-- Of an order: whether it is known, where its materials are found, the demands that it has, the lines that it gets, and the
-- first new demand's number. There is a line, the order has no more lines in all than one may have, and each line is good after
-- the one before, the first one after the order's last.
abbrev pub extend_refusal : (known : Bool) → (List ℕ → Option Material) → (there : List Demand) → List OrderLine → (first : ℕ) → Option Refusal
extend_refusal known at there lines first =
    option_or
    (first_of ((not known, NoOrder) ∷ (not (nat_le 1 (length lines) && nat_le (length there + length lines) MAX_LINES), BadLine) ∷ []))
    (option_or (lines_refusal at (last_line there) lines) (first_of ((nat_lt (MAX_NUMBERS + 1) (first + length lines), NumbersSpent) ∷ [])))

-- the order gets these lines, and the reply gives how many, and the first one's demand
abbrev pub extend_change : List ℕ → List OrderLine → (first : ℕ) → Change
extend_change order lines first =
    record (no_change (reply.Extend (length lines) first order)) {
      extended = Some order;
      demands = new_demands order first lines;
      demand = Some (first + length lines - 1);
    }
