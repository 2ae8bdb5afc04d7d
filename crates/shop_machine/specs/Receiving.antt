-- Receiving units.
use Rattle.std.specs.Prelude.{ℕ, ◌+◌, ◌*◌, ◌&&◌, List, [], ◌∷◌, map, not, nat_le, nat_lt, Option, Some, None}
use Rattle.cut_measure.specs.declared.ranges.TheConstants.{MAX_NUMBERS}
use Rattle.cut_measure.specs.Measures.{Size, is_size, below}
use Rattle.shop_records.specs.declared.records.TheConstants.{MAX_RECEIVED}
use Rattle.shop_machine.specs.declared.receiving.TheConstants.{MAX_RECEIVED_UNITS}
use Rattle.shop_records.specs.declared.records.Material.{Material}
use Rattle.shop_records.specs.declared.records.Part.{Part}
use Rattle.shop_records.specs.declared.records.Totals.{Totals}
use Rattle.shop_records.specs.declared.records.State.TheVariants.{Standing}
use Rattle.shop_records.specs.declared.changes.Change.{Change}
use Rattle.shop_records.specs.declared.refusals.Refusal.{Refusal}
use Rattle.shop_records.specs.declared.refusals.Refusal.TheVariants.{NoMaterial, BadSize, BadCount, TooMuch, NumbersSpent, StoreFault}
use Rattle.shop_records.specs.declared.messages.Reply.TheVariants as reply
use Rattle.shop_machine.specs.Decisions.{first_of, no_change}

-- Of a receipt: its material's row, the material's totals, and the number that the act would have. What is in stock was
-- received, in each content that a history gives.
abbrev pub receive_refusal : Option Material → Totals → ℕ → ℕ → ℕ → ℕ → Option Refusal
receive_refusal None totals act w h count = Some NoMaterial
receive_refusal (Some m) totals act w h count =
    first_of ((not (is_size m.kind w h), BadSize) ∷ (not (nat_le 1 count && nat_le count MAX_RECEIVED_UNITS), BadCount)
    ∷ (nat_lt MAX_RECEIVED (totals.received + w * h * count), TooMuch) ∷ (nat_lt MAX_NUMBERS act, NumbersSpent)
    ∷ (not (nat_le totals.stock totals.received), StoreFault) ∷ [])

-- the unit of this index: it stands, and is its own root
abbrev pub unit_part : List ℕ → List ℕ → Size → ℕ → ℕ → Part
unit_part material batch size act i =
    record {
      name = record { act = act; node = i };
      material = material;
      batch = batch;
      root = record { act = act; node = i };
      x = 0;
      y = 0;
      size = size;
      state = Standing;
    }

abbrev pub unit_parts : List ℕ → List ℕ → Size → ℕ → ℕ → List Part
unit_parts material batch size act count = map (unit_part material batch size act) (below count)

-- all cells of the units were received, and are in stock
abbrev pub received_totals : ℕ → Totals → Totals
received_totals cells t = record t { received = t.received + cells; stock = t.stock + cells }

abbrev pub receive_change : List ℕ → List ℕ → Size → ℕ → ℕ → Totals → Change
receive_change material batch size act count totals =
    record (no_change (reply.Receive act count)) {
      parts = unit_parts material batch size act count;
      totals = Some (record { material = material; totals = received_totals (size.w * size.h * count) totals });
      act = Some act;
    }
