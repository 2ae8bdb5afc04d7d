-- Amending a demand: how many of its pieces are wanted from now on.
use Rattle.std.specs.Prelude.{ℕ, ◌+◌, [], ◌∷◌, not, nat_le, nat_lt, Option, Some, None}
use Rattle.cut_measure.specs.declared.ranges.TheConstants.{MAX_COUNT}
use Rattle.shop_records.specs.declared.records.Demand.{Demand}
use Rattle.shop_records.specs.declared.changes.Change.{Change}
use Rattle.shop_records.specs.declared.refusals.Refusal.{Refusal}
use Rattle.shop_records.specs.declared.refusals.Refusal.TheVariants.{NoDemand, BadLine, TooMany}
use Rattle.shop_records.specs.declared.messages.Reply.TheVariants as reply
use Rattle.shop_machine.specs.Decisions.{first_of, no_change}

-- of a demand's row: more are wanted than a line may ask for, or fewer than are reserved and made
abbrev pub amend_refusal : Option Demand → (wanted : ℕ) → Option Refusal
amend_refusal None wanted = Some NoDemand
amend_refusal (Some demand) wanted =
    first_of ((not (nat_le wanted MAX_COUNT), BadLine) ∷ (nat_lt wanted (demand.reserved + demand.made), TooMany) ∷ [])

-- the demand of which so many pieces are wanted, and all else as it is
abbrev pub amended : (wanted : ℕ) → Demand → Demand
amended wanted demand = record demand { wanted = wanted }

-- this one demand is amended, and the reply gives how many are wanted
abbrev pub amend_change : Demand → (wanted : ℕ) → Change
amend_change demand wanted =
    record (no_change (reply.Amend demand.number wanted)) {
      demands = amended wanted demand ∷ [];
    }
