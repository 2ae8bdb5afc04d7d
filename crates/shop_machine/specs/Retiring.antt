-- Scrapping and giving back: a standing part as a whole gets another state.
use Rattle.std.specs.Prelude.{[], ◌∷◌, not, Option, Some, None}
use Rattle.shop_records.specs.declared.records.Part.{Part}
use Rattle.shop_records.specs.declared.records.State.{State}
use Rattle.shop_records.specs.declared.records.Totals.{Totals}
use Rattle.shop_records.specs.declared.changes.Change.{Change}
use Rattle.shop_records.specs.declared.refusals.Refusal.{Refusal}
use Rattle.shop_records.specs.declared.refusals.Refusal.TheVariants.{NoPart, NotStanding, NotWhole, StoreFault}
use Rattle.shop_records.specs.declared.messages.Reply.{Reply}
use Rattle.shop_records.specs.Columns.{is_free, is_whole}
use Rattle.shop_records.specs.Content.{in_state}
use Rattle.shop_machine.specs.Moving.{has_cells, moved_totals, tally}
use Rattle.shop_machine.specs.Decisions.{first_of, no_change}

-- of a part: its row, and the totals of its material
abbrev pub scrap_refusal : Option Part → Totals → Option Refusal
scrap_refusal None totals = Some NoPart
scrap_refusal (Some part) totals = first_of ((not (is_free part.state), NotStanding) ∷ (not (has_cells part totals), StoreFault) ∷ [])

-- a unit alone is given back, as it was received
abbrev pub return_refusal : Option Part → Totals → Option Refusal
return_refusal None totals = Some NoPart
return_refusal (Some part) totals =
    first_of ((not (is_free part.state), NotStanding) ∷ (not (is_whole part), NotWhole) ∷ (not (has_cells part totals), StoreFault) ∷ [])

-- the whole part has this state, its cells pass to the state's total, and the reply names it
abbrev pub state_change : State → Part → Totals → Reply → Change
state_change s part totals answer =
    record (no_change answer) {
      moved = Some (in_state s part);
      totals = Some (record { material = part.material; totals = moved_totals part (tally (in_state s part ∷ [])) totals });
    }
