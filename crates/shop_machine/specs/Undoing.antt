-- Undoing a job that was done or broken: its part stands again, and the parts that it made own no cell.
use Rattle.std.specs.Prelude.{◌≡◌, ℕ, ◌+◌, ◌-◌, ◌*◌, ◌&&◌, List, [], ◌∷◌, map, Bool, true, false, not, nat_le, Option, Some, None}
use Rattle.std.specs.List.{list_all}
use Rattle.cut_measure.specs.Measures.{CutParams}
use Rattle.cut_tree.specs.declared.lay.Row.{Row}
use Rattle.cut_tree.specs.declared.halts.Stop.{Stop}
use Rattle.cut_tree.specs.declared.halts.Stop.TheVariants as stop
use Rattle.cut_tree.specs.Nodes.{rows_of}
use Rattle.cut_tree.specs.Stops.{halted, outcome_of}
use Rattle.shop_records.specs.declared.records.Material.{Material}
use Rattle.shop_records.specs.declared.records.Part.{Part}
use Rattle.shop_records.specs.declared.records.State.TheVariants.{Standing, Cut, Undone}
use Rattle.shop_records.specs.declared.records.Job.{Job}
use Rattle.shop_records.specs.declared.records.JobHalt.{JobHalt}
use Rattle.shop_records.specs.declared.records.JobState.{JobState}
use Rattle.shop_records.specs.declared.records.JobState.TheVariants as job
use Rattle.shop_records.specs.declared.records.Demand.{Demand}
use Rattle.shop_records.specs.declared.records.Totals.{Totals}
use Rattle.shop_records.specs.declared.changes.Change.{Change}
use Rattle.shop_records.specs.declared.refusals.Refusal.{Refusal}
use Rattle.shop_records.specs.declared.refusals.Refusal.TheVariants.{NoJob, NotOver, PartsMoved, StoreFault}
use Rattle.shop_records.specs.declared.messages.Reply.TheVariants as reply
use Rattle.shop_records.specs.Content.{Content, part_at, halt_at, demand_at, totals_for, in_state, material_of, parts_named}
use Rattle.shop_records.specs.SameRows.{same_state, same_parts}
use Rattle.shop_machine.specs.Decisions.{first_of, no_change}
use Rattle.shop_machine.specs.Ending.{can_end, fits_part, row_part}
use Rattle.shop_machine.specs.Moving.{can_move, tally}
use Rattle.shop_machine.specs.Recounts.{plan_leaves, pieces_in, with_unmade, AreRecounted}

-- a stop in which the work on the plan can have ended
abbrev pub allowed_stop : Bool → Stop → Option Stop
allowed_stop true end = Some end
allowed_stop false end = None

-- How the work on a job's plan ended: all cuts were made, or it halted as is kept. Of a job that isn't over, or of which no
-- halt is kept, that isn't known.
abbrev pub stop_of : Job → JobState → Option JobHalt → Option Stop
stop_of j job.Waiting halt = None
stop_of j job.Done halt = Some stop.All
stop_of j job.Broken None = None
stop_of j job.Broken (Some row) = allowed_stop (can_end j.plan (halted row.halt row.rest)) (halted row.halt row.rest)
stop_of j job.Released halt = None
stop_of j job.Undone halt = None

-- the rows that were laid when the work ended so
abbrev pub laid_by : Stop → Job → List Row
laid_by end j = rows_of j.plan.tree 0 0 j.plan.w j.plan.h j.plan.kerf (outcome_of end) 0 0

-- the parts that the job made
abbrev pub left_parts : Stop → Job → Part → CutParams → List Part
left_parts end j part params = map (row_part part params j.act) (laid_by end j)

-- the part is cut by the job, and the parts that are named after the job are as its end made them
abbrev pub are_as_left : Stop → Job → Part → CutParams → List Part → Bool
are_as_left end j part params found = same_state part.state (Cut j.act) && same_parts found (left_parts end j part params)

-- the totals when these cells go and those come; what was received stays
abbrev pub totals_after : (outgoing incoming t : Totals) → Totals
totals_after outgoing incoming t =
    record {
      received = t.received;
      stock = t.stock - outgoing.stock + incoming.stock;
      rack = t.rack - outgoing.rack + incoming.rack;
      pieces = t.pieces - outgoing.pieces + incoming.pieces;
      kerf = t.kerf - outgoing.kerf + incoming.kerf;
      scrap = t.scrap - outgoing.scrap + incoming.scrap;
      returned = t.returned - outgoing.returned + incoming.returned;
    }

-- the totals hold the cells that go, and as many more as a part has
abbrev pub have_cells : (most : ℕ) → (outgoing t : Totals) → Bool
have_cells most outgoing t =
    can_move outgoing.stock most t.stock && can_move outgoing.rack most t.rack && can_move outgoing.pieces most t.pieces && can_move outgoing.kerf most t.kerf
    && can_move outgoing.scrap most t.scrap && can_move outgoing.returned most t.returned

-- so many of the demand are made
abbrev pub has_made : ℕ → Option Demand → Bool
has_made n None = false
has_made n (Some demand) = nat_le n demand.made

-- The totals of the material hold the parts that the job made, and its pieces are made. So it is in each content that a
-- history gives.
abbrev pub can_take_back : Stop → Job → Part → CutParams → (ℕ → Option Demand) → Totals → Bool
can_take_back end j part params at totals =
    have_cells (part.size.w * part.size.h) (tally (left_parts end j part params)) totals
    && list_all (λ leaf. has_made (pieces_in leaf.demand (laid_by end j)) (at leaf.demand)) (plan_leaves j.plan)

-- of a job whose work ended so: the rows of its part and that one's material, and the parts that are named after the job
abbrev pub back_refusal : Stop → Job → Option Part → Option Material → List Part → (ℕ → Option Demand) → Totals → Option Refusal
back_refusal end j None material found at totals = Some StoreFault
back_refusal end j (Some part) None found at totals = Some StoreFault
back_refusal end j (Some part) (Some material) found at totals =
    first_of
    ((not (fits_part j part), StoreFault) ∷ (not (are_as_left end j part material.limits found), PartsMoved)
    ∷ (not (can_take_back end j part material.limits at totals), StoreFault) ∷ [])

abbrev pub stop_refusal : Option Stop → Job → Option Part → Option Material → List Part → (ℕ → Option Demand) → Totals → Option Refusal
stop_refusal None j part material found at totals = Some NotOver
stop_refusal (Some end) j part material found at totals = back_refusal end j part material found at totals

-- Of a job: its row, where the work on it halted, the rows of its part and that one's material, the parts that are named
-- after it, where the demands are found, and the totals of the material.
abbrev pub taking_refusal : Option Job → Option JobHalt → Option Part → Option Material → List Part → (ℕ → Option Demand) → Totals → Option Refusal
taking_refusal None halt part material found at totals = Some NoJob
taking_refusal (Some j) halt part material found at totals = stop_refusal (stop_of j j.state halt) j part material found at totals

-- why a job can't be undone, if it can't
abbrev pub undo_refusal : Content → Option Job → Option Refusal
undo_refusal old None = Some NoJob
undo_refusal old (Some j) =
    let part = part_at old j.part in
    taking_refusal (Some j) (halt_at old j.act) part (material_of old part) (parts_named old j.act) (demand_at old) (totals_for old part)

abbrev pub undo_change : Stop → Job → Part → CutParams → Totals → List Demand → Change
undo_change end j part params totals rows =
    let made = left_parts end j part params in
    record (no_change (reply.Undo j.act j.part)) {
      moved = Some (in_state Standing part);
      undone = map (in_state (Undone j.act)) made;
      job = Some (record j { state = job.Undone });
      demands = rows;
      totals = Some (record { material = part.material; totals = totals_after (tally made) (tally (in_state Standing part ∷ [])) totals });
    }

-- The part stands again, what the job made of it owns no cell, and its pieces aren't made.
pub record IsUndo (j : Job) (halt : Option JobHalt) (part : Part) (params : CutParams) (totals : Totals) (at : ℕ → Option Demand) (change : Change) : Type 0 where
  pub end : Stop
  pub ended : stop_of j j.state halt ≡ Some end
  pub rows : List Demand
  pub recounted : AreRecounted at (with_unmade (laid_by end j)) j.plan.tree rows
  pub is : change ≡ undo_change end j part params totals rows
