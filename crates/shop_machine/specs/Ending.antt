-- The end of a job: all its cuts are made, or some of them, or it is released.
use Rattle.std.specs.Prelude.{◌≡◌, ℕ, ◌+◌, ◌&&◌, ◌==◌, List, [], ◌∷◌, map, Bool, false, not, nat_le, if◌then◌else◌, Option, Some, None, length, is_some, true, ◌||◌}
use Rattle.std.specs.List.{list_all}
use Rattle.cut_measure.specs.declared.ranges.TheConstants.{MAX_WIDTH, MAX_HEIGHT, MAX_NUMBERS}
use Rattle.cut_measure.specs.Measures.{Size, CutParams, is_kept}
use Rattle.cut_tree.specs.declared.lay.Owner.{Owner}
use Rattle.cut_tree.specs.declared.lay.Owner.TheVariants as owner
use Rattle.cut_tree.specs.declared.lay.Row.{Row}
use Rattle.cut_tree.specs.declared.halts.Halt.{Halt}
use Rattle.cut_tree.specs.declared.halts.Halt.TheVariants.{First, Listed}
use Rattle.cut_tree.specs.declared.halts.Stop.{Stop}
use Rattle.cut_tree.specs.declared.halts.Stop.TheVariants as stop
use Rattle.cut_tree.specs.Patterns.{Pattern}
use Rattle.cut_tree.specs.Tree.{count_of}
use Rattle.cut_tree.specs.Stops.{allows, can_save, halted, outcome_of}
use Rattle.cut_tree.specs.Laying.{IsLaid}
use Rattle.shop_records.specs.declared.records.Material.{Material}
use Rattle.shop_records.specs.declared.records.Part.{Part}
use Rattle.shop_records.specs.declared.records.State.{State}
use Rattle.shop_records.specs.declared.records.State.TheVariants.{Standing, Cut, Piece, Kerf, Scrap}
use Rattle.shop_records.specs.declared.records.Job.{Job}
use Rattle.shop_records.specs.declared.records.JobHalt.{JobHalt}
use Rattle.shop_records.specs.declared.records.JobState.{JobState}
use Rattle.shop_records.specs.declared.records.JobState.TheVariants as job
use Rattle.shop_records.specs.declared.records.Demand.{Demand}
use Rattle.shop_records.specs.declared.records.Totals.{Totals}
use Rattle.shop_records.specs.declared.changes.Change.{Change}
use Rattle.shop_records.specs.declared.refusals.Refusal.{Refusal}
use Rattle.shop_records.specs.declared.refusals.Refusal.TheVariants.{NoJob, JobOver, BadCut, StoreFault}
use Rattle.shop_records.specs.declared.messages.Reply.{Reply}
use Rattle.shop_records.specs.declared.messages.Reply.TheVariants as reply
use Rattle.shop_records.specs.Columns.{is_reserved_for, is_waiting}
use Rattle.shop_records.specs.Content.{Content, material_at, part_at, job_at, demand_at, material_of, part_of_job, in_state, totals_for}
use Rattle.shop_machine.specs.Moving.{tally, has_cells, moved_totals}
use Rattle.shop_machine.specs.Decisions.{first_of, no_change}
use Rattle.shop_machine.specs.Recounts.{plan_leaves, AreRecounted, with_laid, with_freed}

-- so many of the demand are reserved, and with what is made they are no more than wanted
abbrev pub has_reserved : ℕ → Option Demand → Bool
has_reserved n None = false
has_reserved n (Some demand) = nat_le n demand.reserved && nat_le (demand.reserved + demand.made) demand.wanted

-- the job has an act's number, and the part is reserved for it, has the sides of its plan, and lies in a unit
abbrev pub is_part_of : Job → Part → Bool
is_part_of j part =
    nat_le 1 j.act && nat_le j.act MAX_NUMBERS && is_reserved_for j.act part.state && part.size.w == j.plan.w && part.size.h == j.plan.h
    && nat_le (part.x + part.size.w) MAX_WIDTH && nat_le (part.y + part.size.h) MAX_HEIGHT

-- The same of the part alone: the job has an act's number, and the part has the sides of its plan and lies in a unit. So it is in
-- each content that a history gives, whatever the job's state.
abbrev pub fits_part : Job → Part → Bool
fits_part j part =
    nat_le 1 j.act && nat_le j.act MAX_NUMBERS && part.size.w == j.plan.w && part.size.h == j.plan.h && nat_le (part.x + part.size.w) MAX_WIDTH
    && nat_le (part.y + part.size.h) MAX_HEIGHT

-- the part is the job's, and its material's totals hold it
abbrev pub is_held : Job → Part → Totals → Bool
is_held j part totals = is_part_of j part && has_cells part totals

-- The rows on which a waiting job rests are there: its part, the part's material with totals that hold the part, and its
-- pieces' demands. So they are in each content that a history gives.
abbrev pub rests : Job → Option Part → Option Material → (ℕ → Option Demand) → Totals → Bool
rests j None material at totals = false
rests j (Some part) None at totals = false
rests j (Some part) (Some material) at totals =
    is_held j part totals && list_all (λ leaf. has_reserved (count_of j.plan.tree leaf.demand) (at leaf.demand)) (plan_leaves j.plan)

-- a cut was made, or one went wrong
abbrev pub has_begun : Halt → Bool
has_begun (First cuts lost) = nat_le 1 cuts || lost
has_begun (Listed cuts lost) = nat_le 1 (length cuts) || is_some lost

-- The work on the plan can have ended so, and where it halted, it had begun; a rest is left only of a cut that went wrong,
-- and is some of the side that the cut was to divide.
abbrev pub can_end : Pattern → Stop → Bool
can_end plan stop.All = true
can_end plan (stop.After halt) = allows plan.tree halt && has_begun halt
can_end plan (stop.Saved halt rest) = allows plan.tree halt && can_save plan halt rest

-- why a job can't end so, if it can't; a job that is released ends as one whose cuts were all made
abbrev pub job_refusal : Stop → Option Job → Option Part → Option Material → (ℕ → Option Demand) → Totals → Option Refusal
job_refusal stop None part material at totals = Some NoJob
job_refusal stop (Some j) part material at totals =
    first_of ((not (is_waiting j.state), JobOver) ∷ (not (can_end j.plan stop), BadCut) ∷ (not (rests j part material at totals), StoreFault) ∷ [])

abbrev pub end_refusal : Content → Stop → Option Job → Option Refusal
end_refusal old stop found =
    let part = part_of_job old found in
    job_refusal stop found part (material_of old part) (demand_at old) (totals_for old part)

-- a job with the rows on which it rests
pub record IsWork (old : Content) (number : ℕ) (j : Job) (part : Part) (material : Material) : Type 0 where
  pub found : job_at old number ≡ Some j
  pub on : part_at old j.part ≡ Some part
  pub of : material_at old part.material ≡ Some material

-- what becomes of a laid rectangle
abbrev pub state_after_cut : CutParams → Owner → Size → State
state_after_cut params (owner.Piece demand) size = Piece demand
state_after_cut params owner.Rest size = if is_kept params size then Standing else Scrap
state_after_cut params owner.Kerf size = Kerf
state_after_cut params owner.Uncut size = if is_kept params size then Standing else Scrap
state_after_cut params owner.Lost size = Scrap

-- the part that a laid row of a job on a part becomes, in the received unit's coordinates
abbrev pub row_part : Part → CutParams → ℕ → Row → Part
row_part part params act row =
    let size : Size = record { w = row.w; h = row.h } in
    record {
      name = record { act = act; node = row.node };
      material = part.material;
      batch = part.batch;
      root = part.root;
      x = part.x + row.x;
      y = part.y + row.y;
      size = size;
      state = state_after_cut params row.owner size;
    }

-- the job is done where all cuts were made, else broken
abbrev pub ended_state : Stop → JobState
ended_state stop.All = job.Done
ended_state (stop.After halt) = job.Broken
ended_state (stop.Saved halt rest) = job.Broken

-- the cells of the new parts, column by column, are reported
abbrev pub ended_reply : Stop → ℕ → Totals → Reply
ended_reply stop.All number incoming = reply.Done number incoming.kerf incoming.pieces incoming.rack incoming.scrap
ended_reply (stop.After halt) number incoming = reply.Break number incoming.kerf incoming.pieces incoming.rack incoming.scrap
ended_reply (stop.Saved halt rest) number incoming = reply.Break number incoming.kerf incoming.pieces incoming.rack incoming.scrap

-- where the work on the plan halted is kept
abbrev pub kept_halt : Stop → ℕ → Option JobHalt
kept_halt stop.All number = None
kept_halt (stop.After halt) number = Some (record { job = number; halt = halt; rest = None })
kept_halt (stop.Saved halt rest) number = Some (record { job = number; halt = halt; rest = Some rest })

abbrev pub end_change : Stop → Job → Part → CutParams → Totals → List Row → List Demand → Change
end_change stop j part params totals laid rows =
    let made = map (row_part part params j.act) laid in
    record (no_change (ended_reply stop j.act (tally made))) {
      parts = made;
      moved = Some (in_state (Cut j.act) part);
      job = Some (record j { state = ended_state stop });
      halt = kept_halt stop j.act;
      demands = rows;
      totals = Some (record { material = part.material; totals = moved_totals part (tally made) totals });
    }

-- The work on the plan ended so: its part falls into what was laid, none of its pieces is reserved any more, and those that
-- were laid are made.
pub record IsEnd (stop : Stop) (j : Job) (part : Part) (params : CutParams) (totals : Totals) (at : ℕ → Option Demand) (change : Change) : Type 0 where
  pub laid : List Row
  pub is_laid : IsLaid j.plan.tree j.plan.w j.plan.h j.plan.kerf (outcome_of stop) laid
  pub rows : List Demand
  pub recounted : AreRecounted at (with_laid laid) j.plan.tree rows
  pub is : change ≡ end_change stop j part params totals laid rows

-- all cuts of the plan were made
abbrev pub IsDone : Job → Part → CutParams → Totals → (ℕ → Option Demand) → Change → Type 0
IsDone = IsEnd stop.All

-- the work on the plan halted
abbrev pub IsBroken : Halt → Option ℕ → Job → Part → CutParams → Totals → (ℕ → Option Demand) → Change → Type 0
IsBroken halt rest = IsEnd (halted halt rest)

abbrev pub release_change : Job → Part → List Demand → Change
release_change j part rows =
    record (no_change (reply.Release j.act)) {
      moved = Some (in_state Standing part);
      job = Some (record j { state = job.Released });
      demands = rows;
    }

-- the part stands again
pub record IsRelease (j : Job) (part : Part) (at : ℕ → Option Demand) (change : Change) : Type 0 where
  pub rows : List Demand
  pub recounted : AreRecounted at with_freed j.plan.tree rows
  pub is : change ≡ release_change j part rows
