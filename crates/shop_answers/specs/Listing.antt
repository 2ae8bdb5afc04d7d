-- What is reported about a content by lists, which are cut after so many rows; of a job with its plan; of an order with its lines;
-- of a terminal; of entries; of pieces; and of the nodes of a job's plan.
use Rattle.std.specs.Prelude.{◌≡◌, ℕ, ◌+◌, ◌^◌, ◌<◌, ◌≤◌, List, [], ◌∷◌, length, map, take, filter_map, Bool, true, false, nat_lt, Option, Some, None, is_some, option_map, option_and_then, nat_le, if◌then◌else◌, sum_by}
use Rattle.cut_measure.specs.Names.{Name}
use Rattle.cut_tree.specs.Tree.{cut_count}
use Rattle.cut_tree.specs.Spelling.{text_of}
use Rattle.cut_tree.specs.Stepping.{AreSteps}
use Rattle.cut_tree.specs.declared.steps.Step.{Step}
use Rattle.shop_answers.specs.declared.listing.LineSums.{LineSums}
use Rattle.shop_answers.specs.declared.listing.TheConstants.{MAX_LISTED, MAX_LISTED_BYTES}
use Rattle.shop_records.specs.declared.records.Material.{Material}
use Rattle.shop_records.specs.declared.records.Part.{Part}
use Rattle.shop_records.specs.declared.records.Job.{Job}
use Rattle.shop_records.specs.declared.records.JobRow.{JobRow}
use Rattle.shop_records.specs.declared.records.Demand.{Demand}
use Rattle.shop_records.specs.declared.records.OrderRow.{OrderRow}
use Rattle.shop_records.specs.declared.pieces.PieceRow.{PieceRow}
use Rattle.shop_records.specs.declared.pieces.PieceSource.{PieceSource}
use Rattle.shop_records.specs.declared.pieces.PieceSource.TheVariants as source
use Rattle.shop_records.specs.declared.journal.ReportedEntry.{ReportedEntry}
use Rattle.shop_records.specs.declared.journal.Subject.{Subject}
use Rattle.shop_records.specs.declared.journal.Subject.TheVariants as subject
use Rattle.shop_records.specs.declared.refusals.Refusal.{Refusal}
use Rattle.shop_records.specs.declared.refusals.Refusal.TheVariants.{NoMaterial, NoOrder, NoPart, NotWhole, NoJob}
use Rattle.shop_records.specs.declared.messages.Reply.{Reply}
use Rattle.shop_records.specs.declared.messages.Reply.TheVariants as reply
use Rattle.shop_records.specs.Content.{Content, material_at, part_at, job_at, has_order}
use Rattle.shop_records.specs.Columns.{is_whole}
use Rattle.shop_records.specs.Lists.{AreLines, begun_by, demand_row, due_for_job, order_row, piece_row, step_row, IsLastNumber}

-- the first rows of a list, as many as are reported
abbrev pub first_reported : {T : Type 0} → List T → List T
first_reported rows = take MAX_LISTED rows

-- others follow the last one reported
abbrev pub are_more : {T : Type 0} → List T → Bool
are_more rows = nat_lt MAX_LISTED (length rows)

abbrev pub reported_parts : Option Material → List ℕ → List Part → Reply
reported_parts None code parts = reply.Refused NoMaterial
reported_parts (Some m) code parts = reply.Parts code (are_more parts) (first_reported parts)

-- the material that is asked for is there, or none is asked for
abbrev pub is_known : Content → Option (List ℕ) → Bool
is_known content None = true
is_known content (Some asked) = is_some (material_at content asked)

abbrev pub reported_demands : Content → Bool → List Demand → Reply
reported_demands content false demands = reply.Refused NoMaterial
reported_demands content true demands = reply.Demands (map (demand_row content) (first_reported demands)) (are_more demands)

-- The job of a number with its part. A job whose part isn't there is none; in each content that a history gives the part of
-- every job is there.
abbrev pub job_with_part : Content → ℕ → Option (Job × Part)
job_with_part content number =
    option_and_then (λ (job : Job). option_map (λ (part : Part). (job, part)) (part_at content job.part)) (job_at content number)

-- how a waiting job is reported in a list, of which this is known
abbrev pub row_of : (begun due job : ℕ) (name : Name) (cuts : ℕ) → Part → JobRow
row_of begun due job name cuts part =
    record { begun = begun; cuts = cuts; due = due; h = part.size.h; job = job; material = part.material; part = name; w = part.size.w }

abbrev pub job_row : Content → Job → Part → JobRow
job_row content job part = row_of (begun_by content job.act) (due_for_job content job) job.act job.part (cut_count job.plan.tree) part

abbrev pub job_row_at : Content → ℕ → Option JobRow
job_row_at content number = option_map (λ (found : Job × Part). job_row content found.0 found.1) (job_with_part content number)

-- the first of the jobs with these numbers are reported
abbrev pub reported_jobs : Content → List ℕ → Reply
reported_jobs content numbers = reply.Jobs (filter_map (job_row_at content) (first_reported numbers)) (are_more numbers)

abbrev pub reported_job : Content → Option (Job × Part) → Reply
reported_job content None = reply.Refused NoJob
reported_job content (Some (job, part)) =
    reply.Job (begun_by content job.act) (cut_count job.plan.tree) part.size.h job.act job.kerf part.material job.part job.state (text_of job.plan.tree) part.size.w

-- a sum with one number more of 32 bits, exact where 64 bits hold it
pub record IsAdded (sum more after : ℕ) : Type 0 where
  pub few : more < 2 ^ 32
  pub most : after ≤ sum + more
  pub exact : sum + more < 2 ^ 64 → after ≡ sum + more

-- the sums over an order's lines with the numbers of one line more
pub record IsWithLine (before : LineSums) (line : Demand) (after : LineSums) : Type 0 where
  pub place : line.line < 2 ^ 32
  pub made : IsAdded before.made line.made after.made
  pub reserved : IsAdded before.reserved line.reserved after.reserved
  pub wanted : IsAdded before.wanted line.wanted after.wanted

-- the sums over all lines of an order
pub record AreSums (lines : List Demand) (sums : LineSums) : Type 0 where
  pub made : sums.made ≡ sum_by (λ (row : Demand). row.made) lines
  pub reserved : sums.reserved ≡ sum_by (λ (row : Demand). row.reserved) lines
  pub wanted : sums.wanted ≡ sum_by (λ (row : Demand). row.wanted) lines

-- the row of an order: what is said of it, how many lines it has, and the sums over all of them
pub record IsOrderRow (content : Content) (order : List ℕ) (row : OrderRow) : Type 0 where
  pub lines : List Demand
  pub all : AreLines content order lines
  pub is : row ≡ order_row content order lines

-- the rows of orders, one after another
abbrev pub AreOrderRows : Content → List (List ℕ) → List OrderRow → Type 0
AreOrderRows content [] [] = Unit {0}
AreOrderRows content [] (row ∷ rows) = ⊥
AreOrderRows content (order ∷ orders) [] = ⊥
AreOrderRows content (order ∷ orders) (row ∷ rows) = IsOrderRow content order row × AreOrderRows content orders rows

-- what may be reported of orders with these codes: the first of them
abbrev pub IsOrdersAnswer : Content → List (List ℕ) → Reply → Type 0
IsOrdersAnswer content orders answer = (rows : List OrderRow) × AreOrderRows content (first_reported orders) rows × (answer ≡ reply.Orders (are_more orders) rows)

-- what may be reported of the lines of an order: all of them, where it is there
abbrev pub IsLinesAnswer : Content → (order : List ℕ) → (there : Bool) → Reply → Type 0
IsLinesAnswer content order false answer = answer ≡ reply.Refused NoOrder
IsLinesAnswer content order true answer =
    (lines : List Demand) × AreLines content order lines × (answer ≡ reply.Lines (map (demand_row content) lines) order)

-- what may be reported of a terminal
abbrev pub IsTerminalAnswer : Content → ℕ → Reply → Type 0
IsTerminalAnswer content terminal answer = (last : ℕ) × IsLastNumber content terminal last × (answer ≡ reply.Terminal last terminal)

-- ---- entries

-- bytes of the texts that are kept of an entry's message
abbrev pub entry_bytes : ReportedEntry → ℕ
entry_bytes entry = length entry.message + length entry.reply

-- of entries that follow so many bytes those before which fewer are reached than end a list
abbrev pub shown_from : (bytes : ℕ) → List ReportedEntry → List ReportedEntry
shown_from bytes [] = []
shown_from bytes (entry ∷ entries) =
    if nat_le MAX_LISTED_BYTES bytes then [] else entry ∷ shown_from (bytes + entry_bytes entry) entries

-- the first entries, as many as are reported
abbrev pub shown_within : List ReportedEntry → List ReportedEntry
shown_within entries = shown_from 0 (first_reported entries)

-- others follow the last one reported
abbrev pub are_hidden : List ReportedEntry → Bool
are_hidden entries = nat_lt (length (shown_within entries)) (length entries)

abbrev pub reported_history : List ReportedEntry → Reply
reported_history entries = reply.History (shown_within entries) (are_hidden entries)

-- why nothing is reported about a subject, if nothing is
abbrev pub subject_refusal : Content → Subject → Option Refusal
subject_refusal content (subject.Order code) = if has_order content code then None else Some NoOrder
subject_refusal content (subject.Job number) = if is_some (job_at content number) then None else Some NoJob
subject_refusal content (subject.Part name) = if is_some (part_at content name) then None else Some NoPart

abbrev pub reported_story : Option Refusal → List ReportedEntry → Reply
reported_story (Some refusal) entries = reply.Refused refusal
reported_story None entries = reply.Story (shown_within entries) (are_hidden entries)

-- ---- pieces

-- Why nothing is reported about pieces of an order, a batch or a unit, if nothing is. A unit may be in any state, and a batch of which
-- nothing was received has no pieces.
abbrev pub unit_refusal : Option Part → Option Refusal
unit_refusal None = Some NoPart
unit_refusal (Some part) = if is_whole part then None else Some NotWhole

abbrev pub source_refusal : Content → PieceSource → Option Refusal
source_refusal content (source.Order code) = if has_order content code then None else Some NoOrder
source_refusal content (source.Batch code) = None
source_refusal content (source.Unit name) = unit_refusal (part_at content name)

-- the first pieces are reported
abbrev pub reported_pieces : Content → Option Refusal → List Part → Reply
reported_pieces content (Some refusal) pieces = reply.Refused refusal
reported_pieces content None pieces = reply.Pieces (are_more pieces) (filter_map (piece_row content) (first_reported pieces))

-- how a piece of a demand is reported that was made then
abbrev pub reported_piece : Part → Demand → (at : ℕ) → PieceRow
reported_piece part demand at =
    record {
      at = at;
      batch = part.batch;
      demand = demand.number;
      h = part.size.h;
      line = demand.line;
      material = part.material;
      order = demand.order;
      part = part.name;
      root = part.root;
      w = part.size.w;
    }

-- ---- the nodes of a plan

-- what may be reported of the nodes of a job's plan: all of them, where the job and its part are there
abbrev pub IsStepsAnswer : Content → Option (Job × Part) → Reply → Type 0
IsStepsAnswer content None answer = answer ≡ reply.Refused NoJob
IsStepsAnswer content (Some (job, part)) answer =
    (steps : List Step) × AreSteps job.plan.tree job.plan.w job.plan.h job.plan.kerf steps
    × (answer ≡ reply.Steps job.act job.kerf part.material job.part job.state (map (step_row content job.act) steps))
