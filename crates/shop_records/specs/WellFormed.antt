-- What holds of every content that a history gives, and what a change has to fit so that each book can make it.
use Rattle.std.specs.Prelude.{◌≡◌, ◌≢◌, ℕ, ◌+◌, ◌<◌, ◌≤◌, List, All, AllPairs, IsSome, IfSome, Option, Some, None, MatchOption, true, false, if◌then◌else◌, sum_by, count_by}
use Rattle.std.specs.declared.cmp.Ordering.TheVariants.{Less}
use Rattle.std.specs.FinMap as map
use Rattle.std.specs.FinSet as set
use Rattle.std.specs.Ordering.{nat_cmp}
use Rattle.cut_measure.specs.declared.ranges.TheConstants.{MAX_WIDTH, MAX_HEIGHT, MAX_NUMBERS}
use Rattle.cut_measure.specs.declared.sizes.Kind.TheVariants.{Bar}
use Rattle.cut_measure.specs.Codes.{code_cmp}
use Rattle.cut_measure.specs.Names.{Name, IsName, name_cmp}
use Rattle.cut_measure.specs.Measures.{are_params}
use Rattle.cut_tree.specs.Tree.{count_of}
use Rattle.cut_tree.specs.Patterns.{IsPlan}
use Rattle.shop_records.specs.declared.records.TheConstants.{MAX_RECEIVED}
use Rattle.shop_records.specs.declared.records.Material.{Material}
use Rattle.shop_records.specs.declared.records.Part.{Part}
use Rattle.shop_records.specs.declared.records.State.TheVariants.{Reserved}
use Rattle.shop_records.specs.declared.records.Job.{Job}
use Rattle.shop_records.specs.declared.records.JobHalt.{JobHalt}
use Rattle.shop_records.specs.declared.records.JobBegin.{JobBegin}
use Rattle.shop_records.specs.declared.notes.OrderNote.{OrderNote}
use Rattle.shop_records.specs.declared.records.Demand.{Demand}
use Rattle.shop_records.specs.declared.texts.MessageId.{MessageId}
use Rattle.shop_records.specs.declared.texts.Kept.{Kept}
use Rattle.shop_records.specs.declared.texts.KeptMessage.{KeptMessage}
use Rattle.shop_records.specs.declared.imports.ImportRow.{ImportRow}
use Rattle.shop_records.specs.declared.journal.Entry.{Entry}
use Rattle.shop_records.specs.declared.messages.Message.{Message}
use Rattle.shop_records.specs.declared.messages.Reply.{Reply}
use Rattle.shop_records.specs.declared.changes.Change.{Change}
use Rattle.shop_records.specs.declared.changes.MaterialTotals.{MaterialTotals}
use Rattle.shop_records.specs.declared.records.Totals.{Totals}
use Rattle.shop_records.specs.Columns.{is_piece_for, is_waiting}
use Rattle.shop_records.specs.Messages.{Texts, IsMessage, IsNumber, message_id_of}
use Rattle.shop_records.specs.Content.{Content, material_at, part_at, job_at, has_order, demand_at, kept_at, import_at, entry_at, entry_count, last_time, totals_of, AddsUp, in_state, changed, lines_for, halt_at, begun_at, note_at}
use Rattle.shop_records.specs.Same.{same_code}
use Rattle.shop_records.specs.Notes.{is_note}
use Rattle.shop_records.specs.Keeping.{StoresReply, KeepsReply}

-- Each part is named after an act so far, the numbers aren't spent, and of each material no more was received than may be,
-- all of which is accounted for.
pub record IsInRange (content : Content) : Type 0 where
  pub acts : (name : Name) (part : Part) → part_at content name ≡ Some part → name.act ≤ content.last_act
  pub last : content.last_act ≤ MAX_NUMBERS
  pub last_demand : content.last_demand ≤ MAX_NUMBERS
  pub received : (code : List ℕ) → (totals_of content code).received ≤ MAX_RECEIVED
  pub adds_up : (code : List ℕ) → AddsUp (totals_of content code)

-- a row keeps an accepted message of the ID and its reply
pub record IsKept (texts : Texts) (message_id : MessageId) (row : Kept) : Type 0 where
  pub message : Message
  pub answer : Reply
  pub is_message : IsMessage message
  pub of_message_id : message_id_of message ≡ message_id
  pub keeps : KeepsReply texts row message answer

-- a kept import's order is there, and its row stores a reply
pub record IsImport (texts : Texts) (content : Content) (code : List ℕ) (row : ImportRow) : Type 0 where
  pub ordered : has_order content code ≡ true
  pub answer : Reply
  pub reports : StoresReply texts row (Some answer)

-- a material stands under its own code, and is cut by parameters that there may be
pub record IsKnown (code : List ℕ) (material : Material) : Type 0 where
  pub coded : material.code ≡ code
  pub ruled : are_params material.kind material.limits.kerf material.limits.min_long material.limits.min_short ≡ true

-- A part stands under its own name, is no older than its unit, is of a known material, has a cell and lies in a unit; a bar
-- has height 1; the demand of a piece is there.
pub record IsPlaced (content : Content) (name : Name) (part : Part) : Type 0 where
  pub named : part.name ≡ name
  pub rooted : part.root.act ≤ part.name.act
  pub known : IsSome (material_at content part.material)
  pub some_width : 1 ≤ part.size.w
  pub some_height : 1 ≤ part.size.h
  pub right : part.x + part.size.w ≤ MAX_WIDTH
  pub bottom : part.y + part.size.h ≤ MAX_HEIGHT
  pub flat : (material : Material) → material_at content part.material ≡ Some material → material.kind ≡ Bar → part.size.h ≡ 1
  pub asked : (number : ℕ) → is_piece_for number part.state ≡ true → IsSome (demand_at content number)

-- a job's part is there, and has the sides of its plan and a material of its kerf
pub record IsOnPart (content : Content) (job : Job) : Type 0 where
  pub row : Part
  pub found : part_at content job.part ≡ Some row
  pub material : Material
  pub known : material_at content row.material ≡ Some material
  pub width : job.plan.w ≡ row.size.w
  pub height : job.plan.h ≡ row.size.h
  pub kerf : job.plan.kerf ≡ material.limits.kerf

-- A waiting job is on its part, which is reserved for it and is older than it; and no part is named after it yet.
pub record IsWaiting (content : Content) (job : Job) : Type 0 where
  pub on : IsOnPart content job
  pub reserved : on.row.state ≡ Reserved job.act
  pub older : job.part.act < job.act
  pub none_yet : (node : ℕ) → part_at content (record { act = job.act; node = node }) ≡ None

-- A job stands under its own number, which is an act's so far, and has a plan; in each of its states it is on its part, and
-- its pieces' demands are there; its part has a name that there may be.
pub record IsJob (content : Content) (number : ℕ) (job : Job) : Type 0 where
  pub numbered : job.act ≡ number
  pub least : 1 ≤ number
  pub so_far : number ≤ content.last_act
  pub plan : IsPlan job.plan
  pub kerf : job.kerf ≡ job.plan.kerf
  pub on : IsOnPart content job
  pub called : IsName job.part
  pub demands : (number : ℕ) → 1 ≤ count_of job.plan.tree number → IsSome (demand_at content number)
  pub waits : is_waiting job.state ≡ true → IsWaiting content job

-- where the work on a job halted is kept under the job's number, and the job is there and doesn't wait
pub record IsHalted (jobs : map.FinMap nat_cmp Job) (number : ℕ) (row : JobHalt) : Type 0 where
  pub of : row.job ≡ number
  pub job : Job
  pub found : map.get jobs number ≡ Some job
  pub over : is_waiting job.state ≡ false

-- which terminal has begun a job is kept under the job's number, and the job is there
pub record IsBegun (jobs : map.FinMap nat_cmp Job) (number : ℕ) (row : JobBegin) : Type 0 where
  pub of : row.job ≡ number
  pub found : IsSome (map.get jobs number)
  pub terminal : IsNumber row.terminal

-- what is said of an order is kept under the order's code, the order is there, and it may be said
pub record IsNoted (orders : set.FinSet code_cmp) (code : List ℕ) (row : OrderNote) : Type 0 where
  pub of : row.order ≡ code
  pub ordered : set.contains orders code ≡ true
  pub good : is_note row.due row.text ≡ true

-- how many pieces of a demand are in the plans of waiting jobs
abbrev pub reserved_in : ℕ → Content → ℕ
reserved_in number content = sum_by (λ (job : Job). if is_waiting job.state then count_of job.plan.tree number else 0) (map.values content.jobs)

-- how many parts are pieces of a demand
abbrev pub made_in : ℕ → Content → ℕ
made_in number content = count_by (λ (part : Part). is_piece_for number part.state) (map.values content.parts)

-- No more of a demand is reserved and made than wanted; what is reserved is in the plans of waiting jobs, and what is made
-- are pieces.
pub record IsCounted (content : Content) (number : ℕ) (demand : Demand) : Type 0 where
  pub few : demand.reserved + demand.made ≤ demand.wanted
  pub reserved : demand.reserved ≡ reserved_in number content
  pub made : demand.made ≡ made_in number content

-- a demand stands under its own number, one that was given from 1 on, and is of an order that is there and of a known
-- material
pub record IsDemand (content : Content) (number : ℕ) (demand : Demand) : Type 0 where
  pub numbered : demand.number ≡ number
  pub least : 1 ≤ number
  pub so_far : number ≤ content.last_demand
  pub ordered : has_order content demand.order ≡ true
  pub known : IsSome (material_at content demand.material)
  pub counted : IsCounted content number demand

-- of an order no two demands have the same line
abbrev pub AreDifferent : Content → Type 0
AreDifferent content =
    (a b : ℕ) (one other : Demand) → demand_at content a ≡ Some one → demand_at content b ≡ Some other → one.order ≡ other.order
    → one.line ≡ other.line → a ≡ b

-- each demand's order is there, and of an order no two demands have the same line
pub record HasLines (content : Content) : Type 0 where
  pub ordered : (number : ℕ) (demand : Demand) → demand_at content number ≡ Some demand → has_order content demand.order ≡ true
  pub different : AreDifferent content

-- an entry stands under its own number, one from 1 to the number of entries, and its message is kept
pub record IsEntry (content : Content) (number : ℕ) (entry : Entry) : Type 0 where
  pub numbered : entry.number ≡ number
  pub least : 1 ≤ number
  pub so_far : number ≤ entry_count content
  pub kept : IsSome (kept_at content entry.message_id)

-- entries are numbered from 1 on without a gap, and their times never fall
pub record AreEntries (content : Content) : Type 0 where
  pub each : (number : ℕ) (entry : Entry) → entry_at content number ≡ Some entry → IsEntry content number entry
  pub no_gap : (number : ℕ) → 1 ≤ number → number ≤ entry_count content → IsSome (entry_at content number)
  pub rising : (a b : ℕ) (one other : Entry) → entry_at content a ≡ Some one → entry_at content b ≡ Some other → a ≤ b → one.at ≤ other.at

-- a content as histories give it
pub record IsWellFormed (texts : Texts) (content : Content) : Type 0 where
  pub in_range : IsInRange content
  pub materials : (code : List ℕ) (material : Material) → material_at content code ≡ Some material → IsKnown code material
  pub parts : (name : Name) (part : Part) → part_at content name ≡ Some part → IsPlaced content name part
  pub jobs : (number : ℕ) (job : Job) → job_at content number ≡ Some job → IsJob content number job
  pub halts : (number : ℕ) (row : JobHalt) → halt_at content number ≡ Some row → IsHalted content.jobs number row
  pub begun : (number : ℕ) (row : JobBegin) → begun_at content number ≡ Some row → IsBegun content.jobs number row
  pub notes : (code : List ℕ) (row : OrderNote) → note_at content code ≡ Some row → IsNoted content.orders code row
  pub demands : (number : ℕ) (demand : Demand) → demand_at content number ≡ Some demand → IsDemand content number demand
  pub lines : AreDifferent content
  pub kept : (message_id : MessageId) (row : Kept) → kept_at content message_id ≡ Some row → IsKept texts message_id row
  pub imports : (code : List ℕ) (row : ImportRow) → import_at content code ≡ Some row → IsImport texts content code row
  pub entries : AreEntries content

-- a new part is of a known material, and no part has its name yet
pub record IsNewPart (content : Content) (part : Part) : Type 0 where
  pub new : part_at content part.name ≡ None
  pub known : IsSome (material_at content part.material)

-- a part that moves is there, in another state
pub record IsMovedPart (content : Content) (part : Part) : Type 0 where
  pub before : Part
  pub found : part_at content part.name ≡ Some before
  pub is : part ≡ in_state part.state before
  pub known : IsSome (material_at content part.material)

-- a new job has the act's number, its part's sides and its material's kerf, and its part is there
pub record IsNewJob (content : Content) (act : ℕ) (job : Job) : Type 0 where
  pub numbered : job.act ≡ act
  pub new : job_at content job.act ≡ None
  pub on : IsOnPart content job
  pub kerf : job.kerf ≡ job.plan.kerf

-- a job that moves is there, in another state, and so is its part
pub record IsMovedJob (content : Content) (job : Job) : Type 0 where
  pub before : Job
  pub found : job_at content job.act ≡ Some before
  pub is : job ≡ record before { state = job.state }
  pub part : IsSome (part_at content job.part)

-- a new demand is of the order, has a new number, and a line that no demand of the order has
pub record IsNewDemand (content : Content) (order : List ℕ) (demand : Demand) : Type 0 where
  pub new : demand_at content demand.number ≡ None
  pub later : content.last_demand < demand.number
  pub of : demand.order ≡ order
  pub unlike : (number : ℕ) (row : Demand) → demand_at content number ≡ Some row → row.order ≡ order → row.line ≢ demand.line

-- a demand that moves is there, with other counts or another number wanted
pub record IsMovedDemand (content : Content) (demand : Demand) : Type 0 where
  pub before : Demand
  pub found : demand_at content demand.number ≡ Some before
  pub is : demand ≡ record before { wanted = demand.wanted; reserved = demand.reserved; made = demand.made }

-- a new entry has the number behind the last one's, no earlier time, and the message ID of the message that is kept with it
pub record IsNewEntry (content : Content) (kept : Option KeptMessage) (entry : Entry) : Type 0 where
  pub next : entry.number ≡ entry_count content + 1
  pub new : entry_at content entry.number ≡ None
  pub later : last_time content ≤ entry.at
  pub of : MatchOption kept ⊥ (λ message. message.message_id ≡ entry.message_id)

-- a new material comes with its totals, and other totals are of a material that is there
abbrev pub TotalsFit : Content → Option Material → Option MaterialTotals → Type 0
TotalsFit content None totals = IfSome totals (λ row. IsSome (material_at content row.material))
TotalsFit content (Some material) totals = MatchOption totals ⊥ (λ row. row.material ≡ material.code)

-- the totals of a material, where a row of totals is put
abbrev pub with_totals : Option MaterialTotals → List ℕ → Totals → Totals
with_totals None code before = before
with_totals (Some row) code before = if same_code row.material code then row.totals else before

-- Each row of the change is new, or is there and keeps all that never changes: a material of a new code; new parts whose
-- names rise; a part that moves, and parts that are undone, whose names rise; a job, new with an act and else one that moves;
-- where the work on a job halted, of which that isn't kept yet; which terminal has begun a job that is there; an order of a
-- new code, or one that is there and gets further lines, and not both; what is said of an order that is there; demands of
-- known materials, each once, of which no more is reserved and made than wanted, with such an order its own, of new and
-- different lines, and else ones that move; totals, such that each material has the sums of its parts after the change;
-- numbers above the last ones; an import of the new order; a message of a new ID; and its entry behind the last one.
pub record Fits (content : Content) (change : Change) : Type 0 where
  pub material : IfSome change.material (λ row. material_at content row.code ≡ None)
  pub parts : All (IsNewPart content) change.parts
  pub rising : AllPairs (λ a b. name_cmp a.name b.name ≡ Less) change.parts
  pub moved : IfSome change.moved (IsMovedPart content)
  pub undone : All (IsMovedPart content) change.undone
  pub apart : AllPairs (λ a b. name_cmp a.name b.name ≡ Less) change.undone
  pub job : IfSome change.job (λ job. MatchOption change.act (IsMovedJob content job) (λ act. IsNewJob content act job))
  pub halt : IfSome change.halt (λ row. halt_at content row.job ≡ None)
  pub begun : IfSome change.begun (λ row. IsSome (job_at content row.job))
  pub order : IfSome change.order (λ code. has_order content code ≡ false)
  pub extended : IfSome change.extended (λ code. (has_order content code ≡ true) × (change.order ≡ None))
  pub note : IfSome change.note (λ row. has_order content row.order ≡ true)
  pub demands : MatchOption (lines_for change) (All (IsMovedDemand content) change.demands) (λ code. All (IsNewDemand content code) change.demands)
  pub wanted : All (λ demand. IsSome (material_at content demand.material) × (demand.reserved + demand.made ≤ demand.wanted)) change.demands
  pub once : AllPairs (λ a b. a.number ≢ b.number) change.demands
  pub lines : IfSome (lines_for change) (λ code. AllPairs (λ a b. a.line ≢ b.line) change.demands)
  pub totals : TotalsFit content change.material change.totals
  pub sums : (code : List ℕ) → totals_of (changed content change) code ≡ with_totals change.totals code (totals_of content code)
  pub act : IfSome change.act (λ act. (content.last_act < act) × (act ≤ MAX_NUMBERS))
  pub demand : IfSome change.demand (λ demand. (content.last_demand < demand) × (demand ≤ MAX_NUMBERS))
  pub import : IfSome change.import (λ row. (import_at content row.order ≡ None) × (change.order ≡ Some row.order))
  pub kept : IfSome change.kept (λ row. kept_at content row.message_id ≡ None)
  pub entry : IfSome change.entry (IsNewEntry content change.kept)
