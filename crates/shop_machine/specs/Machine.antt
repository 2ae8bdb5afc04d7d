-- The shop as a machine: what it answers to a message, and what it contains afterwards.
use Rattle.std.specs.Prelude.{◌≡◌, ◌≢◌, ◌+◌, ℕ, List, [], ◌∷◌, Option, Some, None, MatchOption, max}
use Rattle.std.specs.Option.{option_map}
use Rattle.cut_measure.specs.Names.{Name}
use Rattle.cut_measure.specs.Measures.{Size, CutParams}
use Rattle.cut_tree.specs.declared.halts.Stop.TheVariants as stop
use Rattle.cut_tree.specs.Tree.{Tree}
use Rattle.cut_tree.specs.Cells.{Outcome, all_made}
use Rattle.cut_tree.specs.Stops.{outcome_of, halted}
use Rattle.cut_tree.specs.Patterns.{Pattern}
use Rattle.shop_records.specs.declared.records.Material.{Material}
use Rattle.shop_records.specs.declared.records.Part.{Part}
use Rattle.shop_files.specs.declared.orders.OrderLine.{OrderLine}
use Rattle.shop_records.specs.declared.records.State.{State}
use Rattle.shop_records.specs.declared.records.State.TheVariants as state
use Rattle.shop_records.specs.declared.records.Job.{Job}
use Rattle.shop_records.specs.declared.records.JobBegin.{JobBegin}
use Rattle.shop_records.specs.declared.records.Demand.{Demand}
use Rattle.shop_records.specs.declared.texts.Kept.{Kept}
use Rattle.shop_records.specs.declared.changes.Change.{Change}
use Rattle.shop_records.specs.declared.messages.Command.{Command}
use Rattle.shop_records.specs.declared.messages.Command.TheVariants.{AddMaterial, Receive, AddOrder, Reserve, Done, Break, Release, Scrap, GiveBack, Import, Amend, Undo, Note, Extend, Begin}
use Rattle.shop_records.specs.declared.imports.Form.{Form}
use Rattle.shop_records.specs.declared.imports.Form.TheVariants.{Cgcut}
use Rattle.shop_records.specs.declared.imports.ImportRow.{ImportRow}
use Rattle.shop_records.specs.declared.journal.Entry.{Entry}
use Rattle.shop_records.specs.declared.messages.Message.{Message}
use Rattle.shop_records.specs.declared.refusals.Refusal.{Refusal}
use Rattle.shop_records.specs.declared.refusals.Refusal.TheVariants.{NumberReused, NoMemory, StoreFault}
use Rattle.shop_records.specs.declared.messages.Reply.{Reply}
use Rattle.shop_records.specs.declared.messages.Reply.TheVariants as reply
use Rattle.shop_records.specs.Messages.{Texts, refusal_in, message_id_of}
use Rattle.shop_records.specs.Journal.{word_of}
use Rattle.shop_records.specs.Readings.{Reading, unread, Plan, Lines, Problem, plan_in}
use Rattle.shop_records.specs.Keeping.{KeepsReply}
use Rattle.shop_records.specs.Content.{Content, material_at, part_at, job_at, has_order, demand_at, kept_at, import_at, entry_count, last_time, totals_of, totals_for, of_found, with_number, changed, material_of, halt_at, begun_at, demands_of}
use Rattle.shop_machine.specs.Adding.{material_refusal, material_change}
use Rattle.shop_machine.specs.Receiving.{receive_refusal, receive_change}
use Rattle.shop_machine.specs.Ordering.{order_refusal, order_change}
use Rattle.shop_machine.specs.Importing.{IsImportReading, import_refusal, ImportMakes, problem_lines}
use Rattle.shop_machine.specs.Reserving.{IsReading, reserve_refusal, IsReservation}
use Rattle.shop_machine.specs.Ending.{end_refusal, IsWork, IsDone, IsBroken, IsRelease}
use Rattle.shop_machine.specs.Retiring.{scrap_refusal, return_refusal, state_change}
use Rattle.shop_machine.specs.Amending.{amend_refusal, amend_change}
use Rattle.shop_machine.specs.Undoing.{undo_refusal, IsUndo}
use Rattle.shop_machine.specs.Noting.{note_refusal, note_change}
use Rattle.shop_machine.specs.Extending.{extend_refusal, extend_change}
use Rattle.shop_machine.specs.Beginning.{begin_refusal, begin_change}

-- ---- commands

-- what a command's text stands for; a reservation's stands for a plan, or for nothing, an import's for what is in its file,
-- or it comes again, and other commands have no text
abbrev pub Reads : Texts → Content → Command → Reading → Type 0
Reads texts old (Reserve part text) unread = (plan : Pattern) → IsReading old part text plan → ⊥
Reads texts old (Reserve part text) (Plan plan) = IsReading old part text plan
Reads texts old (Reserve part text) _ = ⊥
Reads texts old (Import order form text) read = IsImportReading texts (import_at old order) form text read
Reads texts old _ read = read ≡ unread

-- why a command is refused, if it is, what its text stands for being read
abbrev pub refusal_of : Content → Command → Reading → Option Refusal
refusal_of old (AddMaterial material kind kerf min_long min_short) read =
    material_refusal (material_at old material) kind (record { kerf = kerf; min_long = min_long; min_short = min_short })
refusal_of old (Receive material batch w h count) read =
    receive_refusal (material_at old material) (totals_of old material) (old.last_act + 1) w h count
refusal_of old (AddOrder order lines) read =
    order_refusal (has_order old order) (material_at old) lines (old.last_demand + 1)
refusal_of old (Reserve part text) read =
    reserve_refusal (part_at old part) (material_of old (part_at old part)) (plan_in read) (demand_at old) (old.last_act + 1)
refusal_of old (Done number) read = end_refusal old stop.All (job_at old number)
refusal_of old (Break number halt rest) read = end_refusal old (halted halt rest) (job_at old number)
refusal_of old (Release number) read = end_refusal old stop.All (job_at old number)
refusal_of old (Scrap part) read = scrap_refusal (part_at old part) (totals_for old (part_at old part))
refusal_of old (GiveBack part) read = return_refusal (part_at old part) (totals_for old (part_at old part))
refusal_of old (Import order form text) read =
    import_refusal (has_order old order) (material_at old) (totals_of old) (old.last_act + 1) (old.last_demand + 1) form read
refusal_of old (Amend demand wanted) read = amend_refusal (demand_at old demand) wanted
refusal_of old (Undo number) read = undo_refusal old (job_at old number)
refusal_of old (Note order due text) read = note_refusal (has_order old order) due text
refusal_of old (Extend order lines) read =
    extend_refusal (has_order old order) (material_at old) (demands_of old order) lines (old.last_demand + 1)
refusal_of old (Begin number) read = begin_refusal (job_at old number)

-- what a command changes where it is accepted, what its text stands for being read
abbrev pub Makes : Content → Command → Reading → Change → Type 0
Makes old (AddMaterial material kind kerf min_long min_short) read change =
    change ≡ material_change (material_at old material) material kind (record { kerf = kerf; min_long = min_long; min_short = min_short })
Makes old (Receive material batch w h count) read change =
    change ≡ receive_change material batch (record { w = w; h = h }) (old.last_act + 1) count (totals_of old material)
Makes old (AddOrder order lines) read change = change ≡ order_change order lines (old.last_demand + 1)
Makes old (Reserve part text) read change =
    (row : Part) × (plan : Pattern) × (part_at old part ≡ Some row) × (read ≡ Plan plan)
    × IsReservation row plan (demand_at old) (old.last_act + 1) change
Makes old (Done number) read change =
    (j : Job) × (part : Part) × (material : Material) × IsWork old number j part material
    × IsDone j part material.limits (totals_of old part.material) (demand_at old) change
Makes old (Break number halt rest) read change =
    (j : Job) × (part : Part) × (material : Material) × IsWork old number j part material
    × IsBroken halt rest j part material.limits (totals_of old part.material) (demand_at old) change
Makes old (Release number) read change =
    (j : Job) × (part : Part) × (material : Material) × IsWork old number j part material
    × IsRelease j part (demand_at old) change
Makes old (Scrap part) read change =
    (row : Part) × (part_at old part ≡ Some row) × (change ≡ state_change state.Scrap row (totals_of old row.material) (reply.Scrap row.name))
Makes old (GiveBack part) read change =
    (row : Part) × (part_at old part ≡ Some row) × (change ≡ state_change state.Returned row (totals_of old row.material) (reply.GiveBack row.name))
Makes old (Import order form text) read change =
    ImportMakes order form text (totals_of old) (old.last_act + 1) (old.last_demand + 1) read change
Makes old (Amend demand wanted) read change = (row : Demand) × (demand_at old demand ≡ Some row) × (change ≡ amend_change row wanted)
Makes old (Undo number) read change =
    (j : Job) × (part : Part) × (material : Material) × IsWork old number j part material
    × IsUndo j (halt_at old j.act) part material.limits (totals_of old part.material) (demand_at old) change
Makes old (Note order due text) read change = change ≡ note_change order due text
Makes old (Extend order lines) read change = change ≡ extend_change order lines (old.last_demand + 1)
Makes old (Begin number) read change = change ≡ begin_change number (begun_at old number)

-- ---- what commands do to cells

-- what a command does to units, to how materials are cut, to orders and to cells
pub data Effect : Type 0 where
  -- to none of them
  nothing : Effect
  -- a material is cut by these parameters
  SetsParams : (material : List ℕ) (params : CutParams) → Effect
  -- an act: units of one size are received
  Receives : (material batch : List ℕ) (size : Size) (count : ℕ) → Effect
  -- lines of an order are asked for, the first ones or further ones
  Orders : (order : List ℕ) (lines : List OrderLine) → Effect
  -- an act: a part is to be cut by this tree
  Reserves : (part : Name) (tree : Tree) → Effect
  -- the cuts of a job are made as its outcome says
  Ends : (job : ℕ) (outcome : ℕ → Outcome) → Effect
  -- the end of a job is taken back
  Undoes : (job : ℕ) → Effect
  -- a standing part as a whole is in this state from now on
  SetsState : (part : Name) (into : State) → Effect
  -- so many pieces of a demand are wanted from now on
  Amends : (demand wanted : ℕ) → Effect

-- what an import does, the newest first: the lines of an order file are asked for; a unit of a problem's rectangle is
-- received, and then its lines are asked for; and the same again does nothing
abbrev pub import_effects : List ℕ → Form → Reading → List Effect
import_effects order form (Lines lines) = Orders order lines ∷ []
import_effects order (Cgcut material) (Problem size pieces) = Orders order (problem_lines material pieces) ∷ Receives material order size 1 ∷ []
import_effects order form _ = nothing ∷ []

-- by cases on a command, and on what its text was read as, the newest first
abbrev pub effects : Command → Reading → List Effect
effects (AddMaterial material kind kerf min_long min_short) read =
    SetsParams material (record { kerf = kerf; min_long = min_long; min_short = min_short }) ∷ []
effects (Receive material batch w h count) read = Receives material batch (record { w = w; h = h }) count ∷ []
effects (AddOrder order lines) read = Orders order lines ∷ []
effects (Reserve part text) (Plan plan) = Reserves part plan.tree ∷ []
effects (Reserve part text) _ = nothing ∷ []
effects (Done job) read = Ends job all_made ∷ []
effects (Break job halt rest) read = Ends job (outcome_of (halted halt rest)) ∷ []
effects (Release job) read = nothing ∷ []
effects (Scrap part) read = SetsState part state.Scrap ∷ []
effects (GiveBack part) read = SetsState part state.Returned ∷ []
effects (Import order form text) read = import_effects order form read
effects (Amend demand wanted) read = Amends demand wanted ∷ []
effects (Undo job) read = Undoes job ∷ []
effects (Note order due text) read = nothing ∷ []
effects (Extend order lines) read = Orders order lines ∷ []
effects (Begin job) read = nothing ∷ []

-- ---- entries

abbrev pub first_order : List Demand → Option (List ℕ)
first_order [] = None
first_order (demand ∷ demands) = Some demand.order

-- the order that a command makes, also by an import that came again, extends, notes, or of which it amends a demand, from the
-- demands of its change
abbrev pub entry_order : Command → List Demand → Option (List ℕ)
entry_order (AddOrder order lines) demands = Some order
entry_order (Import order form text) demands = Some order
entry_order (Amend demand wanted) demands = first_order demands
entry_order (Note order due text) demands = Some order
entry_order (Extend order lines) demands = Some order
entry_order _ demands = None

-- the part that a command reserves, scraps or returns
abbrev pub entry_part : Command → Option Name
entry_part (Reserve part text) = Some part
entry_part (Scrap part) = Some part
entry_part (GiveBack part) = Some part
entry_part _ = None

-- the job that a change reserves, ends, releases or undoes, or 0
abbrev pub changed_job : Option Job → ℕ
changed_job found = of_found (λ (job : Job). job.act) found

-- the job that a command reserves, begins, ends, releases or undoes, or 0, from the job of its change
abbrev pub entry_job : Command → Option Job → ℕ
entry_job (Begin number) found = number
entry_job _ found = changed_job found

-- the entry of a message, under this number and with this time: what it made by its command and its change
abbrev pub entry_of : (number at : ℕ) → Message → Change → Entry
entry_of number at message change =
    record {
      number = number;
      message_id = message_id_of message;
      at = at;
      word = word_of message.command;
      act = with_number change.act 0;
      job = entry_job message.command change.job;
      order = entry_order message.command change.demands;
      part = entry_part message.command;
    }

-- the change that also writes the message's entry, where these are the last one's number and time: its number is the next one,
-- and its time the one that is given, or the last one's where that is greater
abbrev pub entering : (last_number last_at at : ℕ) → Message → Change → Change
entering last_number last_at at message change =
    record change { entry = Some (entry_of (last_number + 1) (max at last_at) message change) }

-- ---- steps and runs

-- the change that also keeps the message, with both texts, and of an import the text of its reply, and which terminal has begun
-- a job
abbrev pub keeping : Texts → Message → Change → Change
keeping texts message change = record change {
  begun = option_map (λ (row : JobBegin). record row { terminal = message.terminal }) change.begun;
  import = option_map (λ (row : ImportRow). record row { reply = texts.of_reply change.reply }) change.import;
  kept = Some (record { message_id = message_id_of message; kept = record { command = texts.of_message message; reply = texts.of_reply change.reply } });
}

-- the change that keeps the message and writes its entry behind the last one of the content
abbrev pub keeping_at : Texts → (at : ℕ) → Content → Message → Change → Change
keeping_at texts at old message change = entering (entry_count old) (last_time old) at message (keeping texts message change)

-- A message that isn't kept yet is accepted with this reply, what its text stands for being read: its command's change is
-- made, it is kept, and its entry is written, with the time that it was given; a message without a time was given 0.
pub record Accepts (texts : Texts) (old : Content) (message : Message) (read : Reading) (answer : Reply) (new : Content) : Type 0 where
  pub reads : Reads texts old message.command read
  pub allowed : refusal_of old message.command read ≡ None
  pub change : Change
  pub makes : Makes old message.command read change
  pub answered : answer ≡ change.reply
  pub at : ℕ
  pub becomes : new ≡ changed old (keeping_at texts at old message change)

-- the same of a message that was given this time
abbrev pub AcceptsAt : Texts → (at : ℕ) → Content → Message → Reading → Reply → Content → Type 0
AcceptsAt texts at old message read answer new = (accepts : Accepts texts old message read answer new) × (accepts.at ≡ at)

-- a command is refused so, memory and the store aside
abbrev pub Refuses : Texts → Content → Command → Refusal → Type 0
Refuses texts old command refusal =
    refusal ≢ NoMemory → refusal ≢ StoreFault → (read : Reading) × Reads texts old command read × (refusal_of old command read ≡ Some refusal)

-- From old, what the machine may answer to a message whose ID isn't kept, and go on to new.
abbrev pub StepNew : Texts → Content → Message → Reply → Content → Type 0
StepNew texts old message answer new =
    MatchOption (refusal_in answer)
    ((read : Reading) × Accepts texts old message read answer new)
    (λ refusal. Refuses texts old message.command refusal × (new ≡ old))

-- What it may answer to a message whose ID is kept: the kept reply to the kept message, and to another one that its
-- number is reused.
abbrev pub StepAgain : Texts → Kept → Message → Reply → Type 0
StepAgain texts row message answer =
    MatchOption (refusal_in answer)
    (KeepsReply texts row message answer)
    (λ refusal. refusal ≢ NoMemory → refusal ≢ StoreFault → (refusal ≡ NumberReused) × (row.command ≢ texts.of_message message))

-- From old, the machine may give this reply to the message and go on to new.
abbrev pub Step : Texts → Content → Message → Reply → Content → Type 0
Step texts old message answer new =
    MatchOption (kept_at old (message_id_of message))
    (StepNew texts old message answer new)
    (λ row. StepAgain texts row message answer × (new ≡ old))

-- the same two of a message that was given this time
abbrev pub StepNewAt : Texts → (at : ℕ) → Content → Message → Reply → Content → Type 0
StepNewAt texts at old message answer new =
    MatchOption (refusal_in answer)
    ((read : Reading) × AcceptsAt texts at old message read answer new)
    (λ refusal. Refuses texts old message.command refusal × (new ≡ old))

abbrev pub StepAt : Texts → (at : ℕ) → Content → Message → Reply → Content → Type 0
StepAt texts at old message answer new =
    MatchOption (kept_at old (message_id_of message))
    (StepNewAt texts at old message answer new)
    (λ row. StepAgain texts row message answer × (new ≡ old))

-- the machine may give these replies to these messages, one step after another
abbrev pub Run : Texts → Content → List Message → List Reply → Content → Type 0
Run texts old [] [] new = new ≡ old
Run texts old (message ∷ messages) (answer ∷ answers) new =
    (mid : Content) × Step texts old message answer mid × Run texts mid messages answers new
Run texts old [] (answer ∷ answers) new = ⊥
Run texts old (message ∷ messages) [] new = ⊥
