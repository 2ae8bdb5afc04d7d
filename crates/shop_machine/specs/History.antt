-- What was done from the start, whose each cell is, and how many cells there are of a kind, by what was done alone.
use Rattle.std.specs.Prelude.{◌≡◌, ℕ, zero, suc, ◌+◌, ◌<◌, ◌≤◌, ◌==◌, ◌&&◌, List, [], ◌∷◌, ◌++◌, map, length, slice_get, Bool, true, false, not, if◌then◌else◌, Option, Some, None, count_by, ◌⊎◌}
use Rattle.std.specs.Ordering.{is_eq}
use Rattle.std.specs.List.{flat_map, list_any}
use Rattle.std.specs.Option.{option_map}
use Rattle.std.specs.FinMap as maps
use Rattle.cut_measure.specs.Codes.{code_cmp}
use Rattle.cut_measure.specs.Names.{Name, name_cmp}
use Rattle.cut_measure.specs.Measures.{Size, CutParams, below, cells_of}
use Rattle.cut_tree.specs.Tree.{Tree}
use Rattle.cut_tree.specs.Cells.{Outcome, Location, location_of}
use Rattle.shop_records.specs.declared.records.Part.{Part}
use Rattle.shop_records.specs.declared.records.Demand.{Demand}
use Rattle.shop_records.specs.declared.records.Column.{Column}
use Rattle.shop_records.specs.declared.records.Column.TheVariants.{Received, Stock, Rack, Pieces, Kerf, Scrap, Returned}
use Rattle.shop_records.specs.declared.records.State.{State}
use Rattle.shop_records.specs.declared.records.State.TheVariants as state
use Rattle.shop_records.specs.declared.texts.MessageId.{MessageId}
use Rattle.shop_records.specs.declared.journal.Entry.{Entry as EntryRow}
use Rattle.shop_records.specs.declared.messages.Message.{Message}
use Rattle.shop_files.specs.declared.orders.OrderLine.{OrderLine}
use Rattle.shop_records.specs.declared.messages.Reply.{Reply}
use Rattle.shop_records.specs.Same.{same_message_id, same_name, same_code}
use Rattle.shop_records.specs.Columns.{is_there, is_piece, is_kerf, is_scrap, is_returned, is_free}
use Rattle.shop_records.specs.Elements.{IsIn}
use Rattle.shop_records.specs.Messages.{Texts, IsMessage, is_accepted, message_id_of}
use Rattle.shop_records.specs.Readings.{Reading}
use Rattle.shop_records.specs.Content.{Content, fresh, part_at, demand_at, kept_at, entry_at, entry_count, forgotten, totals_of, AddsUp}
use Rattle.shop_machine.specs.Machine.{Accepts, Effect, SetsParams, Receives, Orders, Reserves, Ends, SetsState, Amends, effects, Undoes}
use Rattle.shop_machine.specs.Ending.{state_after_cut}
use Rattle.shop_records.specs.WellFormed.{IsCounted, reserved_in, made_in}

-- what was done: an accepted message, and what its text was read as
pub record Entry : Type 0 where
  pub message : Message
  pub read : Reading

abbrev pub messages_of : List Entry → List Message
messages_of history = map (λ (entry : Entry). entry.message) history

-- the message ID of an entry that is there, before others
abbrev pub message_id_before : Option EntryRow → List MessageId → List MessageId
message_id_before None message_ids = message_ids
message_id_before (Some entry) message_ids = entry.message_id ∷ message_ids

-- A content that a message left is as it was left, or it forgot its entries, all of them at once, as one that was taken over from
-- an earlier version.
abbrev pub MayForget : (left content : Content) → Type 0
MayForget left content = (content ≡ left) ⊎ (content ≡ forgotten left)

-- These messages, the newest first, were each accepted in turn from the start, none of them a repeat, and give this content.
-- After any of them it may have forgotten its entries.
abbrev pub Gives : Texts → List Entry → Content → Type 0
Gives texts [] content = content ≡ fresh
Gives texts (entry ∷ earlier) content =
    (before : Content) × (answer : Reply) × Gives texts earlier before × IsMessage entry.message
    × (kept_at before (message_id_of entry.message) ≡ None)
    × (left : Content) × Accepts texts before entry.message entry.read answer left × MayForget left content

-- the same, and no entry was forgotten
abbrev pub GivesAll : Texts → List Entry → Content → Type 0
GivesAll texts [] content = content ≡ fresh
GivesAll texts (entry ∷ earlier) content =
    (before : Content) × (answer : Reply) × GivesAll texts earlier before × IsMessage entry.message
    × (kept_at before (message_id_of entry.message) ≡ None) × Accepts texts before entry.message entry.read answer content

-- the message IDs of a history's messages, the newest first
abbrev pub message_ids_of : List Entry → List MessageId
message_ids_of history = map message_id_of (messages_of history)

-- the message IDs of a content's entries of these numbers, from n down to 1
abbrev pub message_ids_to : (n : ℕ) → Content → List MessageId
message_ids_to zero content = []
message_ids_to (suc n) content = message_id_before (entry_at content (suc n)) (message_ids_to n content)

-- the message IDs of all entries of a content, the newest first
abbrev pub entered_message_ids : Content → List MessageId
entered_message_ids content = message_ids_to (entry_count content) content

-- The entries are the newest part of the history, and as many messages are kept as were accepted: so where as many entries are
-- there as messages are kept, they are all of it.
pub record AreNewest (history : List Entry) (content : Content) : Type 0 where
  pub earlier : List MessageId
  pub newest : message_ids_of history ≡ entered_message_ids content ++ earlier
  pub kept : maps.len content.kept ≡ length history

-- a message with this ID was accepted before
abbrev pub has_message_id : MessageId → List Message → Bool
has_message_id message_id history = list_any (λ message. same_message_id (message_id_of message) message_id) history

-- The messages of the history after a list of messages with these replies: each message once, so the list without the
-- refused messages and without the repeats comes to them.
abbrev pub history_after : List Message → List Message → List Reply → List Message
history_after history [] replies = history
history_after history (message ∷ messages) [] = history
history_after history (message ∷ messages) (answer ∷ answers) =
    history_after (if is_accepted answer && not (has_message_id (message_id_of message) history) then message ∷ history else history) messages answers

-- ---- received units

-- a unit that was received
pub record ReceivedUnit : Type 0 where
  pub name : Name
  pub material : List ℕ
  pub batch : List ℕ
  pub size : Size

-- what was done, the newest first
abbrev pub effects_of : List Entry → List Effect
effects_of [] = []
effects_of (entry ∷ earlier) = effects entry.message.command entry.read ++ effects_of earlier

abbrev pub acts_in : Effect → ℕ
acts_in (Receives material batch size count) = 1
acts_in (Reserves part tree) = 1
acts_in _ = 0

-- how many acts there were
abbrev pub acts_of : List Effect → ℕ
acts_of [] = 0
acts_of (done ∷ earlier) = acts_of earlier + acts_in done

-- the units that are received as the act of this number
abbrev pub units_in : ℕ → Effect → List ReceivedUnit
units_in act (Receives material batch size count) =
    map (λ i. record { name = record { act = act; node = i }; material = material; batch = batch; size = size }) (below count)
units_in act _ = []

-- the units that were received, the newest first
abbrev pub units_of : List Effect → List ReceivedUnit
units_of [] = []
units_of (done ∷ earlier) = units_in (acts_of earlier + 1) done ++ units_of earlier

-- ---- ordered lines

-- a line, and the code of its order
pub record OrderedLine : Type 0 where
  pub order : List ℕ
  pub line : OrderLine

-- the line, of which so many pieces are wanted
abbrev pub with_count : ℕ → OrderedLine → OrderedLine
with_count count ordered = record { order = ordered.order; line = record ordered.line { count = count } }

-- the lines, where so many pieces are wanted of the one after n others
abbrev pub amended_after : (n count : ℕ) → List OrderedLine → List OrderedLine
amended_after n count [] = []
amended_after zero count (ordered ∷ lines) = with_count count ordered ∷ lines
amended_after (suc n) count (ordered ∷ lines) = ordered ∷ amended_after n count lines

-- the lines, where so many pieces are wanted of the n-th one, the first one being that of 1
abbrev pub amended_lines : (n count : ℕ) → List OrderedLine → List OrderedLine
amended_lines zero count lines = lines
amended_lines (suc n) count lines = amended_after n count lines

abbrev pub lines_by : Effect → List OrderedLine → List OrderedLine
lines_by (Orders order lines) before = before ++ map (λ line. record { order = order; line = line }) lines
lines_by (Amends demand wanted) before = amended_lines demand wanted before
lines_by _ before = before

-- the lines that were ordered, the oldest first, each with the number of pieces that was said last
abbrev pub ordered_lines : List Effect → List OrderedLine
ordered_lines [] = []
ordered_lines (done ∷ earlier) = lines_by done (ordered_lines earlier)

-- the n-th line, the first one being that of 1
abbrev pub nth_line : ℕ → List OrderedLine → Option OrderedLine
nth_line zero lines = None
nth_line (suc n) lines = slice_get lines n

-- ---- what a job was made of

abbrev pub material_by : Effect → ℕ → Name → List ℕ → List ℕ
material_by (Receives material batch size count) act unit before = if unit.act == act then material else before
material_by _ act unit before = before

-- the material of a received unit
abbrev pub unit_material : List Effect → Name → List ℕ
unit_material [] unit = []
unit_material (done ∷ earlier) unit = material_by done (acts_of earlier + 1) unit (unit_material earlier unit)

abbrev pub params_by : Effect → List ℕ → Option CutParams → Option CutParams
params_by (SetsParams material params) code before = if same_code code material then Some params else before
params_by _ code before = before

-- how a material is cut
abbrev pub material_params : List Effect → List ℕ → Option CutParams
material_params [] code = None
material_params (done ∷ earlier) code = params_by done code (material_params earlier code)

-- the part that was reserved, and the tree that the reservation's text spells
pub record Reservation : Type 0 where
  pub part : Name
  pub tree : Tree

abbrev pub job_by : Effect → (act number : ℕ) → Option Reservation → Option Reservation
job_by (Reserves part tree) act number before = if number == act then Some (record { part = part; tree = tree }) else before
job_by _ act number before = before

abbrev pub job_of : List Effect → ℕ → Option Reservation
job_of [] number = None
job_of (done ∷ earlier) number = job_by done (acts_of earlier + 1) number (job_of earlier number)

-- ---- owners

-- whose a cell is: the part's state, name and sides, and the cell's place inside the part
pub record Owner : Type 0 where
  pub state : State
  pub name : Name
  pub size : Size
  pub x : ℕ
  pub y : ℕ

-- the owner is this part, and stands
abbrev pub stands_as : Name → Owner → Bool
stands_as part owner = same_name owner.name part && is_free owner.state

-- a cell at that location of a job
abbrev pub owner_at : CutParams → ℕ → Location → Owner
owner_at params number location =
    let size : Size = record { w = location.w; h = location.h } in
    record { state = state_after_cut params location.owner size; name = record { act = number; node = location.node }; size = size; x = location.x; y = location.y }

-- The owner after the cuts of a job, before which it was this one: where that was the job's part, the cell is followed down
-- the tree.
abbrev pub cut_owner : Option Reservation → Option CutParams → (ℕ → Outcome) → ℕ → Option Owner → Option Owner
cut_owner (Some made) (Some params) outcome number (Some before) =
    if stands_as made.part before
    then Some (owner_at params number (location_of made.tree before.size.w before.size.h params.kerf outcome 0 0 before.x before.y))
    else Some before
cut_owner None params outcome number before = before
cut_owner (Some made) None outcome number before = before
cut_owner (Some made) (Some params) outcome number None = None

-- the owner after a standing part as a whole got this state
abbrev pub owner_with_state : Name → State → Option Owner → Option Owner
owner_with_state part into None = None
owner_with_state part into (Some before) = if stands_as part before then Some (record before { state = into }) else Some before

-- The owner after a job's end was taken back: where it was a part that the job made, the owner before that end.
abbrev pub undone_owner : ℕ → Option Owner → Option Owner → Option Owner
undone_owner job ended None = None
undone_owner job ended (Some before) = if before.name.act == job then ended else Some before

-- By cases on what was done; a reserved part stands. A function gives the owner before the end of a job.
abbrev pub owner_by : Effect → List Effect → Name → ℕ → ℕ → (ℕ → Option Owner) → Option Owner → Option Owner
owner_by (Receives material batch size count) earlier unit x y ended before =
    if unit.act == acts_of earlier + 1 then Some (record { state = state.Standing; name = unit; size = size; x = x; y = y }) else before
owner_by (Ends job outcome) earlier unit x y ended before =
    cut_owner (job_of earlier job) (material_params earlier (unit_material earlier unit)) outcome job before
owner_by (Undoes job) earlier unit x y ended before = undone_owner job (ended job) before
owner_by (SetsState part into) earlier unit x y ended before = owner_with_state part into before
owner_by _ earlier unit x y ended before = before

-- the end of this job
abbrev pub ends_job : ℕ → Effect → Bool
ends_job job (Ends ended outcome) = ended == job
ends_job job _ = false

-- The owner of the cell (x, y) of a unit by what was done; or, where a job is given, by what was done before its end.
abbrev pub owner_when : List Effect → Option ℕ → Name → ℕ → ℕ → Option Owner
owner_when [] when unit x y = None
owner_when (done ∷ earlier) None unit x y =
    owner_by done earlier unit x y (λ job. owner_when earlier (Some job) unit x y) (owner_when earlier None unit x y)
owner_when (done ∷ earlier) (Some job) unit x y =
    if ends_job job done then owner_when earlier None unit x y else owner_when earlier (Some job) unit x y

-- the owner of the cell (x, y) of a unit, by cases on the newest message
abbrev pub owner_of : List Effect → Name → ℕ → ℕ → Option Owner
owner_of effects unit x y = owner_when effects None unit x y

-- its owner before the end of a job, by the effects before that end
abbrev pub owner_before : List Effect → ℕ → Name → ℕ → ℕ → Option Owner
owner_before effects job unit x y = owner_when effects (Some job) unit x y

-- cut, or undone: it owns no cell
abbrev pub is_gone : State → Bool
is_gone (state.Cut job) = true
is_gone (state.Undone job) = true
is_gone _ = false

-- a reserved part stands
abbrev pub standing_as : State → State
standing_as state.Standing = state.Standing
standing_as (state.Reserved job) = state.Standing
standing_as (state.Cut job) = state.Cut job
standing_as (state.Piece demand) = state.Piece demand
standing_as state.Kerf = state.Kerf
standing_as state.Scrap = state.Scrap
standing_as state.Returned = state.Returned
standing_as (state.Undone job) = state.Undone job

-- a part that is neither cut nor undone has this cell of the unit
pub record HasCellOf (unit : Name) (x y : ℕ) (part : Part) : Type 0 where
  pub root : part.root ≡ unit
  pub whole : is_gone part.state ≡ false
  pub right : part.x ≤ x
  pub left : x < part.x + part.size.w
  pub below : part.y ≤ y
  pub above : y < part.y + part.size.h

-- the part is that of the owner, and the cell's place in it is the owner's
pub record IsOwner (owner : Owner) (x y : ℕ) (part : Part) : Type 0 where
  pub name : part.name ≡ owner.name
  pub state : standing_as part.state ≡ owner.state
  pub size : part.size ≡ owner.size
  pub across : part.x + owner.x ≡ x
  pub down : part.y + owner.y ≡ y

-- a part row has the cell (x, y) of the unit, it is the owner's that was found, and no other row has the cell
pub record HasOwner (parts : maps.FinMap name_cmp Part) (found : Option Owner) (unit : Name) (x y : ℕ) : Type 0 where
  pub part : Part
  pub owner : Owner
  pub kept : maps.get parts part.name ≡ Some part
  pub holds : HasCellOf unit x y part
  pub owned : found ≡ Some owner
  pub same : IsOwner owner x y part
  pub alone : (name : Name) (other : Part) → maps.get parts name ≡ Some other → HasCellOf unit x y other → other ≡ part

abbrev pub OneOwner : List Effect → Content → Name → ℕ → ℕ → Type 0
OneOwner effects content unit x y = HasOwner content.parts (owner_of effects unit x y) unit x y

-- each cell of each received unit has exactly one owner
abbrev pub EachCellIsOwned : List Effect → Content → Type 0
EachCellIsOwned effects content =
    (unit : ReceivedUnit) → IsIn unit (units_of effects) → (x y : ℕ) → x < unit.size.w → y < unit.size.h → OneOwner effects content unit.name x y

-- a part that is neither cut nor undone is the owner of each of its cells, in the state, at the place and with the sides that its row says
abbrev pub EachPartOwnsItsCells : List Effect → Content → Type 0
EachPartOwnsItsCells effects content =
    (name : Name) (part : Part) → part_at content name ≡ Some part → (x y : ℕ) → HasCellOf part.root x y part
    → (owner : Owner) × (owner_of effects part.root x y ≡ Some owner) × IsOwner owner x y part

-- ---- counts

-- whether a cell of a unit is counted in a column: received is every cell, and in the others its owner is counted
abbrev pub counts_cell : Column → Name → Option Owner → Bool
counts_cell Received unit found = true
counts_cell _ unit None = false
counts_cell Stock unit (Some owner) = is_there owner.state && same_name owner.name unit
counts_cell Rack unit (Some owner) = is_there owner.state && (not (same_name owner.name unit))
counts_cell Pieces unit (Some owner) = is_piece owner.state
counts_cell Kerf unit (Some owner) = is_kerf owner.state
counts_cell Scrap unit (Some owner) = is_scrap owner.state
counts_cell Returned unit (Some owner) = is_returned owner.state

-- the cells of the received units of a material, one by one
abbrev pub cells_of_units : List ℕ → List ReceivedUnit → List (Name × (ℕ × ℕ))
cells_of_units code units = flat_map (λ unit. if is_eq (code_cmp unit.material code) then map (λ cell. (unit.name, cell)) (cells_of unit.size) else []) units

-- how many of them are counted in a column
abbrev pub cells_of_column : Column → List Effect → List ℕ → ℕ
cells_of_column column effects code = count_by (λ c. counts_cell column c.0 (owner_of effects c.0 c.1.0 c.1.1)) (cells_of_units code (units_of effects))

-- the totals of the content are the counts of cells
abbrev pub TotalsAreCounts : List Effect → Content → Type 0
TotalsAreCounts effects content = (code : List ℕ) →
    totals_of content code ≡ record {
      received = cells_of_column Received effects code;
      stock = cells_of_column Stock effects code;
      rack = cells_of_column Rack effects code;
      pieces = cells_of_column Pieces effects code;
      kerf = cells_of_column Kerf effects code;
      scrap = cells_of_column Scrap effects code;
      returned = cells_of_column Returned effects code;
    }

-- ---- demands

-- the demand of an ordered line under its number, when so many of its pieces are reserved and made
abbrev pub demand_of : ℕ → OrderedLine → ℕ → ℕ → Demand
demand_of number ordered reserved made =
    let line : OrderLine = ordered.line in
    record {
      number = number;
      order = ordered.order;
      line = line.line;
      material = line.material;
      size = record { w = line.w; h = line.h };
      may_turn = line.turn;
      worth = line.worth;
      wanted = line.count;
      reserved = reserved;
      made = made;
    }

-- The demand of number n is that of the n-th ordered line, with what is reserved of it in the plans of waiting jobs and
-- what is made of it; where no n-th line was ordered, there is none.
abbrev pub DemandsAreLines : List Effect → Content → Type 0
DemandsAreLines effects content = (number : ℕ) →
    demand_at content number ≡ option_map (λ ordered. demand_of number ordered (reserved_in number content) (made_in number content)) (nth_line number (ordered_lines effects))

-- the whole account of a history and the content that it gives
pub record IsAccountOf (texts : Texts) (history : List Entry) (content : Content) : Type 0 where
  pub given : Gives texts history content
  pub owners : EachCellIsOwned (effects_of history) content
  pub parts : EachPartOwnsItsCells (effects_of history) content
  pub totals : TotalsAreCounts (effects_of history) content
  pub adds_up : (code : List ℕ) → AddsUp (totals_of content code)
  pub demands : (number : ℕ) (demand : Demand) → demand_at content number ≡ Some demand → IsCounted content number demand
  pub last_act : content.last_act ≡ acts_of (effects_of history)
  pub last_demand : content.last_demand ≡ length (ordered_lines (effects_of history))
  pub lines : DemandsAreLines (effects_of history) content
