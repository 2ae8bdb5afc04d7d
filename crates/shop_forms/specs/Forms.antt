-- Messages, queries and replies as JSON values: what a value stands for, and what is printed.
use Rattle.std.specs.Prelude.{◌≡◌, ℕ, ◌&&◌, List, length, map, All, nat_le, Bool, true, false, if◌then◌else◌, Option, Some, None, option_map, option_and_then, IfSome, codes, bytes_eq}
use Rattle.std.specs.Option.{option_or}
use Rattle.cut_measure.specs.Names.{Name, name_text}
use Rattle.cut_measure.specs.declared.sizes.Kind.{Kind}
use Rattle.cut_tree.specs.declared.halts.Halt.{Halt}
use Rattle.cut_tree.specs.declared.halts.Halt.TheVariants.{First, Listed}
use Rattle.cut_tree.specs.declared.token.TheConstants.{MAX_CUTS}
use Rattle.shop_records.specs.declared.messages.Command.{Command}
use Rattle.shop_records.specs.declared.messages.Command.TheVariants.{AddMaterial, Receive, AddOrder, Reserve, Done, Break, Release, Scrap, GiveBack, Import, Amend, Undo, Note, Extend, Begin}
use Rattle.shop_records.specs.declared.imports.Form.{Form}
use Rattle.shop_records.specs.declared.imports.Form.TheVariants.{Csv, Cgcut}
use Rattle.shop_records.specs.declared.messages.Message.{Message}
use Rattle.shop_files.specs.declared.orders.OrderLine.{OrderLine}
use Rattle.shop_records.specs.declared.messages.Query.{Query}
use Rattle.shop_records.specs.declared.journal.ReportedEntry.{ReportedEntry}
use Rattle.shop_records.specs.declared.journal.Subject.{Subject}
use Rattle.shop_records.specs.declared.journal.Subject.TheVariants as subject
use Rattle.shop_records.specs.declared.records.DemandRow.{DemandRow}
use Rattle.shop_records.specs.declared.records.JobRow.{JobRow}
use Rattle.shop_records.specs.declared.records.JobState.{JobState}
use Rattle.shop_records.specs.declared.records.Material.{Material}
use Rattle.shop_records.specs.declared.records.OrderRow.{OrderRow}
use Rattle.shop_records.specs.declared.records.Part.{Part}
use Rattle.shop_records.specs.declared.records.RackRow.{RackRow}
use Rattle.shop_records.specs.declared.pieces.PieceRow.{PieceRow}
use Rattle.shop_records.specs.declared.pieces.PieceSource.{PieceSource}
use Rattle.shop_records.specs.declared.pieces.PieceSource.TheVariants as source
use Rattle.shop_records.specs.declared.pieces.StepRow.{StepRow}
use Rattle.shop_records.specs.declared.messages.Query.TheVariants as query
use Rattle.shop_records.specs.declared.messages.Reply.{Reply}
use Rattle.shop_records.specs.declared.messages.Reply.TheVariants as reply
use Rattle.shop_records.specs.Refusals.{refusal_number, refusal_name}
use Rattle.shop_records.specs.Columns.{state_of, state_word}
use Rattle.shop_records.specs.Messages.{Texts, IsMessage, IsMade, IsWide}
use Rattle.serde_json.specs.Data.{Data, null, array, boolean, object, number, unsigned, Members, member, no_members, put}
use Rattle.serde_json.specs.Find.{get}
use Rattle.serde_json.specs.Read.{read}
use Rattle.serde_json.specs.View.{items_of}
use Rattle.serde_json.specs.Written.{compact_text}
use Rattle.shop_forms.specs.Reported.{HasWideSides, HasWideLimits, HasWidePart, HasWideDemand, HasWideJob, HasWideOrder, HasWidePiece, HasWideStep, cut_place, demand_cut, is_turned, name_or_none, order_or_none, state_or_none, what_text}
use Rattle.shop_forms.specs.Fields.{number_at, wide_at, numbers_at, flag_at, text_at, code_at, name_at, kind_at, after_at, code_after_at, has_keys, word_at, elements_at, all_of, row, kind_text, state_text, job_state_text, text_member, number_member, name_member, flag_member}

-- A command has a row of keys that is read, the keys that are printed but `terminal` and `number`, in byte order, and the same
-- of the reply to it.

-- ---- adding a material

abbrev pub material_command : Data → Option Command
material_command d =
    option_and_then (λ material. option_and_then (λ kind. option_and_then (λ kerf. option_and_then (λ min_long. option_map (λ min_short.
    AddMaterial material kind kerf min_long min_short)
    (number_at (codes "min_short") d)) (number_at (codes "min_long") d)) (number_at (codes "kerf") d)) (kind_at (codes "kind") d)) (code_at (codes "material") d)

abbrev pub material_members : List ℕ → Kind → (kerf min_long min_short : ℕ) → Members
material_members material kind kerf min_long min_short =
    text_member (codes "do") (codes "material") (number_member (codes "kerf") kerf (text_member (codes "kind") (kind_text kind)
    (text_member (codes "material") material (number_member (codes "min_long") min_long (number_member (codes "min_short") min_short no_members)))))

abbrev pub material_made : Data → Option Reply
material_made d = option_map reply.AddMaterial (code_at (codes "material") d)

abbrev pub material_reported : List ℕ → Data
material_reported material =
    object (text_member (codes "material") material (text_member (codes "ok") (codes "material") no_members))

-- ---- receiving units

abbrev pub receive_command : Data → Option Command
receive_command d =
    option_and_then (λ material. option_and_then (λ batch. option_and_then (λ w. option_and_then (λ h. option_map (λ count.
    Receive material batch w h count)
    (number_at (codes "count") d)) (number_at (codes "h") d)) (number_at (codes "w") d)) (code_at (codes "batch") d)) (code_at (codes "material") d)

abbrev pub receive_members : (material batch : List ℕ) → (w h count : ℕ) → Members
receive_members material batch w h count =
    text_member (codes "batch") batch (number_member (codes "count") count (text_member (codes "do") (codes "receive")
    (number_member (codes "h") h (text_member (codes "material") material (number_member (codes "w") w no_members)))))

abbrev pub receive_made : Data → Option Reply
receive_made d =
    option_and_then (λ act. option_map (λ count. reply.Receive act count) (number_at (codes "count") d)) (number_at (codes "act") d)

abbrev pub receive_reported : (act count : ℕ) → Data
receive_reported act count =
    object (number_member (codes "act") act (number_member (codes "count") count (text_member (codes "ok") (codes "receive") no_members)))

-- ---- adding an order

abbrev pub line_fields : Data → Option OrderLine
line_fields d =
    option_and_then (λ line. option_and_then (λ material. option_and_then (λ w. option_and_then (λ h. option_and_then (λ turn. option_and_then (λ count. option_map (λ worth.
    record { line = line; material = material; w = w; h = h; turn = turn; count = count; worth = worth })
    (number_at (codes "worth") d)) (number_at (codes "count") d)) (flag_at (codes "turn") d)) (number_at (codes "h") d)) (number_at (codes "w") d)) (code_at (codes "material") d)) (number_at (codes "line") d)

-- an element of an order's lines
abbrev pub line_of : Data → Option OrderLine
line_of d = row 7 line_fields d

abbrev pub lines_at : List ℕ → Data → Option (List OrderLine)
lines_at key d = option_and_then (all_of line_of) (elements_at key d)

abbrev pub order_command : Data → Option Command
order_command d = option_and_then (λ order. option_map (λ lines. AddOrder order lines) (lines_at (codes "lines") d)) (code_at (codes "order") d)

-- an order's line as an object, its keys in byte order
abbrev pub line_data : OrderLine → Data
line_data l =
    object (number_member (codes "count") l.count (number_member (codes "h") l.h (number_member (codes "line") l.line
    (text_member (codes "material") l.material (flag_member (codes "turn") l.turn (number_member (codes "w") l.w
    (number_member (codes "worth") l.worth no_members)))))))

abbrev pub lines_data : List OrderLine → Data
lines_data lines = array (items_of (map line_data lines))

-- a command with an order's lines, by its word
abbrev pub lined_members : (word order : List ℕ) → List OrderLine → Members
lined_members word order lines =
    text_member (codes "do") word (member (codes "lines") (lines_data lines) (text_member (codes "order") order no_members))

abbrev pub order_members : List ℕ → List OrderLine → Members
order_members order lines = lined_members (codes "order") order lines

abbrev pub order_made : Data → Option Reply
order_made d =
    option_and_then (λ count. option_and_then (λ first. option_map (λ order. reply.AddOrder count first order)
    (code_at (codes "order") d)) (number_at (codes "first") d)) (number_at (codes "count") d)

abbrev pub order_reported : (count first : ℕ) → List ℕ → Data
order_reported count first order =
    object (number_member (codes "count") count (number_member (codes "first") first (text_member (codes "ok") (codes "order")
    (text_member (codes "order") order no_members))))

-- ---- reserving a part

abbrev pub reserve_command : Data → Option Command
reserve_command d = option_and_then (λ part. option_map (λ tree. Reserve part tree) (text_at (codes "tree") d)) (name_at (codes "part") d)

abbrev pub reserve_members : Name → List ℕ → Members
reserve_members part tree =
    text_member (codes "do") (codes "reserve") (name_member (codes "part") part (text_member (codes "tree") tree no_members))

abbrev pub reserve_made : Data → Option Reply
reserve_made d =
    option_and_then (λ cuts. option_map (λ job. reply.Reserve cuts job) (number_at (codes "job") d)) (number_at (codes "cuts") d)

abbrev pub reserve_reported : (cuts job : ℕ) → Data
reserve_reported cuts job =
    object (number_member (codes "cuts") cuts (number_member (codes "job") job (text_member (codes "ok") (codes "reserve") no_members)))

-- ---- the end of a job

abbrev pub done_command : Data → Option Command
done_command d = option_map Done (number_at (codes "job") d)

-- a command on a job, by its word
abbrev pub job_members : List ℕ → ℕ → Members
job_members word job = text_member (codes "do") word (number_member (codes "job") job no_members)

abbrev pub done_members : ℕ → Members
done_members job = job_members (codes "done") job

-- what is reported about a job that ended: its number, and the cells of kerf, pieces, rack and scrap
abbrev pub ended_cells : Data → Option (ℕ × ℕ × ℕ × ℕ × ℕ)
ended_cells d =
    option_and_then (λ job. option_and_then (λ kerf. option_and_then (λ pieces. option_and_then (λ rack. option_map (λ scrap.
    (job, kerf, pieces, rack, scrap))
    (wide_at (codes "scrap") d)) (wide_at (codes "rack") d)) (wide_at (codes "pieces") d)) (wide_at (codes "kerf") d)) (number_at (codes "job") d)

abbrev pub ended_reported : List ℕ → (job kerf pieces rack scrap : ℕ) → Data
ended_reported word job kerf pieces rack scrap =
    object (number_member (codes "job") job (number_member (codes "kerf") kerf (text_member (codes "ok") word
    (number_member (codes "pieces") pieces (number_member (codes "rack") rack (number_member (codes "scrap") scrap no_members))))))

abbrev pub done_made : Data → Option Reply
done_made d = option_map (λ c. reply.Done c.0 c.1 c.2 c.3 c.4) (ended_cells d)

-- ---- a broken job

-- no cut went wrong
abbrev pub none_lost : Bool → Option (Option ℕ)
none_lost true = None
none_lost false = Some None

-- the cut that went wrong by its number, or `false` where none did
abbrev pub lost_cut : List ℕ → Data → Option (Option ℕ)
lost_cut key d = option_or (option_map Some (number_at key d)) (option_and_then none_lost (flag_at key d))

-- how many first cuts were made, and whether the next one went wrong
abbrev pub first_cuts : Data → Option Halt
first_cuts d = option_and_then (λ cuts. option_map (λ lost. First cuts lost) (flag_at (codes "lost") d)) (number_at (codes "cuts") d)

-- the cuts that were made, and the one that went wrong
abbrev pub listed_cuts : Data → Option Halt
listed_cuts d = option_and_then (λ cuts. option_map (λ lost. Listed cuts lost) (lost_cut (codes "lost") d)) (numbers_at (codes "cuts") d)

-- a halt without a rest of the cut that went wrong
abbrev pub plain_break : Data → Option Command
plain_break d = option_and_then (λ job. option_map (λ halt. Break job halt None) (option_or (first_cuts d) (listed_cuts d))) (number_at (codes "job") d)

-- a halt with one
abbrev pub saving_break : Data → Option Command
saving_break d =
    option_and_then (λ job. option_and_then (λ halt. option_map (λ rest. Break job halt (Some rest)) (number_at (codes "rest") d))
    (option_or (first_cuts d) (listed_cuts d))) (number_at (codes "job") d)

-- by the number of its keys
abbrev pub break_command : Data → Option Command
break_command d = if has_keys 6 d then plain_break d else row 7 saving_break d

abbrev pub list_data : List ℕ → Data
list_data cuts = array (items_of (map (λ cut. number (unsigned cut)) cuts))

abbrev pub cuts_data : Halt → Data
cuts_data (First cuts lost) = number (unsigned cuts)
cuts_data (Listed cuts lost) = list_data cuts

abbrev pub lost_data : Halt → Data
lost_data (First cuts lost) = boolean lost
lost_data (Listed cuts None) = boolean false
lost_data (Listed cuts (Some cut)) = number (unsigned cut)

-- the rest, where there is one
abbrev pub rest_members : Option ℕ → Members
rest_members None = no_members
rest_members (Some rest) = number_member (codes "rest") rest no_members

abbrev pub break_members : ℕ → Halt → Option ℕ → Members
break_members job halt rest =
    member (codes "cuts") (cuts_data halt) (text_member (codes "do") (codes "break") (number_member (codes "job") job
    (member (codes "lost") (lost_data halt) (rest_members rest))))

abbrev pub break_made : Data → Option Reply
break_made d = option_map (λ c. reply.Break c.0 c.1 c.2 c.3 c.4) (ended_cells d)

-- ---- a released job

abbrev pub release_command : Data → Option Command
release_command d = option_map Release (number_at (codes "job") d)

abbrev pub release_members : ℕ → Members
release_members job = job_members (codes "release") job

abbrev pub release_made : Data → Option Reply
release_made d = option_map reply.Release (number_at (codes "job") d)

abbrev pub release_reported : ℕ → Data
release_reported job =
    object (number_member (codes "job") job (text_member (codes "ok") (codes "release") no_members))

-- ---- a part that as a whole gets another state

-- a command on a part, and what is reported about it, by their word
abbrev pub turned_members : List ℕ → Name → Members
turned_members word part = text_member (codes "do") word (name_member (codes "part") part no_members)

abbrev pub turned_reported : List ℕ → Name → Data
turned_reported word part = object (text_member (codes "ok") word (name_member (codes "part") part no_members))

abbrev pub scrap_command : Data → Option Command
scrap_command d = option_map Scrap (name_at (codes "part") d)

abbrev pub scrap_members : Name → Members
scrap_members part = turned_members (codes "scrap") part

abbrev pub scrap_made : Data → Option Reply
scrap_made d = option_map reply.Scrap (name_at (codes "part") d)

abbrev pub scrap_reported : Name → Data
scrap_reported part = turned_reported (codes "scrap") part

abbrev pub return_command : Data → Option Command
return_command d = option_map GiveBack (name_at (codes "part") d)

abbrev pub return_members : Name → Members
return_members part = turned_members (codes "return") part

abbrev pub return_made : Data → Option Reply
return_made d = option_map reply.GiveBack (name_at (codes "part") d)

abbrev pub return_reported : Name → Data
return_reported part = turned_reported (codes "return") part

-- ---- importing an order

-- an import in a form that was read
abbrev pub import_in : Form → Data → Option Command
import_in form d =
    option_and_then (λ order. option_map (λ text. Import order form text) (text_at (codes "text") d)) (code_at (codes "order") d)

-- a problem file is of a material
abbrev pub problem_command : Data → Option Command
problem_command d = option_and_then (λ material. import_in (Cgcut material) d) (code_at (codes "material") d)

-- the rows by the word of `form`
abbrev pub import_by : List ℕ → Data → Option Command
import_by word d =
    if bytes_eq word (codes "csv") then row 6 (import_in Csv) d
    else (if bytes_eq word (codes "cgcut") then row 7 problem_command d else None)

abbrev pub import_command : Data → Option Command
import_command d = option_and_then (λ word. import_by word d) (text_at (codes "form") d)

abbrev pub import_members : List ℕ → Form → List ℕ → Members
import_members order Csv text =
    text_member (codes "do") (codes "import") (text_member (codes "form") (codes "csv") (text_member (codes "order") order
    (text_member (codes "text") text no_members)))
import_members order (Cgcut material) text =
    text_member (codes "do") (codes "import") (text_member (codes "form") (codes "cgcut") (text_member (codes "material") material
    (text_member (codes "order") order (text_member (codes "text") text no_members))))

abbrev pub import_made : Data → Option Reply
import_made d =
    option_and_then (λ act. option_and_then (λ count. option_and_then (λ first. option_map (λ order. reply.Import act count first order)
    (code_at (codes "order") d)) (number_at (codes "first") d)) (number_at (codes "count") d)) (number_at (codes "act") d)

abbrev pub import_reported : (act count first : ℕ) → List ℕ → Data
import_reported act count first order =
    object (number_member (codes "act") act (number_member (codes "count") count (number_member (codes "first") first
    (text_member (codes "ok") (codes "import") (text_member (codes "order") order no_members)))))

-- ---- amending a demand

abbrev pub amend_command : Data → Option Command
amend_command d =
    option_and_then (λ demand. option_map (λ wanted. Amend demand wanted) (number_at (codes "wanted") d)) (number_at (codes "demand") d)

abbrev pub amend_members : (demand wanted : ℕ) → Members
amend_members demand wanted =
    number_member (codes "demand") demand (text_member (codes "do") (codes "amend") (number_member (codes "wanted") wanted no_members))

abbrev pub amend_made : Data → Option Reply
amend_made d =
    option_and_then (λ demand. option_map (λ wanted. reply.Amend demand wanted) (number_at (codes "wanted") d)) (number_at (codes "demand") d)

abbrev pub amend_reported : (demand wanted : ℕ) → Data
amend_reported demand wanted =
    object (number_member (codes "demand") demand (text_member (codes "ok") (codes "amend") (number_member (codes "wanted") wanted no_members)))

-- ---- a job that is undone

abbrev pub undo_command : Data → Option Command
undo_command d = option_map Undo (number_at (codes "job") d)

abbrev pub undo_members : ℕ → Members
undo_members job = job_members (codes "undo") job

abbrev pub undo_made : Data → Option Reply
undo_made d = option_and_then (λ job. option_map (λ part. reply.Undo job part) (name_at (codes "part") d)) (number_at (codes "job") d)

abbrev pub undo_reported : ℕ → Name → Data
undo_reported job part =
    object (number_member (codes "job") job (text_member (codes "ok") (codes "undo") (name_member (codes "part") part no_members)))

-- ---- what is said of an order

abbrev pub note_command : Data → Option Command
note_command d =
    option_and_then (λ order. option_and_then (λ due. option_map (λ text. Note order due text)
    (text_at (codes "text") d)) (number_at (codes "due") d)) (code_at (codes "order") d)

abbrev pub note_members : (order : List ℕ) → (due : ℕ) → (text : List ℕ) → Members
note_members order due text =
    text_member (codes "do") (codes "note") (number_member (codes "due") due (text_member (codes "order") order
    (text_member (codes "text") text no_members)))

abbrev pub note_made : Data → Option Reply
note_made d = option_map reply.Note (code_at (codes "order") d)

abbrev pub note_reported : List ℕ → Data
note_reported order = object (text_member (codes "ok") (codes "note") (text_member (codes "order") order no_members))

-- ---- further lines of an order

abbrev pub extend_command : Data → Option Command
extend_command d = option_and_then (λ order. option_map (λ lines. Extend order lines) (lines_at (codes "lines") d)) (code_at (codes "order") d)

abbrev pub extend_members : List ℕ → List OrderLine → Members
extend_members order lines = lined_members (codes "extend") order lines

abbrev pub extend_made : Data → Option Reply
extend_made d =
    option_and_then (λ count. option_and_then (λ first. option_map (λ order. reply.Extend count first order)
    (code_at (codes "order") d)) (number_at (codes "first") d)) (number_at (codes "count") d)

abbrev pub extend_reported : (count first : ℕ) → List ℕ → Data
extend_reported count first order =
    object (number_member (codes "count") count (number_member (codes "first") first (text_member (codes "ok") (codes "extend")
    (text_member (codes "order") order no_members))))

-- ---- a job that is begun

abbrev pub begin_command : Data → Option Command
begin_command d = option_map Begin (number_at (codes "job") d)

abbrev pub begin_members : ℕ → Members
begin_members job = job_members (codes "begin") job

abbrev pub begin_made : Data → Option Reply
begin_made d =
    option_and_then (λ before. option_map (λ job. reply.Begin before job) (number_at (codes "job") d)) (number_at (codes "before") d)

abbrev pub begin_reported : (before job : ℕ) → Data
begin_reported before job =
    object (number_member (codes "before") before (number_member (codes "job") job (text_member (codes "ok") (codes "begin") no_members)))

-- ---- queries, and the replies to them

abbrev pub totals_query : Data → Option Query
totals_query d = option_map query.Totals (code_at (codes "material") d)

abbrev pub totals_reported : List ℕ → (received stock rack pieces kerf scrap returned : ℕ) → Data
totals_reported material received stock rack pieces kerf scrap returned =
    object (number_member (codes "kerf") kerf (text_member (codes "material") material (text_member (codes "ok") (codes "totals")
    (number_member (codes "pieces") pieces (number_member (codes "rack") rack (number_member (codes "received") received
    (number_member (codes "returned") returned (number_member (codes "scrap") scrap (number_member (codes "stock") stock no_members)))))))))

abbrev pub rack_query : Data → Option Query
rack_query d = option_map query.Rack (code_at (codes "material") d)

-- a part on the rack as an object, its keys in byte order
abbrev pub rack_row_data : RackRow → Data
rack_row_data r =
    object (number_member (codes "h") r.h (text_member (codes "part") (name_text r.part) (text_member (codes "state") (state_text r.state)
    (number_member (codes "w") r.w no_members))))

abbrev pub rack_data : List RackRow → Data
rack_data parts = array (items_of (map rack_row_data parts))

abbrev pub rack_reported : List ℕ → List RackRow → Data
rack_reported material parts =
    object (text_member (codes "material") material (text_member (codes "ok") (codes "rack") (member (codes "parts") (rack_data parts) no_members)))

abbrev pub trace_query : Data → Option Query
trace_query d = option_map query.Trace (name_at (codes "part") d)

abbrev pub trace_data : (batch part root state : List ℕ) (h of w x y : ℕ) → Data
trace_data batch part root state h of w x y =
    object (text_member (codes "batch") batch (number_member (codes "h") h (number_member (codes "of") of (text_member (codes "ok") (codes "trace")
    (text_member (codes "part") part (text_member (codes "root") root (text_member (codes "state") state
    (number_member (codes "w") w (number_member (codes "x") x (number_member (codes "y") y no_members))))))))))

abbrev pub demand_query : Data → Option Query
demand_query d = option_map query.Demand (number_at (codes "demand") d)

abbrev pub demand_reported : (demand line made : ℕ) → (material order : List ℕ) → (reserved wanted : ℕ) → Data
demand_reported demand line made material order reserved wanted =
    object (number_member (codes "demand") demand (number_member (codes "line") line (number_member (codes "made") made
    (text_member (codes "material") material (text_member (codes "ok") (codes "demand") (text_member (codes "order") order
    (number_member (codes "reserved") reserved (number_member (codes "wanted") wanted no_members))))))))

abbrev pub plan_query : Data → Option Query
plan_query d =
    option_and_then (λ part. option_and_then (λ demands. option_map (λ step. query.Plan part demands step)
    (number_at (codes "step") d)) (numbers_at (codes "demands") d)) (name_at (codes "part") d)

abbrev pub plan_reported : (ceiling dropped : ℕ) → List ℕ → (worth : ℕ) → Data
plan_reported ceiling dropped tree worth =
    object (number_member (codes "ceiling") ceiling (number_member (codes "dropped") dropped (text_member (codes "ok") (codes "plan")
    (text_member (codes "tree") tree (number_member (codes "worth") worth no_members)))))

abbrev pub bound_query : Data → Option Query
bound_query d =
    option_and_then (λ material. option_and_then (λ w. option_and_then (λ h. option_and_then (λ demands. option_map (λ step. query.Bound material w h demands step)
    (number_at (codes "step") d)) (numbers_at (codes "demands") d)) (number_at (codes "h") d)) (number_at (codes "w") d)) (code_at (codes "material") d)

abbrev pub bound_reported : (best units : ℕ) → Data
bound_reported best units =
    object (number_member (codes "best") best (text_member (codes "ok") (codes "bound") (number_member (codes "units") units no_members)))

-- ---- lists of what is there, open or waiting

abbrev pub parts_query : Data → Option Query
parts_query d =
    option_and_then (λ material. option_map (λ after. query.Parts material after) (after_at (codes "after") d)) (code_at (codes "material") d)

abbrev pub all_demands : Data → Option Query
all_demands d = option_map (λ after. query.Demands after None) (number_at (codes "after") d)

abbrev pub demands_of : Data → Option Query
demands_of d =
    option_and_then (λ material. option_map (λ after. query.Demands after (Some material)) (number_at (codes "after") d)) (code_at (codes "material") d)

-- of a material, or without that key of all
abbrev pub demands_query : Data → Option Query
demands_query d = if has_keys 2 d then all_demands d else row 3 demands_of d

abbrev pub jobs_query : Data → Option Query
jobs_query d = option_map query.Jobs (number_at (codes "after") d)

abbrev pub job_query : Data → Option Query
job_query d = option_map query.Job (number_at (codes "job") d)

abbrev pub terminal_query : Data → Option Query
terminal_query d = option_map query.Terminal (number_at (codes "terminal") d)

abbrev pub orders_query : Data → Option Query
orders_query d = option_map query.Orders (code_after_at (codes "after") d)

abbrev pub lines_query : Data → Option Query
lines_query d = option_map query.Lines (code_at (codes "order") d)

-- the rows of a list as a value
abbrev pub rows_data : {T : Type 0} → (T → Data) → List T → Data
rows_data said rows = array (items_of (map said rows))

abbrev pub material_data : Material → Data
material_data m =
    object (number_member (codes "kerf") m.limits.kerf (text_member (codes "kind") (kind_text m.kind) (text_member (codes "material") m.code
    (number_member (codes "min_long") m.limits.min_long (number_member (codes "min_short") m.limits.min_short no_members)))))

abbrev pub materials_reported : List Material → Data
materials_reported materials =
    object (member (codes "materials") (rows_data material_data materials) (text_member (codes "ok") (codes "materials") no_members))

-- a part as in a trace, without its place
abbrev pub part_data : Part → Data
part_data p =
    object (text_member (codes "batch") p.batch (number_member (codes "h") p.size.h (number_member (codes "of") (state_of p.state)
    (name_member (codes "part") p.name (name_member (codes "root") p.root (text_member (codes "state") (state_text (state_word p.state))
    (number_member (codes "w") p.size.w no_members)))))))

abbrev pub parts_reported : List ℕ → Bool → List Part → Data
parts_reported material more parts =
    object (text_member (codes "material") material (flag_member (codes "more") more (text_member (codes "ok") (codes "parts")
    (member (codes "parts") (rows_data part_data parts) no_members))))

-- a demand as an object, its keys in byte order: an open one of a list, and each line of an order
abbrev pub demand_row_data : DemandRow → Data
demand_row_data row =
    let d = row.demand in
    object (number_member (codes "demand") d.number (number_member (codes "due") row.due (number_member (codes "h") d.size.h
    (number_member (codes "line") d.line (number_member (codes "made") d.made (text_member (codes "material") d.material
    (text_member (codes "order") d.order (number_member (codes "reserved") d.reserved (flag_member (codes "turn") d.may_turn
    (number_member (codes "w") d.size.w (number_member (codes "wanted") d.wanted (number_member (codes "worth") d.worth no_members))))))))))))

abbrev pub job_row_data : JobRow → Data
job_row_data j =
    object (number_member (codes "begun") j.begun (number_member (codes "cuts") j.cuts (number_member (codes "due") j.due
    (number_member (codes "h") j.h (number_member (codes "job") j.job (text_member (codes "material") j.material
    (name_member (codes "part") j.part (number_member (codes "w") j.w no_members))))))))

-- what is reported about rows after a number: the list at its word, and whether others follow
abbrev pub after_reported : {T : Type 0} → List ℕ → (T → Data) → List T → Bool → Data
after_reported word said rows more =
    object (member word (rows_data said rows) (flag_member (codes "more") more (text_member (codes "ok") word no_members)))

-- an order as an object, its keys in byte order
abbrev pub order_row_data : OrderRow → Data
order_row_data o =
    object (number_member (codes "due") o.due (number_member (codes "lines") o.lines (number_member (codes "made") o.made
    (text_member (codes "order") o.order (number_member (codes "reserved") o.reserved (text_member (codes "text") o.text
    (number_member (codes "wanted") o.wanted no_members)))))))

abbrev pub orders_reported : Bool → List OrderRow → Data
orders_reported more orders =
    object (flag_member (codes "more") more (text_member (codes "ok") (codes "orders") (member (codes "orders") (rows_data order_row_data orders) no_members)))

-- the lines of an order, each as in a list of demands
abbrev pub lines_reported : List DemandRow → List ℕ → Data
lines_reported lines order =
    object (member (codes "lines") (rows_data demand_row_data lines) (text_member (codes "ok") (codes "lines") (text_member (codes "order") order no_members)))

abbrev pub job_reported : (begun cuts h job kerf : ℕ) → (material : List ℕ) → Name → JobState → (tree : List ℕ) → (w : ℕ) → Data
job_reported begun cuts h job kerf material part state tree w =
    object (number_member (codes "begun") begun (number_member (codes "cuts") cuts (number_member (codes "h") h (number_member (codes "job") job
    (number_member (codes "kerf") kerf (text_member (codes "material") material (text_member (codes "ok") (codes "job")
    (name_member (codes "part") part (text_member (codes "state") (job_state_text state) (text_member (codes "tree") tree
    (number_member (codes "w") w no_members)))))))))))

abbrev pub terminal_reported : (last terminal : ℕ) → Data
terminal_reported last terminal =
    object (number_member (codes "last") last (text_member (codes "ok") (codes "terminal") (number_member (codes "terminal") terminal no_members)))

abbrev pub history_query : Data → Option Query
history_query d = option_map query.History (number_at (codes "after") d)

-- what a story is asked of: where there is one key more than `ask` and `after`, at most one of these stands for something
abbrev pub subject_of : Data → Option Subject
subject_of d =
    option_or (option_map subject.Order (code_at (codes "order") d))
    (option_or (option_map subject.Job (number_at (codes "job") d)) (option_map subject.Part (name_at (codes "part") d)))

abbrev pub story_query : Data → Option Query
story_query d =
    option_and_then (λ about. option_map (λ after. query.Story about after) (number_at (codes "after") d)) (subject_of d)

abbrev pub shop_reported : (began entries last : ℕ) → Data
shop_reported began entries last =
    object (number_member (codes "began") began (number_member (codes "entries") entries (number_member (codes "last") last
    (text_member (codes "ok") (codes "shop") no_members))))

-- whose pieces are asked for: where there is one key more than `ask` and `after`, at most one of these stands for something
abbrev pub source_of : Data → Option PieceSource
source_of d =
    option_or (option_map source.Order (code_at (codes "order") d))
    (option_or (option_map source.Batch (code_at (codes "batch") d)) (option_map source.Unit (name_at (codes "unit") d)))

abbrev pub pieces_query : Data → Option Query
pieces_query d =
    option_and_then (λ from. option_map (λ after. query.Pieces from after) (after_at (codes "after") d)) (source_of d)

-- a piece as an object, its keys in byte order
abbrev pub piece_data : PieceRow → Data
piece_data p =
    object (number_member (codes "at") p.at (text_member (codes "batch") p.batch (number_member (codes "demand") p.demand
    (number_member (codes "h") p.h (number_member (codes "line") p.line (text_member (codes "material") p.material
    (text_member (codes "order") p.order (name_member (codes "part") p.part (name_member (codes "root") p.root
    (number_member (codes "w") p.w no_members))))))))))

abbrev pub pieces_reported : Bool → List PieceRow → Data
pieces_reported more pieces =
    object (flag_member (codes "more") more (text_member (codes "ok") (codes "pieces") (member (codes "pieces") (rows_data piece_data pieces) no_members)))

abbrev pub steps_query : Data → Option Query
steps_query d = option_map query.Steps (number_at (codes "job") d)

-- a node of a plan as an object, its keys in byte order
abbrev pub step_data : StepRow → Data
step_data r =
    object (number_member (codes "demand") (demand_cut r.step.what) (number_member (codes "h") r.step.h (number_member (codes "line") r.line
    (number_member (codes "node") r.step.node (text_member (codes "order") (order_or_none r.order)
    (text_member (codes "part") (name_or_none r.part) (number_member (codes "place") (cut_place r.step.what)
    (text_member (codes "state") (state_or_none r.state) (flag_member (codes "turned") (is_turned r.step.what)
    (number_member (codes "w") r.step.w (text_member (codes "what") (what_text r.step.what)
    (number_member (codes "x") r.step.x (number_member (codes "y") r.step.y no_members)))))))))))))

abbrev pub steps_reported : (job kerf : ℕ) → (material : List ℕ) → Name → JobState → List StepRow → Data
steps_reported job kerf material part state steps =
    object (number_member (codes "job") job (number_member (codes "kerf") kerf (text_member (codes "material") material
    (text_member (codes "ok") (codes "steps") (name_member (codes "part") part (text_member (codes "state") (job_state_text state)
    (member (codes "steps") (rows_data step_data steps) no_members)))))))

-- the rows of lists with other keys than one beside `ask`, by their words
abbrev pub list_query : List ℕ → Data → Option Query
list_query word d =
    if bytes_eq word (codes "materials") then row 1 (λ d. Some query.Materials) d
    else (if bytes_eq word (codes "parts") then row 3 parts_query d
    else (if bytes_eq word (codes "demands") then demands_query d
    else (if bytes_eq word (codes "shop") then row 1 (λ d. Some query.Shop) d
    else (if bytes_eq word (codes "story") then row 3 story_query d
    else (if bytes_eq word (codes "pieces") then row 3 pieces_query d else None)))))

-- the rows with one key beside `ask`, by its word
abbrev pub short_query : List ℕ → Data → Option Query
short_query word d =
    if bytes_eq word (codes "totals") then totals_query d
    else (if bytes_eq word (codes "rack") then rack_query d
    else (if bytes_eq word (codes "trace") then trace_query d
    else (if bytes_eq word (codes "demand") then demand_query d
    else (if bytes_eq word (codes "jobs") then jobs_query d
    else (if bytes_eq word (codes "job") then job_query d
    else (if bytes_eq word (codes "terminal") then terminal_query d
    else (if bytes_eq word (codes "orders") then orders_query d
    else (if bytes_eq word (codes "lines") then lines_query d
    else (if bytes_eq word (codes "history") then history_query d
    else (if bytes_eq word (codes "steps") then steps_query d else None))))))))))

-- the rows by the word of `ask`, each with `ask`
abbrev pub asked_of : List ℕ → Data → Option Query
asked_of word d =
    if bytes_eq word (codes "plan") then row 4 plan_query d
    else (if bytes_eq word (codes "bound") then row 6 bound_query d
    else option_or (row 2 (short_query word) d) (list_query word d))

abbrev pub query_of : Data → Option Query
query_of d = option_and_then (λ word. asked_of word d) (word_at (codes "ask") (codes "do") d)

-- ---- messages

-- the rows by the word of `do`, each with `do`, `terminal` and `number`
abbrev pub command_of : List ℕ → Data → Option Command
command_of word d =
    if bytes_eq word (codes "material") then row 8 material_command d
    else (if bytes_eq word (codes "receive") then row 8 receive_command d
    else (if bytes_eq word (codes "order") then row 5 order_command d
    else (if bytes_eq word (codes "reserve") then row 5 reserve_command d
    else (if bytes_eq word (codes "done") then row 4 done_command d
    else (if bytes_eq word (codes "break") then break_command d
    else (if bytes_eq word (codes "release") then row 4 release_command d
    else (if bytes_eq word (codes "scrap") then row 4 scrap_command d
    else (if bytes_eq word (codes "return") then row 4 return_command d
    else (if bytes_eq word (codes "import") then import_command d
    else (if bytes_eq word (codes "amend") then row 5 amend_command d
    else (if bytes_eq word (codes "undo") then row 4 undo_command d
    else (if bytes_eq word (codes "note") then row 6 note_command d
    else (if bytes_eq word (codes "extend") then row 5 extend_command d
    else (if bytes_eq word (codes "begin") then row 4 begin_command d else None))))))))))))))

-- the word of `do`, the terminal and the number
abbrev pub sent_head : Data → Option (List ℕ × ℕ × ℕ)
sent_head d =
    option_and_then (λ word. option_and_then (λ terminal. option_map (λ number. (word, terminal, number))
    (number_at (codes "number") d)) (number_at (codes "terminal") d)) (word_at (codes "do") (codes "ask") d)

-- a message of any terminal
abbrev pub sent_of : Data → Option Message
sent_of d =
    option_and_then (λ head. option_map (λ command. record { terminal = head.1; number = head.2; command = command }) (command_of head.0 d)) (sent_head d)

-- a halt lists at most 255 cuts
abbrev pub has_few_cuts : Command → Bool
has_few_cuts (Break job (Listed cuts lost) rest) = nat_le (length cuts) MAX_CUTS
has_few_cuts _ = true

-- terminal 0 sends nothing, and no terminal a long list of cuts
abbrev pub from_one : Message → Option Message
from_one message = if nat_le 1 message.terminal && has_few_cuts message.command then Some message else None

abbrev pub message_of : Data → Option Message
message_of d = option_and_then from_one (sent_of d)

-- the keys of a command's row but `terminal` and `number`, in byte order
abbrev pub command_members : Command → Members
command_members (AddMaterial material kind kerf min_long min_short) = material_members material kind kerf min_long min_short
command_members (Receive material batch w h count) = receive_members material batch w h count
command_members (AddOrder order lines) = order_members order lines
command_members (Reserve part tree) = reserve_members part tree
command_members (Done job) = done_members job
command_members (Break job halt rest) = break_members job halt rest
command_members (Release job) = release_members job
command_members (Scrap part) = scrap_members part
command_members (GiveBack part) = return_members part
command_members (Import order form text) = import_members order form text
command_members (Amend demand wanted) = amend_members demand wanted
command_members (Undo job) = undo_members job
command_members (Note order due text) = note_members order due text
command_members (Extend order lines) = extend_members order lines
command_members (Begin job) = begin_members job

-- a command's keys with `terminal` and `number`, as an object
abbrev pub sent_data : (terminal n : ℕ) → Members → Data
sent_data terminal n members =
    object (put (codes "terminal") (number (unsigned terminal)) (put (codes "number") (number (unsigned n)) members))

-- a message as an object, its keys in byte order
abbrev pub message_data : Message → Data
message_data message = sent_data message.terminal message.number (command_members message.command)

-- ---- replies

-- of the replies that an accepted message can get, the rows by the word of `ok`, each with `ok`
abbrev pub made_of : List ℕ → Data → Option Reply
made_of word d =
    if bytes_eq word (codes "material") then row 2 material_made d
    else (if bytes_eq word (codes "receive") then row 3 receive_made d
    else (if bytes_eq word (codes "order") then row 4 order_made d
    else (if bytes_eq word (codes "reserve") then row 3 reserve_made d
    else (if bytes_eq word (codes "done") then row 6 done_made d
    else (if bytes_eq word (codes "break") then row 6 break_made d
    else (if bytes_eq word (codes "release") then row 2 release_made d
    else (if bytes_eq word (codes "scrap") then row 2 scrap_made d
    else (if bytes_eq word (codes "return") then row 2 return_made d
    else (if bytes_eq word (codes "import") then row 5 import_made d
    else (if bytes_eq word (codes "amend") then row 3 amend_made d
    else (if bytes_eq word (codes "undo") then row 3 undo_made d
    else (if bytes_eq word (codes "note") then row 2 note_made d
    else (if bytes_eq word (codes "extend") then row 4 extend_made d
    else (if bytes_eq word (codes "begin") then row 3 begin_made d else None))))))))))))))

abbrev pub reply_of : Data → Option Reply
reply_of d = option_and_then (λ word. made_of word d) (text_at (codes "ok") d)

-- a reply that an accepted message can get as an object, its keys in byte order; nothing of another one
abbrev pub made_data : Reply → Data
made_data (reply.AddMaterial material) = material_reported material
made_data (reply.Receive act count) = receive_reported act count
made_data (reply.AddOrder count first order) = order_reported count first order
made_data (reply.Reserve cuts job) = reserve_reported cuts job
made_data (reply.Done job kerf pieces rack scrap) = ended_reported (codes "done") job kerf pieces rack scrap
made_data (reply.Break job kerf pieces rack scrap) = ended_reported (codes "break") job kerf pieces rack scrap
made_data (reply.Release job) = release_reported job
made_data (reply.Scrap part) = scrap_reported part
made_data (reply.GiveBack part) = return_reported part
made_data (reply.Import act count first order) = import_reported act count first order
made_data (reply.Amend demand wanted) = amend_reported demand wanted
made_data (reply.Undo job part) = undo_reported job part
made_data (reply.Note order) = note_reported order
made_data (reply.Extend count first order) = extend_reported count first order
made_data (reply.Begin before job) = begin_reported before job
made_data _ = null

-- ---- entries, with what is kept of their messages

-- the message of any terminal that a kept text is, and the reply that one is
abbrev pub kept_message_of : List ℕ → Option Message
kept_message_of text = option_and_then sent_of (read text)

abbrev pub kept_reply_of : List ℕ → Option Reply
kept_reply_of text = option_and_then reply_of (read text)

-- The object that a kept message is, and the one that a kept reply is. A text that is none is reported as null; in each content
-- that a history gives, kept texts are messages and replies.
abbrev pub message_reported : Option Message → Data
message_reported None = null
message_reported (Some message) = message_data message

abbrev pub reply_reported : Option Reply → Data
reply_reported None = null
reply_reported (Some answer) = made_data answer

-- an entry as an object, its keys in byte order
abbrev pub entry_data : ReportedEntry → Data
entry_data e =
    object (number_member (codes "at") e.at (number_member (codes "entry") e.entry
    (member (codes "message") (message_reported (kept_message_of e.message)) (member (codes "reply") (reply_reported (kept_reply_of e.reply)) no_members))))

-- what is reported about entries, by the word of the reply
abbrev pub entries_reported : List ℕ → List ReportedEntry → Bool → Data
entries_reported word entries more =
    object (member (codes "entries") (rows_data entry_data entries) (flag_member (codes "more") more (text_member (codes "ok") word no_members)))

-- a reply as an object, its keys in byte order
abbrev pub reply_data : Reply → Data
reply_data (reply.Totals material received stock rack pieces kerf scrap returned) = totals_reported material received stock rack pieces kerf scrap returned
reply_data (reply.Rack material parts) = rack_reported material parts
reply_data (reply.Trace batch h of part root state w x y) = trace_data batch (name_text part) (name_text root) (state_text state) h of w x y
reply_data (reply.Demand demand line made material order reserved wanted) = demand_reported demand line made material order reserved wanted
reply_data (reply.Plan ceiling dropped tree worth) = plan_reported ceiling dropped tree worth
reply_data (reply.Bound best units) = bound_reported best units
reply_data (reply.Materials materials) = materials_reported materials
reply_data (reply.Parts material more parts) = parts_reported material more parts
reply_data (reply.Demands demands more) = after_reported (codes "demands") demand_row_data demands more
reply_data (reply.Jobs jobs more) = after_reported (codes "jobs") job_row_data jobs more
reply_data (reply.Job begun cuts h job kerf material part state tree w) = job_reported begun cuts h job kerf material part state tree w
reply_data (reply.Terminal last terminal) = terminal_reported last terminal
reply_data (reply.Orders more orders) = orders_reported more orders
reply_data (reply.Lines lines order) = lines_reported lines order
reply_data (reply.Shop began entries last) = shop_reported began entries last
reply_data (reply.History entries more) = entries_reported (codes "history") entries more
reply_data (reply.Story entries more) = entries_reported (codes "story") entries more
reply_data (reply.Pieces more pieces) = pieces_reported more pieces
reply_data (reply.Steps job kerf material part state steps) = steps_reported job kerf material part state steps
reply_data (reply.Refused refusal) =
    object (text_member (codes "name") (refusal_name refusal) (number_member (codes "refused") (refusal_number refusal) no_members))
reply_data answer = made_data answer

-- each number of a reply that an accepted message can get has 64 bits
abbrev pub HasWideMade : Reply → Type 0
HasWideMade (reply.Receive act count) = IsWide act × IsWide count
HasWideMade (reply.AddOrder count first order) = IsWide count × IsWide first
HasWideMade (reply.Reserve cuts job) = IsWide cuts × IsWide job
HasWideMade (reply.Done job kerf pieces rack scrap) = IsWide job × IsWide kerf × IsWide pieces × IsWide rack × IsWide scrap
HasWideMade (reply.Break job kerf pieces rack scrap) = IsWide job × IsWide kerf × IsWide pieces × IsWide rack × IsWide scrap
HasWideMade (reply.Release job) = IsWide job
HasWideMade (reply.Import act count first order) = IsWide act × IsWide count × IsWide first
HasWideMade (reply.Amend demand wanted) = IsWide demand × IsWide wanted
HasWideMade (reply.Undo job part) = IsWide job
HasWideMade (reply.Extend count first order) = IsWide count × IsWide first
HasWideMade (reply.Begin before job) = IsWide before × IsWide job
HasWideMade _ = Unit {0}

-- the same of an entry, and its message is one
abbrev pub HasWideEntry : ReportedEntry → Type 0
HasWideEntry e =
    IsWide e.at × IsWide e.entry × IfSome (kept_message_of e.message) IsMessage × IfSome (kept_reply_of e.reply) HasWideMade

-- each number of a reply has 64 bits
abbrev pub HasWideNumbers : Reply → Type 0
HasWideNumbers (reply.Totals material received stock rack pieces kerf scrap returned) =
    IsWide kerf × IsWide pieces × IsWide rack × IsWide received × IsWide returned × IsWide scrap × IsWide stock
HasWideNumbers (reply.Rack material parts) = All HasWideSides parts
HasWideNumbers (reply.Trace batch h of part root state w x y) = IsWide h × IsWide of × IsWide w × IsWide x × IsWide y
HasWideNumbers (reply.Demand demand line made material order reserved wanted) =
    IsWide demand × IsWide line × IsWide made × IsWide reserved × IsWide wanted
HasWideNumbers (reply.Plan ceiling dropped tree worth) = IsWide ceiling × IsWide dropped × IsWide worth
HasWideNumbers (reply.Bound best units) = IsWide best × IsWide units
HasWideNumbers (reply.Materials materials) = All HasWideLimits materials
HasWideNumbers (reply.Parts material more parts) = All HasWidePart parts
HasWideNumbers (reply.Demands demands more) = All HasWideDemand demands
HasWideNumbers (reply.Jobs jobs more) = All HasWideJob jobs
HasWideNumbers (reply.Job begun cuts h job kerf material part state tree w) = IsWide begun × IsWide cuts × IsWide h × IsWide job × IsWide kerf × IsWide w
HasWideNumbers (reply.Terminal last terminal) = IsWide last × IsWide terminal
HasWideNumbers (reply.Orders more orders) = All HasWideOrder orders
HasWideNumbers (reply.Lines lines order) = All HasWideDemand lines
HasWideNumbers (reply.Shop began entries last) = IsWide began × IsWide entries × IsWide last
HasWideNumbers (reply.History entries more) = All HasWideEntry entries
HasWideNumbers (reply.Story entries more) = All HasWideEntry entries
HasWideNumbers (reply.Pieces more pieces) = All HasWidePiece pieces
HasWideNumbers (reply.Steps job kerf material part state steps) = IsWide job × IsWide kerf × All HasWideStep steps
HasWideNumbers (reply.Refused refusal) = IsWide (refusal_number refusal)
HasWideNumbers answer = HasWideMade answer

-- ---- texts

-- the canonical text of a message, and the text of a reply: compact JSON
unfoldable pub json_texts : Texts
json_texts =
    record {
      of_message = λ message. compact_text (message_data message);
      of_reply = λ answer. compact_text (reply_data answer);
    }

-- ---- replies that are read, those about entries among them

-- the text of the message, of any terminal, that a value stands for, and of the reply that one stands for
abbrev pub sent_text : Data → Option (List ℕ)
sent_text d = option_map json_texts.of_message (sent_of d)

abbrev pub made_text : Data → Option (List ℕ)
made_text d = option_map json_texts.of_reply (reply_of d)

abbrev pub entry_fields : Data → Option ReportedEntry
entry_fields d =
    option_and_then (λ at. option_and_then (λ entry. option_and_then (λ message. option_map (λ answer.
    record { at = at; entry = entry; message = message; reply = answer })
    (option_and_then made_text (get (codes "reply") d))) (option_and_then sent_text (get (codes "message") d))) (wide_at (codes "entry") d)) (wide_at (codes "at") d)

-- an element of a list of entries
abbrev pub entry_in_list : Data → Option ReportedEntry
entry_in_list d = row 4 entry_fields d

abbrev pub entries_at : Data → Option (List ReportedEntry)
entries_at d = option_and_then (all_of entry_in_list) (elements_at (codes "entries") d)

-- entries, and whether others follow
abbrev pub entries_read : Data → Option (List ReportedEntry × Bool)
entries_read d = option_and_then (λ entries. option_map (λ more. (entries, more)) (flag_at (codes "more") d)) (entries_at d)

-- of the replies to queries, the rows by the word of `ok` that are read
abbrev pub reply_by : List ℕ → Data → Option Reply
reply_by word d =
    if bytes_eq word (codes "history") then option_map (λ read. reply.History read.0 read.1) (row 3 entries_read d)
    else (if bytes_eq word (codes "story") then option_map (λ read. reply.Story read.0 read.1) (row 3 entries_read d) else None)

abbrev pub reported_of : Data → Option Reply
reported_of d = option_and_then (λ word. reply_by word d) (text_at (codes "ok") d)

-- a reply that an accepted message can get, or one about entries
abbrev pub answer_of : Data → Option Reply
answer_of d = option_or (reply_of d) (reported_of d)

-- an entry has the texts of a message and of a reply that an accepted message can get
pub record ReportsEntry (e : ReportedEntry) : Type 0 where
  pub sent : Message
  pub answer : Reply
  pub is_message : IsMessage sent
  pub is_made : IsMade answer
  pub message : e.message ≡ json_texts.of_message sent
  pub reply : e.reply ≡ json_texts.of_reply answer
