-- The rows that stand for what a book contains.
use Rattle.std.specs.Prelude.{◌≡◌, ℕ, pos, Bool, true, false, List, [], ◌∷◌, map, drop, codes, IsPermutation, IsTrue, Option, Some, None, is_some}
use Rattle.std.specs.List.{AllByRecursion}
use Rattle.std.specs.FinMap.{FinMap, entries, get}
use Rattle.std.specs.Ordering.{nat_cmp, ordering_then}
use Rattle.std.specs.declared.cmp.Ordering.{Ordering}
use Rattle.std.specs.FinSet as set
use Rattle.sqlite_value.specs.declared.value.Value.TheVariants.{Int, Text, Null}
use Rattle.sqlite_value.specs.Order.{Row}
use Rattle.sqlite_trees.specs.Tree.{Trees, rowid, IsTable}
use Rattle.sqlite_trees.specs.View.{is_int}
use Rattle.cut_measure.specs.Codes.{code_cmp, is_code}
use Rattle.cut_measure.specs.Names.{Name}
use Rattle.cut_measure.specs.declared.sizes.Kind.{Kind}
use Rattle.cut_measure.specs.declared.sizes.Kind.TheVariants as kind
use Rattle.cut_tree.specs.Patterns.{IsPlan}
use Rattle.cut_tree.specs.Spelling.{text_of}
use Rattle.shop_records.specs.Columns.{state_of}
use Rattle.shop_records.specs.Content.{Content, material_at, part_at, job_at, halt_at, begun_at, note_at, demand_at, import_at, entry_at}
use Rattle.shop_records.specs.WellFormed.{IsOnPart}
use Rattle.shop_records.specs.declared.records.Material.{Material}
use Rattle.shop_records.specs.declared.records.Part.{Part}
use Rattle.shop_records.specs.declared.records.State.{State}
use Rattle.shop_records.specs.declared.records.State.TheVariants as state
use Rattle.shop_records.specs.declared.records.Job.{Job}
use Rattle.shop_records.specs.declared.records.JobState.{JobState}
use Rattle.shop_records.specs.declared.records.JobState.TheVariants as job
use Rattle.shop_records.specs.declared.records.JobHalt.{JobHalt}
use Rattle.shop_records.specs.declared.records.JobBegin.{JobBegin}
use Rattle.shop_records.specs.declared.notes.OrderNote.{OrderNote}
use Rattle.shop_records.specs.declared.records.Demand.{Demand}
use Rattle.shop_records.specs.declared.records.Totals.{Totals}
use Rattle.shop_records.specs.declared.imports.Form.{Form}
use Rattle.shop_records.specs.declared.imports.Form.TheVariants as form
use Rattle.shop_records.specs.declared.imports.ImportRow.{ImportRow}
use Rattle.shop_records.specs.declared.texts.MessageId.{MessageId}
use Rattle.shop_records.specs.declared.texts.Kept.{Kept}
use Rattle.shop_records.specs.declared.journal.Entry.{Entry}
use Rattle.shop_records.specs.Journal.{word_name}
use Rattle.shop_statements.specs.declared.uses.JobOrder.{JobOrder}
use Rattle.shop_statements.specs.Halts.{IsHaltValue, halt_text}
use Rattle.shop_statements.specs.Values.{IsEntryValue, IsPartValue}

-- ---- numbers of words

abbrev pub kind_number : Kind → ℕ
kind_number kind.Bar = 0
kind_number kind.Sheet = 1

-- a part's state; its job or demand stands beside it
abbrev pub state_number : State → ℕ
state_number state.Standing = 0
state_number (state.Reserved number) = 1
state_number (state.Cut number) = 2
state_number (state.Piece number) = 3
state_number state.Kerf = 4
state_number state.Scrap = 5
state_number state.Returned = 6
state_number (state.Undone number) = 7

abbrev pub job_state_number : JobState → ℕ
job_state_number job.Waiting = 0
job_state_number job.Done = 1
job_state_number job.Broken = 2
job_state_number job.Released = 3
job_state_number job.Undone = 4

abbrev pub turn_number : Bool → ℕ
turn_number false = 0
turn_number true = 1

-- an import's form; its material stands beside it
abbrev pub form_number : Form → ℕ
form_number form.Csv = 0
form_number (form.Cgcut material) = 1

abbrev pub form_material : Form → List ℕ
form_material form.Csv = []
form_material (form.Cgcut material) = material

-- an entry's order, nothing where it has none
abbrev pub order_text : Option (List ℕ) → List ℕ
order_text None = []
order_text (Some code) = code

-- the numbers of an entry's part, 0 where it has none
abbrev pub act_number : Option Name → ℕ
act_number None = 0
act_number (Some name) = name.act

abbrev pub node_number : Option Name → ℕ
node_number None = 0
node_number (Some name) = name.node

-- ---- columns after the key

abbrev pub material_columns : Material → Row
material_columns m =
    Int (pos (kind_number m.kind)) ∷ Int (pos m.limits.kerf) ∷ Int (pos m.limits.min_long) ∷ Int (pos m.limits.min_short) ∷ []

abbrev pub part_columns : Part → Row
part_columns p =
    Text p.material ∷ Text p.batch ∷ Int (pos p.root.act) ∷ Int (pos p.root.node) ∷ Int (pos p.x) ∷ Int (pos p.y) ∷ Int (pos p.size.w)
    ∷ Int (pos p.size.h) ∷ Int (pos (state_number p.state)) ∷ Int (pos (state_of p.state)) ∷ []

-- its kerf is that of its part's material
abbrev pub job_columns : Job → Row
job_columns j =
    Int (pos j.part.act) ∷ Int (pos j.part.node) ∷ Text (text_of j.plan.tree) ∷ Int (pos (job_state_number j.state)) ∷ []

abbrev pub note_columns : OrderNote → Row
note_columns r = Int (pos r.due) ∷ Text r.text ∷ []

abbrev pub begun_columns : JobBegin → Row
begun_columns r = Int (pos r.terminal) ∷ []

abbrev pub halt_columns : JobHalt → Row
halt_columns r = Text (halt_text r) ∷ []

abbrev pub demand_columns : Demand → Row
demand_columns d =
    Text d.order ∷ Int (pos d.line) ∷ Text d.material ∷ Int (pos d.size.w) ∷ Int (pos d.size.h) ∷ Int (pos (turn_number d.may_turn))
    ∷ Int (pos d.worth) ∷ Int (pos d.wanted) ∷ Int (pos d.reserved) ∷ Int (pos d.made) ∷ []

abbrev pub kept_columns : Kept → Row
kept_columns k = Text k.command ∷ Text k.reply ∷ []

abbrev pub import_columns : ImportRow → Row
import_columns r = Int (pos (form_number r.form)) ∷ Text (form_material r.form) ∷ Text r.text ∷ Text r.reply ∷ []

abbrev pub totals_columns : Totals → Row
totals_columns t =
    Int (pos t.received) ∷ Int (pos t.stock) ∷ Int (pos t.rack) ∷ Int (pos t.pieces) ∷ Int (pos t.kerf) ∷ Int (pos t.scrap)
    ∷ Int (pos t.returned) ∷ []

abbrev pub entry_columns : Entry → Row
entry_columns e =
    Int (pos e.at) ∷ Int (pos e.message_id.terminal) ∷ Int (pos e.message_id.number) ∷ Text (word_name e.word) ∷ Int (pos e.act) ∷ Int (pos e.job)
    ∷ Text (order_text e.order) ∷ Int (pos (act_number e.part)) ∷ Int (pos (node_number e.part)) ∷ []

-- ---- rows without their rowids

abbrev pub meta_row : List ℕ × ℕ → Row
meta_row e = Text e.0 ∷ Int (pos e.1) ∷ []

abbrev pub material_row : List ℕ × Material → Row
material_row e = Text e.0 ∷ material_columns e.1

abbrev pub part_row : Name × Part → Row
part_row e = Int (pos e.0.act) ∷ Int (pos e.0.node) ∷ part_columns e.1

abbrev pub order_row : List ℕ × Unit {0} → Row
order_row e = Text e.0 ∷ []

abbrev pub note_row : List ℕ × OrderNote → Row
note_row e = Text e.0 ∷ note_columns e.1

abbrev pub kept_row : MessageId × Kept → Row
kept_row e = Int (pos e.0.terminal) ∷ Int (pos e.0.number) ∷ kept_columns e.1

abbrev pub import_row : List ℕ × ImportRow → Row
import_row e = Text e.0 ∷ import_columns e.1

abbrev pub totals_row : List ℕ × Totals → Row
totals_row e = Text e.0 ∷ totals_columns e.1

-- by job, and then by code
abbrev pub use_cmp : JobOrder → JobOrder → Ordering
use_cmp a b = ordering_then (nat_cmp a.job b.job) (code_cmp a.order b.order)

abbrev pub use_row : JobOrder × Unit {0} → Row
use_row e = Int (pos e.0.job) ∷ Text e.0.order ∷ []

-- ---- rows with their rowids, which are the numbers; the number's own column is empty

abbrev pub job_row : ℕ × Job → Row
job_row e = Int (pos e.0) ∷ Null ∷ job_columns e.1

abbrev pub begun_row : ℕ × JobBegin → Row
begun_row e = Int (pos e.0) ∷ Null ∷ begun_columns e.1

abbrev pub halt_row : ℕ × JobHalt → Row
halt_row e = Int (pos e.0) ∷ Null ∷ halt_columns e.1

abbrev pub demand_row : ℕ × Demand → Row
demand_row e = Int (pos e.0) ∷ Null ∷ demand_columns e.1

abbrev pub journal_row : ℕ × Entry → Row
journal_row e = Int (pos e.0) ∷ Null ∷ entry_columns e.1

-- ---- the tables

-- the rows with numbers as values, in `meta`
abbrev pub meta_entries : Content → List (List ℕ × ℕ)
meta_entries m = (codes "version", 3) ∷ (codes "act", m.last_act) ∷ (codes "demand", m.last_demand) ∷ []

-- The table has these rows and no other, in any order, under rowids that rise. So many columns of the stored ones are left
-- out: the rowid, or none.
pub record AreRows (skip : ℕ) (rows stored : List Row) : Type 0 where
  pub same : IsPermutation rows (map (drop skip) stored)
  pub rising : IsTable stored
  pub keyed : AllByRecursion (λ r. IsTrue (is_int (rowid r))) stored

-- the rows of the orders' codes, as those of a map with nothing at each key
pub record AreOrders (orders : set.FinSet code_cmp) (stored : List Row) : Type 0 where
  pub codes : FinMap code_cmp (Unit {0})
  pub there : (code : List ℕ) → set.contains orders code ≡ is_some (get codes code)
  pub rows : AreRows 1 (map order_row (entries codes)) stored

-- The trees have the rows that stand for the content, the totals, and the orders of jobs.
pub record Stands (db : Trees) (m : Content) (sums : FinMap code_cmp Totals) (used : FinMap use_cmp (Unit {0})) : Type 0 where
  pub meta : AreRows 1 (map meta_row (meta_entries m)) (db 0)
  pub materials : AreRows 1 (map material_row (entries m.materials)) (db 2)
  pub parts : AreRows 1 (map part_row (entries m.parts)) (db 4)
  pub jobs : AreRows 0 (map job_row (entries m.jobs)) (db 6)
  pub orders : AreOrders m.orders (db 7)
  pub demands : AreRows 0 (map demand_row (entries m.demands)) (db 9)
  pub kept : AreRows 1 (map kept_row (entries m.kept)) (db 11)
  pub imports : AreRows 1 (map import_row (entries m.imports)) (db 13)
  pub totals : db 15 ≡ []
  pub totals2 : AreRows 1 (map totals_row (entries sums)) (db 17)
  pub journal : AreRows 0 (map journal_row (entries m.entries)) (db 19)
  pub uses : AreRows 1 (map use_row (entries used)) (db 20)
  pub notes : AreRows 1 (map note_row (entries m.notes)) (db 22)
  pub begun : AreRows 0 (map begun_row (entries m.begun)) (db 24)
  pub halts : AreRows 0 (map halt_row (entries m.halts)) (db 25)

-- a job stands under its own number, and has a plan of its part, with its kerf
pub record IsOwnJob (m : Content) (number : ℕ) (job : Job) : Type 0 where
  pub numbered : job.act ≡ number
  pub kerf : job.kerf ≡ job.plan.kerf
  pub plan : IsPlan job.plan
  pub on : IsOnPart m job

-- What the rows leave out: each row stands under its own key, and the codes of materials, the parts, the entries and the
-- halts are values.
pub record IsKeyed (m : Content) : Type 0 where
  pub materials : (code : List ℕ) (material : Material) → material_at m code ≡ Some material → material.code ≡ code
  pub parts : (name : Name) (part : Part) → part_at m name ≡ Some part → part.name ≡ name
  pub jobs : (number : ℕ) (job : Job) → job_at m number ≡ Some job → IsOwnJob m number job
  pub halts : (number : ℕ) (row : JobHalt) → halt_at m number ≡ Some row → row.job ≡ number
  pub begun : (number : ℕ) (row : JobBegin) → begun_at m number ≡ Some row → row.job ≡ number
  pub notes : (order : List ℕ) (row : OrderNote) → note_at m order ≡ Some row → row.order ≡ order
  pub demands : (number : ℕ) (demand : Demand) → demand_at m number ≡ Some demand → demand.number ≡ number
  pub imports : (order : List ℕ) (row : ImportRow) → import_at m order ≡ Some row → row.order ≡ order
  pub entries : (number : ℕ) (entry : Entry) → entry_at m number ≡ Some entry → entry.number ≡ number
  pub codes : (code : List ℕ) (material : Material) → material_at m code ≡ Some material → IsTrue (is_code code)
  pub values : (name : Name) (part : Part) → part_at m name ≡ Some part → IsPartValue part
  pub noted : (number : ℕ) (entry : Entry) → entry_at m number ≡ Some entry → IsEntryValue entry
  pub halted : (number : ℕ) (row : JobHalt) → halt_at m number ≡ Some row → IsHaltValue row
