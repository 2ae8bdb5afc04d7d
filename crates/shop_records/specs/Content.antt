-- What a book contains, as finite maps, and what a change makes of it.
use Rattle.std.specs.Prelude.{filter, map as map_list, not, ◌≡◌, ℕ, ◌+◌, ◌*◌, ◌&&◌, ◌==◌, List, [], ◌∷◌, Bool, if◌then◌else◌, Option, Some, None, option_and_then, sum_by, max}
use Rattle.std.specs.declared.cmp.Ordering.{Ordering}
use Rattle.std.specs.Option.{option_or}
use Rattle.std.specs.Ordering.{nat_cmp, is_eq, ordering_then}
use Rattle.std.specs.FinMap as map
use Rattle.std.specs.FinSet as set
use Rattle.cut_measure.specs.Codes.{code_cmp}
use Rattle.cut_measure.specs.Names.{Name, name_cmp}
use Rattle.shop_records.specs.declared.records.Material.{Material}
use Rattle.shop_records.specs.declared.records.Part.{Part}
use Rattle.shop_records.specs.declared.records.State.{State}
use Rattle.shop_records.specs.declared.records.RackRow.{RackRow}
use Rattle.shop_records.specs.declared.records.Job.{Job}
use Rattle.shop_records.specs.declared.records.JobHalt.{JobHalt}
use Rattle.shop_records.specs.declared.records.JobBegin.{JobBegin}
use Rattle.shop_records.specs.declared.notes.OrderNote.{OrderNote}
use Rattle.shop_records.specs.declared.records.Demand.{Demand}
use Rattle.shop_records.specs.declared.records.Totals.{Totals}
use Rattle.shop_records.specs.declared.records.Column.{Column}
use Rattle.shop_records.specs.declared.records.Column.TheVariants.{Received, Stock, Rack, Pieces, Kerf, Scrap, Returned}
use Rattle.shop_records.specs.declared.imports.ImportRow.{ImportRow}
use Rattle.shop_records.specs.declared.texts.MessageId.{MessageId}
use Rattle.shop_records.specs.declared.texts.Kept.{Kept}
use Rattle.shop_records.specs.declared.texts.KeptMessage.{KeptMessage}
use Rattle.shop_records.specs.declared.journal.Entry.{Entry}
use Rattle.shop_records.specs.declared.changes.Change.{Change}
use Rattle.shop_records.specs.Columns.{is_counted, is_there, is_whole, rack_row}

-- by terminal, and then by number
abbrev pub message_id_cmp : MessageId → MessageId → Ordering
message_id_cmp a b = ordering_then (nat_cmp a.terminal b.terminal) (nat_cmp a.number b.number)

-- The materials by their codes, the parts by their names, the jobs by their numbers, and so where the work on broken ones
-- halted and which terminals have begun them; the codes of the orders, what is said of them by these codes, the demands by
-- their numbers, the accepted messages by their message IDs, the imports by their orders' codes, the entries by their numbers,
-- and the last numbers of an act and of a demand.
pub record Content : Type 0 where
  pub materials : map.FinMap code_cmp Material
  pub parts : map.FinMap name_cmp Part
  pub jobs : map.FinMap nat_cmp Job
  pub halts : map.FinMap nat_cmp JobHalt
  pub begun : map.FinMap nat_cmp JobBegin
  pub orders : set.FinSet code_cmp
  pub notes : map.FinMap code_cmp OrderNote
  pub demands : map.FinMap nat_cmp Demand
  pub kept : map.FinMap message_id_cmp Kept
  pub imports : map.FinMap code_cmp ImportRow
  pub entries : map.FinMap nat_cmp Entry
  pub last_act : ℕ
  pub last_demand : ℕ

-- nothing was done yet
abbrev pub fresh : Content
fresh =
    record {
      materials = map.empty;
      parts = map.empty;
      jobs = map.empty;
      halts = map.empty;
      begun = map.empty;
      orders = set.empty;
      notes = map.empty;
      demands = map.empty;
      kept = map.empty;
      imports = map.empty;
      entries = map.empty;
      last_act = 0;
      last_demand = 0;
    }

-- a number of the row that was found, 0 where there was none
abbrev pub of_found : {X : Type 0} → (X → ℕ) → Option X → ℕ
of_found f None = 0
of_found f (Some x) = f x

abbrev pub material_at : Content → List ℕ → Option Material
material_at content code = map.get content.materials code

abbrev pub part_at : Content → Name → Option Part
part_at content name = map.get content.parts name

abbrev pub job_at : Content → ℕ → Option Job
job_at content number = map.get content.jobs number

-- where the work on a broken job's plan halted
abbrev pub halt_at : Content → ℕ → Option JobHalt
halt_at content number = map.get content.halts number

-- which terminal has begun a job
abbrev pub begun_at : Content → ℕ → Option JobBegin
begun_at content number = map.get content.begun number

-- whether the order is there
abbrev pub has_order : Content → List ℕ → Bool
has_order content code = set.contains content.orders code

-- what is said of an order
abbrev pub note_at : Content → List ℕ → Option OrderNote
note_at content code = map.get content.notes code

abbrev pub demand_at : Content → ℕ → Option Demand
demand_at content number = map.get content.demands number

abbrev pub kept_at : Content → MessageId → Option Kept
kept_at content message_id = map.get content.kept message_id

-- what is kept of the import that an order came by
abbrev pub import_at : Content → List ℕ → Option ImportRow
import_at content code = map.get content.imports code

abbrev pub entry_at : Content → ℕ → Option Entry
entry_at content number = map.get content.entries number

-- how many entries there are; they are numbered from 1 on
abbrev pub entry_count : Content → ℕ
entry_count content = map.len content.entries

-- the last entry, where there is one
abbrev pub last_entry : Content → Option Entry
last_entry content = entry_at content (entry_count content)

-- the time of the last entry, 0 where there is none
abbrev pub last_time : Content → ℕ
last_time content = of_found (λ (entry : Entry). entry.at) (last_entry content)

-- the content without its entries, and without where the work on its jobs halted, as one is taken over from a version that
-- kept neither
abbrev pub forgotten : Content → Content
forgotten content = record content { halts = map.empty; entries = map.empty }

-- an entry without its time
abbrev pub timeless : Entry → Entry
timeless entry = record entry { at = 0 }

-- the content without its entries' times
abbrev pub without_times : Content → Content
without_times content =
    record content {
      entries = map.from_entries {R = nat_cmp} (map_list (λ (e : ℕ × Entry). (e.0, timeless e.1)) (map.entries content.entries));
    }

-- a found part's material
abbrev pub material_of : Content → Option Part → Option Material
material_of old part = option_and_then (λ (p : Part). material_at old p.material) part

-- a found job's part
abbrev pub part_of_job : Content → Option Job → Option Part
part_of_job old found = option_and_then (λ (j : Job). part_at old j.part) found

-- ---- lines of orders

-- the demands of an order, by rising number
abbrev pub demands_of : Content → List ℕ → List Demand
demands_of content order = filter (λ (demand : Demand). is_eq (code_cmp demand.order order)) (map.values content.demands)

-- the greatest of their lines, 0 where there are none
abbrev pub last_line : List Demand → ℕ
last_line [] = 0
last_line (demand ∷ demands) = max demand.line (last_line demands)

-- ---- totals

-- whether the cells of a part are counted in a column of a material
abbrev pub counts_for : Column → List ℕ → Part → Bool
counts_for column code part = is_eq (code_cmp part.material code) && is_counted column part

-- the cells of the parts of a material that a column counts
abbrev pub cells_in : Column → List ℕ → List Part → ℕ
cells_in column code parts = sum_by (λ part. if counts_for column code part then part.size.w * part.size.h else 0) parts

abbrev pub totals_in : List ℕ → List Part → Totals
totals_in code parts =
    record {
      received = cells_in Received code parts;
      stock = cells_in Stock code parts;
      rack = cells_in Rack code parts;
      pieces = cells_in Pieces code parts;
      kerf = cells_in Kerf code parts;
      scrap = cells_in Scrap code parts;
      returned = cells_in Returned code parts;
    }

abbrev pub totals_of : Content → List ℕ → Totals
totals_of content code = totals_in code (map.values content.parts)

-- nothing was received yet
abbrev pub no_totals : Totals
no_totals = record { received = 0; stock = 0; rack = 0; pieces = 0; kerf = 0; scrap = 0; returned = 0 }

-- the totals of a found part's material
abbrev pub totals_for : Content → Option Part → Totals
totals_for content None = no_totals
totals_for content (Some part) = totals_of content part.material

-- every cell that was received stands in stock or on the rack, or is a piece's, the saw's, scrap or returned
abbrev pub AddsUp : Totals → Type 0
AddsUp t = t.received ≡ t.stock + t.rack + t.pieces + t.kerf + t.scrap + t.returned

-- ---- what lies in the shop

-- a part of the material that stands, reserved or not
abbrev pub is_listed : List ℕ → Part → Bool
is_listed code part = is_eq (code_cmp part.material code) && is_there part.state

-- the parts that are named after an act, by rising node
abbrev pub parts_named : Content → ℕ → List Part
parts_named content act = filter (λ part. part.name.act == act) (map.values content.parts)

-- the parts of a material that stand, by rising act and then node
abbrev pub parts_of : Content → List ℕ → List Part
parts_of content code = filter (is_listed code) (map.values content.parts)

-- those of the parts that have a job's name, as they are reported
abbrev pub rack_rows : List Part → List RackRow
rack_rows parts = map_list rack_row (filter (λ part. not (is_whole part)) parts)

-- ---- changes

-- a part in another state
abbrev pub in_state : State → Part → Part
in_state s part = record part { state = s }

abbrev pub with_material : Option Material → map.FinMap code_cmp Material → map.FinMap code_cmp Material
with_material None materials = materials
with_material (Some material) materials = map.insert materials material.code material

-- the rows are put one after another
abbrev pub with_parts : List Part → map.FinMap name_cmp Part → map.FinMap name_cmp Part
with_parts [] parts = parts
with_parts (part ∷ more) parts = with_parts more (map.insert parts part.name part)

-- a part that moves is put in its row's place
abbrev pub with_moved : Option Part → map.FinMap name_cmp Part → map.FinMap name_cmp Part
with_moved None parts = parts
with_moved (Some part) parts = map.insert parts part.name part

abbrev pub with_job : Option Job → map.FinMap nat_cmp Job → map.FinMap nat_cmp Job
with_job None jobs = jobs
with_job (Some job) jobs = map.insert jobs job.act job

abbrev pub with_halt : Option JobHalt → map.FinMap nat_cmp JobHalt → map.FinMap nat_cmp JobHalt
with_halt None halts = halts
with_halt (Some row) halts = map.insert halts row.job row

abbrev pub with_begun : Option JobBegin → map.FinMap nat_cmp JobBegin → map.FinMap nat_cmp JobBegin
with_begun None begun = begun
with_begun (Some row) begun = map.insert begun row.job row

abbrev pub with_order : Option (List ℕ) → set.FinSet code_cmp → set.FinSet code_cmp
with_order None orders = orders
with_order (Some code) orders = set.insert orders code

abbrev pub with_note : Option OrderNote → map.FinMap code_cmp OrderNote → map.FinMap code_cmp OrderNote
with_note None notes = notes
with_note (Some row) notes = map.insert notes row.order row

abbrev pub with_demands : List Demand → map.FinMap nat_cmp Demand → map.FinMap nat_cmp Demand
with_demands [] demands = demands
with_demands (demand ∷ more) demands = with_demands more (map.insert demands demand.number demand)

abbrev pub with_kept : Option KeptMessage → map.FinMap message_id_cmp Kept → map.FinMap message_id_cmp Kept
with_kept None messages = messages
with_kept (Some message) messages = map.insert messages message.message_id message.kept

abbrev pub with_import : Option ImportRow → map.FinMap code_cmp ImportRow → map.FinMap code_cmp ImportRow
with_import None imports = imports
with_import (Some row) imports = map.insert imports row.order row

abbrev pub with_entry : Option Entry → map.FinMap nat_cmp Entry → map.FinMap nat_cmp Entry
with_entry None entries = entries
with_entry (Some entry) entries = map.insert entries entry.number entry

-- the last number after one was given
abbrev pub with_number : Option ℕ → ℕ → ℕ
with_number None last = last
with_number (Some number) last = number

-- the order whose new lines a change's demands are, one that is new or gets further lines; without one they are there
abbrev pub lines_for : Change → Option (List ℕ)
lines_for change = option_or change.order change.extended

-- the content with the rows of a change
abbrev pub changed : Content → Change → Content
changed content change =
    record {
      materials = with_material change.material content.materials;
      parts = with_parts change.parts (with_parts change.undone (with_moved change.moved content.parts));
      jobs = with_job change.job content.jobs;
      halts = with_halt change.halt content.halts;
      begun = with_begun change.begun content.begun;
      orders = with_order change.order content.orders;
      notes = with_note change.note content.notes;
      demands = with_demands change.demands content.demands;
      kept = with_kept change.kept content.kept;
      imports = with_import change.import content.imports;
      entries = with_entry change.entry content.entries;
      last_act = with_number change.act content.last_act;
      last_demand = with_number change.demand content.last_demand;
    }
