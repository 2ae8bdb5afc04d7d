-- What lists there are of a content: its materials, its orders with their lines, what stands, is open or waits after a name
-- or a number, its entries, all or those about a subject, the pieces of an order, a batch or a unit, and the nodes of a job's
-- plan; and the last number of a terminal.
use Rattle.std.specs.Prelude.{◌≡◌, ◌⊎◌, ◌≤◌, ◌<◌, ℕ, ◌&&◌, ◌||◌, ◌==◌, List, All, AllPairs, filter, length, map as map_list, sum_by, Bool, true, false, nat_le, nat_lt, Option, Some, None, IsSome, option_map, unwrap_or, filter_map, min, slice_get, if◌then◌else◌, [], ◌∷◌}
use Rattle.std.specs.List.{list_any}
use Rattle.std.specs.Ordering.{is_lt}
use Rattle.std.specs.FinMap as map
use Rattle.std.specs.FinSet as set
use Rattle.cut_measure.specs.Codes.{code_cmp}
use Rattle.cut_measure.specs.Names.{Name, name_cmp}
use Rattle.cut_tree.specs.Tree.{count_of}
use Rattle.cut_tree.specs.declared.steps.Step.{Step}
use Rattle.cut_tree.specs.declared.token.Token.{Token}
use Rattle.cut_tree.specs.declared.token.Token.TheVariants as token
use Rattle.shop_records.specs.declared.journal.Entry.{Entry}
use Rattle.shop_records.specs.declared.journal.ReportedEntry.{ReportedEntry}
use Rattle.shop_records.specs.declared.journal.Subject.{Subject}
use Rattle.shop_records.specs.declared.journal.Subject.TheVariants as subject
use Rattle.shop_records.specs.declared.journal.Word.{Word}
use Rattle.shop_records.specs.declared.journal.Word.TheVariants as word
use Rattle.shop_records.specs.declared.texts.Kept.{Kept}
use Rattle.shop_records.specs.declared.records.Material.{Material}
use Rattle.shop_records.specs.declared.records.Part.{Part}
use Rattle.shop_records.specs.declared.records.Job.{Job}
use Rattle.shop_records.specs.declared.records.Demand.{Demand}
use Rattle.shop_records.specs.declared.records.OrderRow.{OrderRow}
use Rattle.shop_records.specs.declared.records.DemandRow.{DemandRow}
use Rattle.shop_records.specs.declared.records.JobBegin.{JobBegin}
use Rattle.shop_records.specs.declared.notes.OrderNote.{OrderNote}
use Rattle.shop_records.specs.declared.pieces.PieceSource.{PieceSource}
use Rattle.shop_records.specs.declared.pieces.PieceSource.TheVariants as source
use Rattle.shop_records.specs.declared.pieces.PieceRow.{PieceRow}
use Rattle.shop_records.specs.declared.pieces.StepRow.{StepRow}
use Rattle.shop_records.specs.Columns.{is_piece, is_waiting, state_of, state_word}
use Rattle.shop_records.specs.Same.{same_code, same_name}
use Rattle.shop_records.specs.Elements.{IsIn}
use Rattle.shop_records.specs.Content.{Content, part_at, job_at, begun_at, note_at, demand_at, kept_at, entry_at, of_found, parts_of}

-- all materials, by rising code
abbrev pub materials_of : Content → List Material
materials_of content = map.values content.materials

-- whether a name comes after another one, or there is no other
abbrev pub is_after : Option Name → Name → Bool
is_after None name = true
is_after (Some after) name = is_lt (name_cmp after name)

-- the parts of a material that stand and come after a name, by rising act and then node
abbrev pub parts_after : Content → List ℕ → Option Name → List Part
parts_after content code after = filter (λ part. is_after after part.name) (parts_of content code)

-- whether a row is of the material that is asked for, or of any
abbrev pub is_asked_for : Option (List ℕ) → List ℕ → Bool
is_asked_for None code = true
is_asked_for (Some asked) code = same_code code asked

-- not all pieces of a demand are made
abbrev pub is_open : Demand → Bool
is_open demand = nat_lt demand.made demand.wanted

-- the open demands with greater numbers, of one material or of all, rising
abbrev pub open_demands : Content → (after : ℕ) → Option (List ℕ) → List Demand
open_demands content after material =
    filter (λ demand. nat_lt after demand.number && is_asked_for material demand.material && is_open demand) (map.values content.demands)

-- the waiting jobs with greater numbers, rising
abbrev pub waiting_jobs : Content → (after : ℕ) → List Job
waiting_jobs content after = filter (λ job. nat_lt after job.act && is_waiting job.state) (map.values content.jobs)

abbrev pub job_numbers : List Job → List ℕ
job_numbers jobs = map_list (λ (job : Job). job.act) jobs

-- the terminal that has begun a job, 0 where none has
abbrev pub begun_by : Content → (number : ℕ) → ℕ
begun_by content number = of_found (λ (row : JobBegin). row.terminal) (begun_at content number)

-- whether a code comes after another one, or there is no other
abbrev pub is_code_after : Option (List ℕ) → List ℕ → Bool
is_code_after None code = true
is_code_after (Some after) code = is_lt (code_cmp after code)

-- the codes of all orders, rising, as a map has its keys
abbrev pub order_codes : Content → List (List ℕ)
order_codes content = map.keys (map.from_entries {R = code_cmp} (map_list (λ (code : List ℕ). (code, tt {0})) (set.items content.orders)))

-- the codes of the orders after a code, or from the first on, rising
abbrev pub orders_after : Content → Option (List ℕ) → List (List ℕ)
orders_after content after = filter (is_code_after after) (order_codes content)

-- the day on which an order is due, 0 where none is said
abbrev pub due_of : Content → (order : List ℕ) → ℕ
due_of content order = of_found (λ (row : OrderNote). row.due) (note_at content order)

-- the text that is said of an order, empty where none is
abbrev pub text_of : Content → (order : List ℕ) → List ℕ
text_of content order = unwrap_or (option_map (λ (row : OrderNote). row.text) (note_at content order)) []

-- how a demand is reported
abbrev pub demand_row : Content → Demand → DemandRow
demand_row content demand = record { demand = demand; due = due_of content demand.order }

-- These are the lines of an order: its demands, each of them, by rising line.
pub record AreLines (content : Content) (order : List ℕ) (rows : List Demand) : Type 0 where
  pub rising : AllPairs (λ a b. a.line < b.line) rows
  pub there : All (λ row. (demand_at content row.number ≡ Some row) × (row.order ≡ order)) rows
  pub all : (number : ℕ) (row : Demand) → demand_at content number ≡ Some row → row.order ≡ order → IsIn row rows

-- how an order with these lines is reported
abbrev pub order_row : Content → (order : List ℕ) → (lines : List Demand) → OrderRow
order_row content order lines =
    record {
      due = due_of content order;
      lines = length lines;
      made = sum_by (λ (row : Demand). row.made) lines;
      order = order;
      reserved = sum_by (λ (row : Demand). row.reserved) lines;
      text = text_of content order;
      wanted = sum_by (λ (row : Demand). row.wanted) lines;
    }

-- the greatest number under which a message of a terminal is kept, 0 where none is
pub record IsLastNumber (content : Content) (terminal last : ℕ) : Type 0 where
  pub greatest : (number : ℕ) → IsSome (kept_at content (record { terminal = terminal; number = number })) → number ≤ last
  pub kept : last ≡ 0 ⊎ IsSome (kept_at content (record { terminal = terminal; number = last }))

-- ---- entries

-- the time of the first entry, 0 where there is none
abbrev pub first_time : Content → ℕ
first_time content = of_found (λ (entry : Entry). entry.at) (entry_at content 1)

-- the entries with greater numbers, rising
abbrev pub entries_behind : Content → (after : ℕ) → List Entry
entries_behind content after = filter (λ (entry : Entry). nat_lt after entry.number) (map.values content.entries)

-- the plan of a job has a piece of the order
abbrev pub has_piece_of : Content → (order : List ℕ) → Job → Bool
has_piece_of content order job =
    list_any (λ (demand : Demand). same_code demand.order order && nat_le 1 (count_of job.plan.tree demand.number)) (map.values content.demands)

-- the job that the entry's message reserved, began, ended, released or undid is one of these
abbrev pub has_job : Content → (Job → Bool) → Entry → Bool
has_job content is entry = unwrap_or (option_map is (job_at content entry.job)) false

-- words of messages that make units, of those that make the parts of a job, and of those that take them back
abbrev pub makes_units : Word → Bool
makes_units word.Receive = true
makes_units word.Import = true
makes_units _ = false

abbrev pub ends_job : Word → Bool
ends_job word.Done = true
ends_job word.Break = true
ends_job _ = false

abbrev pub undoes_job : Word → Bool
undoes_job word.Undo = true
undoes_job _ = false

-- The entry's message made the part, its receipt or import, or the end of the job that it is named after; or it took that end
-- back.
abbrev pub made_part : Name → Entry → Bool
made_part name entry =
    (makes_units entry.word && (entry.act == name.act)) || ((ends_job entry.word || undoes_job entry.word) && (entry.job == name.act))

-- the code, or the name, is this one
abbrev pub is_code_of : List ℕ → Option (List ℕ) → Bool
is_code_of code found = unwrap_or (option_map (same_code code) found) false

abbrev pub is_name_of : Name → Option Name → Bool
is_name_of name found = unwrap_or (option_map (same_name name) found) false

-- Whether an entry is about a subject. About an order are the messages that made, extended, noted or amended it, and those
-- about a job whose plan has a piece of it; about a job its reservation, its begin, its end, its release and its undoing; about a
-- part the message that made it and the one that undid that, those about the jobs that it was reserved for, and what made it
-- scrap or returned it.
abbrev pub is_about : Content → Subject → Entry → Bool
is_about content (subject.Order code) entry = is_code_of code entry.order || has_job content (has_piece_of content code) entry
is_about content (subject.Job number) entry = nat_le 1 number && (entry.job == number)
is_about content (subject.Part name) entry =
    made_part name entry || (is_name_of name entry.part || has_job content (λ (job : Job). same_name name job.part) entry)

-- the entries about a subject with greater numbers, rising
abbrev pub entries_about : Content → Subject → (after : ℕ) → List Entry
entries_about content about after = filter (is_about content about) (entries_behind content after)

-- How an entry is reported: with the texts that are kept of its message. An entry whose message isn't kept is none; in each
-- content that a history gives every entry's message is kept.
abbrev pub reported_entry : Content → Entry → Option ReportedEntry
reported_entry content entry =
    option_map (λ (row : Kept). record { at = entry.at; entry = entry.number; message = row.command; reply = row.reply }) (kept_at content entry.message_id)

abbrev pub reported_entries : Content → List Entry → List ReportedEntry
reported_entries content entries = filter_map (reported_entry content) entries

-- ---- days

-- of two days the earlier one; 0 is none
abbrev pub earlier_day : (a b : ℕ) → ℕ
earlier_day a b = if a == 0 then b else if b == 0 then a else min a b

abbrev pub earliest_day : List ℕ → ℕ
earliest_day [] = 0
earliest_day (day ∷ days) = earlier_day day (earliest_day days)

-- the demands of which the plan of a job has a piece
abbrev pub demands_in : Content → Job → List Demand
demands_in content job = filter (λ (demand : Demand). nat_le 1 (count_of job.plan.tree demand.number)) (map.values content.demands)

-- the least day on which an order is due that has a piece in the plan of a job, 0 where none has a day
abbrev pub due_for_job : Content → Job → ℕ
due_for_job content job = earliest_day (map_list (λ (demand : Demand). due_of content demand.order) (demands_in content job))

-- Whether a demand comes before another one where none are named: the one that is due earlier, those without a day last, and of
-- one day the lower number.
abbrev pub is_due_before : Content → Demand → Demand → Bool
is_due_before content a b =
    let one = due_of content a.order in
    let other = due_of content b.order in
    if one == other then nat_lt a.number b.number else (if other == 0 then true else (if one == 0 then false else nat_lt one other))

-- These are the open demands of a material, each of them, in that order.
pub record AreByDay (content : Content) (material : List ℕ) (rows : List Demand) : Type 0 where
  pub rising : AllPairs (λ a b. is_due_before content a b ≡ true) rows
  pub there : All (λ row. IsIn row (open_demands content 0 (Some material))) rows
  pub all : (row : Demand) → IsIn row (open_demands content 0 (Some material)) → IsIn row rows

-- ---- pieces

-- the demand whose piece a part is
abbrev pub demand_for : Content → Part → Option Demand
demand_for content part = if is_piece part.state then demand_at content (state_of part.state) else None

-- the part is a piece of the order, of a unit of the batch, or of the unit
abbrev pub is_from : Content → PieceSource → Part → Bool
is_from content (source.Order code) part = unwrap_or (option_map (λ (demand : Demand). same_code demand.order code) (demand_for content part)) false
is_from content (source.Batch code) part = is_piece part.state && same_code part.batch code
is_from content (source.Unit name) part = is_piece part.state && same_name part.root name

-- these pieces whose names come after a name, by rising act and then node
abbrev pub pieces_after : Content → PieceSource → (after : Option Name) → List Part
pieces_after content from after = filter (λ (part : Part). is_from content from part && is_after after part.name) (map.values content.parts)

-- the first entry of a message that ended the job
abbrev pub end_entry : Content → (job : ℕ) → Option Entry
end_entry content job = slice_get (filter (λ (entry : Entry). ends_job entry.word && (entry.job == job)) (entries_behind content 0)) 0

-- How a piece is reported. A piece without a demand is none; in each content that a history gives the demand of each piece is there.
abbrev pub piece_row : Content → Part → Option PieceRow
piece_row content part =
    option_map
    (λ (demand : Demand).
    record {
      at = of_found (λ (entry : Entry). entry.at) (end_entry content part.name.act);
      batch = part.batch;
      demand = demand.number;
      h = part.size.h;
      line = demand.line;
      material = part.material;
      order = demand.order;
      part = part.name;
      root = part.root;
      w = part.size.w;
    })
    (demand_for content part)

-- ---- steps

-- the demand of a node of a plan that is a piece
abbrev pub demand_at_node : Content → Token → Option Demand
demand_at_node content (token.Cut axis place) = None
demand_at_node content (token.Piece demand turned) = demand_at content demand
demand_at_node content token.Rest = None

-- how a node of a job's plan is reported, with what became of it
abbrev pub step_row : Content → (job : ℕ) → Step → StepRow
step_row content job step =
    let row = part_at content (record { act = job; node = step.node }) in
    record {
      step = step;
      line = of_found (λ (demand : Demand). demand.line) (demand_at_node content step.what);
      order = option_map (λ (demand : Demand). demand.order) (demand_at_node content step.what);
      part = option_map (λ (part : Part). part.name) row;
      state = option_map (λ (part : Part). state_word part.state) row;
    }
