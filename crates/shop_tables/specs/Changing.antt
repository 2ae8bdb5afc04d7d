-- What the rows of a change make of the books.
use Rattle.std.specs.Prelude.{◌≡◌, ◌≤◌, nat_eq, ◌||◌, ◌++◌, ℕ, Bool, false, ⊤, if◌then◌else◌, IsSome, List, [], ◌∷◌, Option, Some, None, Result, OnOk, unwrap_or}
use Rattle.std.specs.Cmp.Lexicographic.{pointwise}
use Rattle.std.specs.declared.cmp.Ordering.{Ordering}
use Rattle.std.specs.FinMap.{FinMap, get, insert}
use Rattle.sqlite.specs.State.{State}
use Rattle.cut_measure.specs.Codes.{code_cmp}
use Rattle.shop_records.specs.Content as content
use Rattle.shop_records.specs.Content.{Content, demand_at, entry_at, entry_count, job_at, totals_of, no_totals, changed}
use Rattle.shop_records.specs.WellFormed.{Fits}
use Rattle.shop_records.specs.declared.changes.Change.{Change}
use Rattle.shop_records.specs.declared.changes.MaterialTotals.{MaterialTotals}
use Rattle.shop_records.specs.declared.imports.ImportRow.{ImportRow}
use Rattle.shop_records.specs.declared.texts.KeptMessage.{KeptMessage}
use Rattle.shop_records.specs.declared.records.Demand.{Demand}
use Rattle.shop_records.specs.declared.records.Job.{Job}
use Rattle.shop_records.specs.declared.records.JobBegin.{JobBegin}
use Rattle.shop_records.specs.declared.records.JobHalt.{JobHalt}
use Rattle.shop_records.specs.declared.notes.OrderNote.{OrderNote}
use Rattle.shop_records.specs.declared.records.Material.{Material}
use Rattle.shop_records.specs.declared.records.Part.{Part}
use Rattle.shop_records.specs.declared.records.Totals.{Totals}
use Rattle.shop_tables.specs.Listing.{HaveTotals}
use Rattle.shop_statements.specs.declared.faults.TableFault.{TableFault}
use Rattle.shop_records.specs.declared.journal.Entry.{Entry}
use Rattle.shop_statements.specs.Beside.{Spares}
use Rattle.shop_statements.specs.Changes.{with_demand, with_use}
use Rattle.shop_statements.specs.Layout.{our_trees}
use Rattle.shop_statements.specs.Rows.{use_cmp}
use Rattle.shop_statements.specs.declared.uses.JobOrder.{JobOrder}
use Rattle.shop_statements.specs.Shown.{Books, Makes, Went, Within}

-- The rows of totals are those of the known materials, and a code's totals are the sums of its parts.
pub record HasSums (b : Books) : Type 0 where
  pub there : HaveTotals b
  pub sums : (code : List ℕ) → unwrap_or (get b.totals code) no_totals ≡ totals_of b.content code

-- entries have the numbers from 1 to how many there are
abbrev pub AreNumbered : Content → Type 0
AreNumbered m = (number : ℕ) → IsSome (entry_at m number) → (1 ≤ number) × (number ≤ entry_count m)

-- Entries have these numbers, and each order of a job is of a job that is there.
pub record HasTrail (b : Books) : Type 0 where
  pub numbers : AreNumbered b.content
  pub uses : (x : JobOrder) → IsSome (get b.uses x) → IsSome (job_at b.content x.job)

-- the totals with a material's row
abbrev pub with_row : Option MaterialTotals → FinMap code_cmp Totals → FinMap code_cmp Totals
with_row None totals = totals
with_row (Some row) totals = insert totals row.material row.totals

-- whether one of the demands is of the order
abbrev pub is_ordered : List ℕ → List Demand → Bool
is_ordered code [] = false
is_ordered code (demand ∷ more) = pointwise nat_eq demand.order code || is_ordered code more

-- the orders of the demands under a job, each once
abbrev pub uses_of : ℕ → List Demand → List JobOrder
uses_of job [] = []
uses_of job (demand ∷ more) =
    if is_ordered demand.order more then uses_of job more else uses_of job more ++ record { job = job; order = demand.order } ∷ []

-- A new job is reserved with the demands of which its plan has a piece; a job that is over uses no other orders.
abbrev pub uses_of_job : Option Job → Option ℕ → List Demand → List JobOrder
uses_of_job None act demands = []
uses_of_job (Some job) None demands = []
uses_of_job (Some job) (Some act) demands = uses_of job.act demands

abbrev pub new_uses : Change → List JobOrder
new_uses change = uses_of_job change.job change.act change.demands

-- the orders are put one after another
abbrev pub put_uses : List JobOrder → FinMap use_cmp (Unit {0}) → FinMap use_cmp (Unit {0})
put_uses [] uses = uses
put_uses (x ∷ more) uses = put_uses more (insert uses x tt)

-- the books with the rows of a change
abbrev pub with_change : Change → Books → Books
with_change change b =
    record { content = changed b.content change; totals = with_row change.totals b.totals; uses = put_uses (new_uses change) b.uses }

-- ---- a writing

-- Steps inside a transaction. Of books with what they need they make these, they leave alone what isn't the shop's, and they
-- commit nothing.
pub record Writes (old new : State) (result : Result (Unit {0}) TableFault) (Needs : Books → Type 0) (makes : Books → Books) : Type 0 where
  pub went : OnOk result (Went old new)
  pub put : (b : Books) → Needs b → OnOk result (Makes old new b (makes b))
  pub others : OnOk result (Spares our_trees old new)
  pub within : Within old new

-- the books with a row, if there is one
abbrev pub with_some : {X : Type 0} → (X → Books → Books) → Option X → Books → Books
with_some with_one None b = b
with_some with_one (Some x) b = with_one x b

-- the books with rows, one after another
abbrev pub with_all : {X : Type 0} → (X → Books → Books) → List X → Books → Books
with_all with_one [] b = b
with_all with_one (x ∷ more) b = with_all with_one more (with_one x b)

-- each row finds what it needs when its turn comes
abbrev pub AreInTurn : {X : Type 0} → (X → Books → Type 0) → (X → Books → Books) → List X → Books → Type 0
AreInTurn Needs with_one [] b = ⊤
AreInTurn Needs with_one (x ∷ more) b = Needs x b × AreInTurn Needs with_one more (with_one x b)

-- ---- rows of one table

-- a row stands under the key, of which this one is made
pub record IsOver {K X : Type 0} {R : K → K → Ordering} (rows : FinMap R X) (key : K) (made : X → X) (row : X) : Type 0 where
  pub before : X
  pub found : get rows key ≡ Some before
  pub is : row ≡ made before

-- with the number wanted and the counts of the first
abbrev pub recounted : Demand → Demand → Demand
recounted counted demand = record demand { wanted = counted.wanted; reserved = counted.reserved; made = counted.made }

-- an order's demands are new, and others are there, the same but for the number wanted and their counts
abbrev pub AreDemandsFit : Option (List ℕ) → List Demand → Books → Type 0
AreDemandsFit None demands b = AreInTurn (λ demand n. IsOver n.content.demands demand.number (recounted demand) demand) with_demand demands b
AreDemandsFit (Some order) demands b = AreInTurn (λ demand n. demand_at n.content demand.number ≡ None) with_demand demands b

abbrev pub with_materials : Option Material → Books → Books
with_materials material b = record b { content = record b.content { materials = content.with_material material b.content.materials } }

abbrev pub with_moved : Option Part → Books → Books
with_moved part b = record b { content = record b.content { parts = content.with_moved part b.content.parts } }

abbrev pub with_parts : List Part → Books → Books
with_parts parts b = record b { content = record b.content { parts = content.with_parts parts b.content.parts } }

abbrev pub with_jobs : Option Job → Books → Books
with_jobs job b = record b { content = record b.content { jobs = content.with_job job b.content.jobs } }

abbrev pub with_halts : Option JobHalt → Books → Books
with_halts row b = record b { content = record b.content { halts = content.with_halt row b.content.halts } }

abbrev pub with_begins : Option JobBegin → Books → Books
with_begins row b = record b { content = record b.content { begun = content.with_begun row b.content.begun } }

abbrev pub with_notes : Option OrderNote → Books → Books
with_notes row b = record b { content = record b.content { notes = content.with_note row b.content.notes } }

abbrev pub with_orders : Option (List ℕ) → Books → Books
with_orders order b = record b { content = record b.content { orders = content.with_order order b.content.orders } }

abbrev pub with_demands : List Demand → Books → Books
with_demands demands b = record b { content = record b.content { demands = content.with_demands demands b.content.demands } }

abbrev pub with_imports : Option ImportRow → Books → Books
with_imports row b = record b { content = record b.content { imports = content.with_import row b.content.imports } }

abbrev pub with_messages : Option KeptMessage → Books → Books
with_messages message b = record b { content = record b.content { kept = content.with_kept message b.content.kept } }

abbrev pub with_entries : Option Entry → Books → Books
with_entries entry b = record b { content = record b.content { entries = content.with_entry entry b.content.entries } }

abbrev pub with_uses : List JobOrder → Books → Books
with_uses uses b = record b { uses = put_uses uses b.uses }

abbrev pub with_sums : Option MaterialTotals → Books → Books
with_sums row b = record b { totals = with_row row b.totals }

abbrev pub with_act : Option ℕ → Books → Books
with_act act b = record b { content = record b.content { last_act = content.with_number act b.content.last_act } }

abbrev pub with_number : Option ℕ → Books → Books
with_number demand b = record b { content = record b.content { last_demand = content.with_number demand b.content.last_demand } }

-- with the rows of stock: the material, the part that moves, those that are undone, the new parts and the totals
abbrev pub with_stock : Change → Books → Books
with_stock change b =
    with_sums change.totals (with_parts change.parts (with_parts change.undone (with_moved change.moved (with_materials change.material b))))

-- with what is ordered, and the import that it came by
abbrev pub with_work : Change → Books → Books
with_work change b = with_demands change.demands (with_imports change.import (with_orders change.order b))

-- with what is said beside: where a job halted, which terminal has begun one, and what is said of an order
abbrev pub with_said : Change → Books → Books
with_said change b = with_notes change.note (with_begins change.begun (with_halts change.halt b))

-- with the numbers that were given
abbrev pub with_numbers : Change → Books → Books
with_numbers change b = with_number change.demand (with_act change.act b)

-- The books have the stock that a change was decided on.
pub record HasStockOf (change : Change) (b : Books) : Type 0 where
  pub decided : Books
  pub sums : HasSums decided
  pub fits : Fits decided.content change
  pub materials : b.content.materials ≡ decided.content.materials
  pub parts : b.content.parts ≡ decided.content.parts
  pub totals : b.totals ≡ decided.totals

-- The orders of a job are new: each stands once among these, and none is there.
abbrev pub AreNewUses : List JobOrder → Books → Type 0
AreNewUses uses b = AreInTurn (λ x n. get n.uses x ≡ None) with_use uses b

-- And they have the orders, the imports and the demands.
pub record HasWorkOf (change : Change) (b : Books) : Type 0 where
  pub decided : Content
  pub fits : Fits decided change
  pub orders : b.content.orders ≡ decided.orders
  pub imports : b.content.imports ≡ decided.imports
  pub demands : b.content.demands ≡ decided.demands
