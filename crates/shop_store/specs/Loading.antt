-- What loading makes of a ledger: the values of the tables, put one after another.
use Rattle.std.specs.Prelude.{◌≡◌, ℕ, suc, ⊤, List, [], ◌∷◌, ◌++◌, Bool, true, false}
use Rattle.std.specs.FinMap.{empty, insert, values}
use Rattle.std.specs.FinSet as set
use Rattle.shop_records.specs.Content.{Content, with_parts}
use Rattle.shop_records.specs.Lists.{order_codes}
use Rattle.shop_records.specs.declared.records.Demand.{Demand}
use Rattle.shop_records.specs.declared.records.Job.{Job}
use Rattle.shop_records.specs.declared.records.JobBegin.{JobBegin}
use Rattle.shop_records.specs.declared.notes.OrderNote.{OrderNote}
use Rattle.shop_records.specs.declared.records.Material.{Material}
use Rattle.shop_records.specs.declared.records.Part.{Part}
use Rattle.shop_statements.specs.Rows.{IsOwnJob}
use Rattle.shop_book.specs.Ledgers.{content_in}
use Rattle.shop_store.specs.Checking.{AddsPart}
use Rattle.shop_store.specs.declared.loaded.Loaded.{Loaded}
use Rattle.shop_store.specs.declared.loaded.Loaded.TheVariants as loaded
use Rattle.shop_store.specs.declared.numbered.Chunk.{Chunk}
use Rattle.shop_store.specs.declared.numbered.Chunk.TheVariants as chunk
use Rattle.shop_store.specs.declared.part_loader.PartLoader.{PartLoader}

-- ---- values of one table

-- the content with these values put one after another
abbrev pub with_each : {X : Type 0} → (X → Content → Content) → List X → Content → Content
with_each put [] m = m
with_each put (x ∷ xs) m = with_each put xs (put x m)

-- what has to be known of each is known when its turn comes
abbrev pub FitInTurn : {X : Type 0} → (Content → X → Type 0) → (X → Content → Content) → List X → Content → Type 0
FitInTurn fits put [] m = ⊤
FitInTurn fits put (x ∷ xs) m = fits m x × FitInTurn fits put xs (put x m)

abbrev pub put_material : Material → Content → Content
put_material material m = record m { materials = insert m.materials material.code material }

abbrev pub put_part : Part → Content → Content
put_part part m = record m { parts = insert m.parts part.name part }

abbrev pub put_job : Job → Content → Content
put_job job m = record m { jobs = insert m.jobs job.act job }

abbrev pub put_begun : JobBegin → Content → Content
put_begun row m = record m { begun = insert m.begun row.job row }

abbrev pub put_note : OrderNote → Content → Content
put_note row m = record m { notes = insert m.notes row.order row }

abbrev pub put_order : List ℕ → Content → Content
put_order code m = record m { orders = set.insert m.orders code }

abbrev pub put_demand : Demand → Content → Content
put_demand demand m = record m { demands = insert m.demands demand.number demand }

-- nothing has to be known of a value
abbrev pub AnyFits : {X : Type 0} → Content → X → Type 0
AnyFits m x = ⊤

-- a job has a plan of its part
abbrev pub JobFits : Content → Job → Type 0
JobFits m job = IsOwnJob m job.act job

-- The next rows after a chunk: none where it is empty, else those after its last one's number.
abbrev pub IsChunk : {X : Type 0} → (X → ℕ) → List X → Chunk → Type 0
IsChunk number xs chunk.End = xs ≡ []
IsChunk {X} number xs (chunk.From next) = (before : List X) × (last : X) × (xs ≡ before ++ last ∷ []) × (next ≡ suc (number last))
IsChunk number xs (chunk.Stranger row) = ⊥

-- ---- parts that are handed out

-- the content of the ledger, with the parts that are to be put into it
abbrev pub loading_in : PartLoader → Content
loading_in l = record (content_in l.ledger) { parts = with_parts l.waiting (content_in l.ledger).parts }

-- A part is added up and put. It is answered false where it can't be added up, or memory ran out.
abbrev pub LoadsPart : PartLoader → Part → Bool → PartLoader → Type 0
LoadsPart old part true new = AddsPart old.adder part true new.adder × (loading_in new ≡ put_part part (loading_in old))
LoadsPart old part false new = new.wanting ≡ false → AddsPart old.adder part false new.adder

-- ---- all tables

-- The ledger holds this content, and the totals are the sums; or they aren't. No row stands for no value.
abbrev pub IsLoaded : (sums : Type 0) → Content → Loaded → Type 0
IsLoaded sums m (loaded.Ledger ledger) = sums × (content_in ledger ≡ m)
IsLoaded sums m loaded.OtherSums = ¬ sums
IsLoaded sums m (loaded.NoRow row) = ⊥

-- a content with the jobs, the orders, the demands and the last numbers of another
abbrev pub with_work : Content → Content → Content
with_work of m =
    record (with_each put_demand (values of.demands) (with_each put_order (order_codes of) (with_each put_job (values of.jobs) m))) {
      last_act = of.last_act;
      last_demand = of.last_demand;
    }

-- a content with the begun jobs of another, and with what is said of its orders
abbrev pub with_said : Content → Content → Content
with_said of m = record m { begun = of.begun; notes = of.notes }

-- a content without them
abbrev pub unsaid : Content → Content
unsaid m = record m { begun = empty; notes = empty }
