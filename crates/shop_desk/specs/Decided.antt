-- What is decided on a command, over the content that a book holds.
use Rattle.std.specs.Prelude.{◌≡◌, ◌⊎◌, ◌+◌, ℕ, List, [], Option, Some, None, Result, Ok, Err, IfErr}
use Rattle.shop_records.specs.declared.records.Material.{Material}
use Rattle.shop_records.specs.declared.records.Part.{Part}
use Rattle.shop_records.specs.declared.records.Job.{Job}
use Rattle.shop_records.specs.declared.records.JobHalt.{JobHalt}
use Rattle.shop_records.specs.declared.records.Totals.{Totals}
use Rattle.shop_machine.specs.declared.recounts.FoundLeaf.{FoundLeaf}
use Rattle.shop_records.specs.declared.changes.Change.{Change}
use Rattle.shop_records.specs.declared.messages.Command.{Command}
use Rattle.shop_records.specs.declared.refusals.Refusal.{Refusal}
use Rattle.shop_records.specs.declared.refusals.Refusal.TheVariants.{StoreFault}
use Rattle.shop_records.specs.Messages.{Texts}
use Rattle.shop_records.specs.Readings.{Reading}
use Rattle.shop_records.specs.Content.{Content, material_at, job_at, demand_at, part_of_job, material_of, totals_of, totals_for, halt_at, parts_named}
use Rattle.shop_records.specs.WellFormed.{IsWellFormed}
use Rattle.shop_machine.specs.Recounts.{AreDemandsFound}
use Rattle.shop_machine.specs.Machine.{Reads, refusal_of, Makes, Refuses}
use Rattle.shop_book.specs.declared.books.Book.{Ghosts}
use Rattle.shop_book.specs.Kept.{OnContent}
use Rattle.shop_desk.specs.Faults.{StoreFailed, CountsDecision}

-- The command is allowed and the change is its own, what its text stands for being read; or it is refused.
abbrev pub IsDecided : Texts → Content → Command → Result Change Refusal → Type 0
IsDecided texts m command (Ok change) =
    (read : Reading) × Reads texts m command read × (refusal_of m command read ≡ None) × Makes m command read change
IsDecided texts m command (Err refusal) = Refuses texts m command refusal

-- rows of the content contradict each other
abbrev pub Contradicts : Texts → Content → Command → Type 0
Contradicts texts m command = (read : Reading) × Reads texts m command read × (refusal_of m command read ≡ Some StoreFault)

-- a decision reports a failed store only where the store failed, or where rows contradict each other
abbrev pub JustifiesStoreFault : Texts → Content → Command → ℕ → Result Change Refusal → ℕ → Type 0
JustifiesStoreFault texts m command before result after =
    IfErr result (λ refusal. refusal ≡ StoreFault → StoreFailed before after ⊎ Contradicts texts m command)

-- what is decided on a command over a content
pub record IsJudged (texts : Texts) (m : Content) (command : Command) (before : ℕ) (result : Result Change Refusal) (after : ℕ) : Type 0 where
  pub decision : IsDecided texts m command result
  pub store_fault_justified : JustifiesStoreFault texts m command before result after

-- what is decided on a command over a book, for each well-formed content that it held
abbrev pub Judges : {B : Type 0} → Ghosts B → Texts → Command → B → Result Change Refusal → B → Type 0
Judges book texts command old result new =
    OnContent book old new (λ m. IsWellFormed texts m → IsJudged texts m command (book.failed old) result (book.failed new))

-- the failures that a decision goes with: where rows contradict each other the store didn't fail, and none is counted
abbrev pub CountsOrDisagrees : Result Change Refusal → ℕ → ℕ → Type 0
CountsOrDisagrees result before after =
    CountsDecision result before after ⊎ ((result ≡ Err StoreFault) × (after ≡ before))

-- a job, its part, its material and that one's totals in a content, as far as they are there, and leaves with the rows of
-- their demands
pub record AreJobRows (m : Content) (number : ℕ) (job : Option Job) (part : Option Part) (material : Option Material) (totals : Totals) (leaves : List FoundLeaf) : Type 0 where
  pub of_job : job ≡ job_at m number
  pub of_part : part ≡ part_of_job m job
  pub of_material : material ≡ material_of m part
  pub of_totals : totals ≡ totals_for m part
  pub demands : AreDemandsFound (demand_at m) leaves

-- a material, its totals and the number of the next act in a content
pub record AreReceiptRows (m : Content) (material : List ℕ) (known : Option Material) (totals : Totals) (act : ℕ) : Type 0 where
  pub of_material : known ≡ material_at m material
  pub of_totals : totals ≡ totals_of m material
  pub of_act : act ≡ m.last_act + 1

-- where the work on the plan of a job that was found halted, if that is kept
abbrev pub halt_for : Content → Option Job → Option JobHalt
halt_for m None = None
halt_for m (Some j) = halt_at m j.act

-- the parts that are named after a job that was found
abbrev pub left_for : Content → Option Job → List Part
left_for m None = []
left_for m (Some j) = parts_named m j.act
