-- Which reply it is, of those that are handed on whole.
use Rattle.std.specs.Prelude.{◌≡◌, ℕ, List, Bool}
use Rattle.cut_measure.specs.Names.{Name}
use Rattle.shop_records.specs.declared.messages.Reply.{Reply}
use Rattle.shop_records.specs.declared.messages.Reply.TheVariants as answer
use Rattle.shop_records.specs.declared.records.JobState.{JobState}
use Rattle.shop_records.specs.declared.records.Part.{Part}
use Rattle.shop_records.specs.declared.records.StateWord.{StateWord}
use Rattle.shop_records.specs.declared.pieces.StepRow.{StepRow}

-- about an order that was added, one that got further lines, and one that was imported
abbrev pub ReportsOrder : Reply → Type 0
ReportsOrder reply = (count first : ℕ) × (order : List ℕ) × (reply ≡ answer.AddOrder count first order)

abbrev pub ReportsExtend : Reply → Type 0
ReportsExtend reply = (count first : ℕ) × (order : List ℕ) × (reply ≡ answer.Extend count first order)

abbrev pub ReportsImport : Reply → Type 0
ReportsImport reply = (act count first : ℕ) × (order : List ℕ) × (reply ≡ answer.Import act count first order)

-- about a material's cells
abbrev pub ReportsTotals : Reply → Type 0
ReportsTotals reply =
    (material : List ℕ) × (received stock rack pieces kerf scrap returned : ℕ)
    × (reply ≡ answer.Totals material received stock rack pieces kerf scrap returned)

-- about a part
abbrev pub ReportsTrace : Reply → Type 0
ReportsTrace reply =
    (batch : List ℕ) × (h of : ℕ) × (part root : Name) × (state : StateWord) × (w x y : ℕ)
    × (reply ≡ answer.Trace batch h of part root state w x y)

-- about a demand
abbrev pub ReportsDemand : Reply → Type 0
ReportsDemand reply =
    (demand line made : ℕ) × (material order : List ℕ) × (reserved wanted : ℕ)
    × (reply ≡ answer.Demand demand line made material order reserved wanted)

-- a plan
abbrev pub ReportsPlan : Reply → Type 0
ReportsPlan reply = (ceiling dropped : ℕ) × (tree : List ℕ) × (worth : ℕ) × (reply ≡ answer.Plan ceiling dropped tree worth)

-- parts after a name
abbrev pub ReportsParts : Reply → Type 0
ReportsParts reply = (material : List ℕ) × (more : Bool) × (parts : List Part) × (reply ≡ answer.Parts material more parts)

-- about a job
abbrev pub ReportsJob : Reply → Type 0
ReportsJob reply =
    (begun cuts h job kerf : ℕ) × (material : List ℕ) × (part : Name) × (state : JobState) × (tree : List ℕ) × (w : ℕ)
    × (reply ≡ answer.Job begun cuts h job kerf material part state tree w)

-- about the nodes of a job's plan
abbrev pub ReportsSteps : Reply → Type 0
ReportsSteps reply =
    (job kerf : ℕ) × (material : List ℕ) × (part : Name) × (state : JobState) × (steps : List StepRow)
    × (reply ≡ answer.Steps job kerf material part state steps)
