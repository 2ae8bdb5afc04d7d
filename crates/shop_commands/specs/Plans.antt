-- Plans of problem files, and of the lines of order files.
use Rattle.std.specs.Prelude.{◌≡◌, ℕ, List, ◌++◌, ◌⊎◌, codes, map, None, Option, Some}
use Rattle.std.specs.Fmt.{decimal}
use Rattle.cut_measure.specs.Measures.{Size}
use Rattle.cut_measure.specs.declared.sizes.Kind.TheVariants.{Sheet}
use Rattle.cut_tree.specs.Spelling.{text_of}
use Rattle.cut_plan.specs.declared.faults.PlanFault.{PlanFault}
use Rattle.cut_plan.specs.declared.faults.PlanFault.TheVariants.{TableTooLarge}
use Rattle.cut_plan.specs.declared.sheets.SheetProposal.{SheetProposal}
use Rattle.cut_plan.specs.Faults.{plan_fault}
use Rattle.cut_plan.specs.Sheets.{IsSheetProposal, HasManyKept}
use Rattle.shop_files.specs.declared.orders.OrderLine.{OrderLine}
use Rattle.shop_files.specs.declared.problems.Piece.{Piece}
use Rattle.shop_files.specs.declared.shops.MaterialEntry.{MaterialEntry}
use Rattle.shop_files.specs.Orders.{IsOrders}
use Rattle.shop_files.specs.Problems.{IsProblem, IsProblemFault}
use Rattle.shop_problems.specs.declared.orders.LinesFault.{LinesFault}
use Rattle.shop_problems.specs.declared.stock.BadEntry.{BadEntry}
use Rattle.shop_problems.specs.Judged.{first_bad_field}
use Rattle.shop_problems.specs.Orders.{IsLinesText, IsLinesFault}
use Rattle.shop_problems.specs.Stock.{first_bad_entry}
use Rattle.shop_problems.specs.Wants.{wants_of}
use Rattle.shop_problems.specs.Wholes.{IsWholeText, IsWholeFault}
use Rattle.shop_commands.specs.declared.faults.Fault.{Fault}
use Rattle.shop_commands.specs.declared.faults.Fault.TheVariants.{Text, NoMemory}
use Rattle.shop_words.specs.declared.words.OrderPlan.{OrderPlan}
use Rattle.shop_commands.specs.Faults.{entry_fault, lines_fault, planner_fault}
use Rattle.shop_commands.specs.Orders.{IsBadBy, IsUnordered}
use Rattle.shop_commands.specs.Stored.{IsShopRead, IsShopUnread}

-- the four lines of a plan
abbrev pub plan_lines : SheetProposal → List ℕ
plan_lines p =
    codes "worth " ++ decimal p.worth ++ codes "\nceiling " ++ decimal p.ceiling ++ codes "\ndropped " ++ decimal p.dropped
    ++ codes "\ntree " ++ text_of p.plan.tree ++ codes "\n"

-- The planner finds no fault in a problem, and these are the lines of a plan that it may propose.
pub record IsPlanText (size : Size) (pieces : List Piece) (kerf step : ℕ) (lines : List ℕ) : Type 0 where
  pub faultless : plan_fault Sheet size kerf step (wants_of pieces) ≡ None
  pub proposal : SheetProposal
  pub proposed : IsSheetProposal size kerf step (wants_of pieces) proposal
  pub says : lines ≡ plan_lines proposal

-- the planner has this fault for a problem
abbrev pub HasPlanFault : Size → List Piece → (kerf step : ℕ) → PlanFault → Type 0
HasPlanFault size pieces kerf step fault =
    (plan_fault Sheet size kerf step (wants_of pieces) ≡ Some fault) ⊎ ((fault ≡ TableTooLarge) × HasManyKept size kerf step (wants_of pieces))

-- memory ran out, or the planner has a fault, and it is reported by its number and name
abbrev pub IsPlanless : Size → List Piece → (kerf step : ℕ) → Fault → Type 0
IsPlanless size pieces kerf step fault =
    (fault ≡ NoMemory) ⊎ ((cause : PlanFault) × (fault ≡ planner_fault cause) × HasPlanFault size pieces kerf step cause)

-- a file's bytes spell a problem, and these are the lines of its plan
abbrev pub IsFilePlan : List ℕ → (kerf step : ℕ) → List ℕ → Type 0
IsFilePlan bytes kerf step lines = (size : Size) × (pieces : List Piece) × IsProblem bytes size pieces × IsPlanText size pieces kerf step lines

-- memory ran out, the bytes have a fault, or they spell a problem that has no plan
abbrev pub IsFileFault : List ℕ → (kerf step : ℕ) → Fault → Type 0
IsFileFault bytes kerf step (Text fault) = IsProblemFault bytes fault.offset fault.cause
IsFileFault bytes kerf step fault = (fault ≡ NoMemory) ⊎ ((size : Size) × (pieces : List Piece) × IsProblem bytes size pieces × IsPlanless size pieces kerf step fault)

-- a file's bytes spell a problem, and these are the lines of the plans of all its pieces
abbrev pub IsFileWhole : List ℕ → (kerf : ℕ) → (step stages : Option ℕ) → List ℕ → Type 0
IsFileWhole bytes kerf step stages lines = (size : Size) × (pieces : List Piece) × IsProblem bytes size pieces × IsWholeText size pieces kerf step stages lines

-- all pieces can't be planned, and that is reported by its number and name
abbrev pub IsWholeless : Size → List Piece → (kerf : ℕ) → (step : Option ℕ) → Fault → Type 0
IsWholeless size pieces kerf step fault = (cause : PlanFault) × (fault ≡ planner_fault cause) × IsWholeFault size pieces kerf step cause

-- memory ran out, the bytes have a fault, or they spell a problem whose pieces can't be planned
abbrev pub IsFileWholeFault : List ℕ → (kerf : ℕ) → (step : Option ℕ) → Fault → Type 0
IsFileWholeFault bytes kerf step (Text fault) = IsProblemFault bytes fault.offset fault.cause
IsFileWholeFault bytes kerf step fault =
    (fault ≡ NoMemory) ⊎ ((size : Size) × (pieces : List Piece) × IsProblem bytes size pieces × IsWholeless size pieces kerf step fault)

-- ---- order files

-- the fault of the first entry that a shop refuses
abbrev pub IsBadEntry : List MaterialEntry → Fault → Type 0
IsBadEntry entries fault = (bad : BadEntry) × (first_bad_entry entries ≡ Some bad) × (fault ≡ entry_fault bad)

abbrev pub sizes_asked : OrderPlan → List (List ℕ)
sizes_asked asked = map (λ t. t.now) asked.sizes.items

-- a shop file has entries that a shop takes, and these are the lines of the plans of a material's lines
pub record IsShopLines (holds : List ℕ → ℕ → List ℕ → Type 0) (lines : List OrderLine) (asked : OrderPlan) (text : List ℕ) : Type 0 where
  pub entries : List MaterialEntry
  pub read : IsShopRead holds asked.shop.now entries
  pub taken : first_bad_entry entries ≡ None
  pub reported : IsLinesText lines entries asked.material.now (sizes_asked asked) asked.stages text

-- bytes spell good lines, and these are the lines of their plans
pub record IsFileLines (holds : List ℕ → ℕ → List ℕ → Type 0) (bytes : List ℕ) (asked : OrderPlan) (text : List ℕ) : Type 0 where
  pub lines : List OrderLine
  pub spelt : IsOrders bytes lines
  pub good : first_bad_field None lines ≡ None
  pub planned : IsShopLines holds lines asked text

-- of these entries: the fault of one that a shop refuses, or why the lines aren't planned
abbrev pub IsPlanFaultBy : List OrderLine → List MaterialEntry → OrderPlan → Fault → Type 0
IsPlanFaultBy lines entries asked fault =
    IsBadEntry entries fault
    ⊎ ((first_bad_entry entries ≡ None) × ((f : LinesFault) × IsLinesFault lines entries asked.material.now (sizes_asked asked) f × (fault ≡ lines_fault f)))

-- the shop file has a fault, or it has entries from which the lines can't be planned
abbrev pub IsShopLinesFault : (holds : List ℕ → ℕ → List ℕ → Type 0) → List OrderLine → OrderPlan → Fault → Type 0
IsShopLinesFault holds lines asked fault =
    IsShopUnread holds asked.shop.now fault
    ⊎ ((entries : List MaterialEntry) × IsShopRead holds asked.shop.now entries × IsPlanFaultBy lines entries asked fault)

-- the bytes have a first fault; or they spell lines of which a field is bad; or good ones, which can't be planned from the shop file
abbrev pub IsFileLinesFault : (holds : List ℕ → ℕ → List ℕ → Type 0) → List ℕ → OrderPlan → Fault → Type 0
IsFileLinesFault holds bytes asked fault =
    IsUnordered bytes fault
    ⊎ ((lines : List OrderLine) × IsOrders bytes lines
    × (IsBadBy None lines fault ⊎ ((first_bad_field None lines ≡ None) × IsShopLinesFault holds lines asked fault)))
