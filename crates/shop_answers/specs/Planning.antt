-- Asking for a plan, or for a bound: the demands of a query, and what the planners may answer.
use Rattle.std.specs.Prelude.{◌≡◌, ◌≢◌, ℕ, ◌-◌, ◌≤◌, ◌&&◌, ◌||◌, ◌==◌, ◌⊎◌, List, [], ◌∷◌, length, map, filter_map, All, Bool, true, false, not, nat_le, nat_lt, if◌then◌else◌, Option, Some, None, is_some, MatchOption, Result, Ok, Err}
use Rattle.std.specs.List.{list_any}
use Rattle.std.specs.Option.{option_or}
use Rattle.cut_measure.specs.declared.ranges.TheConstants.{MAX_NUMBERS}
use Rattle.cut_measure.specs.declared.sizes.Kind.{Kind}
use Rattle.cut_measure.specs.declared.sizes.Kind.TheVariants.{Bar, Sheet}
use Rattle.cut_measure.specs.Measures.{Size, is_size}
use Rattle.cut_tree.specs.Patterns.{IsPlan}
use Rattle.cut_tree.specs.Spelling.{text_of}
use Rattle.cut_wants.specs.declared.wants.Want.{Want}
use Rattle.cut_plan.specs.declared.faults.TheConstants.{MAX_WANTS}
use Rattle.cut_plan.specs.declared.faults.PlanFault.{PlanFault}
use Rattle.cut_plan.specs.declared.faults.PlanFault.TheVariants as fault
use Rattle.cut_plan.specs.declared.bars.Proposal.{Proposal}
use Rattle.cut_plan.specs.declared.sheets.SheetProposal.{SheetProposal}
use Rattle.cut_plan.specs.declared.bounds.Bound.{Bound}
use Rattle.cut_plan.specs.Faults.{plan_fault}
use Rattle.cut_plan.specs.Proposals.{IsBarProposal, HasManyPieces}
use Rattle.cut_plan.specs.Sheets.{IsSheetProposal, HasManyKept}
use Rattle.cut_plan.specs.Bounds.{IsBound}
use Rattle.shop_records.specs.declared.records.Material.{Material}
use Rattle.shop_records.specs.declared.records.Part.{Part}
use Rattle.shop_records.specs.declared.records.Demand.{Demand}
use Rattle.shop_answers.specs.declared.planning.FoundDemand.{FoundDemand}
use Rattle.shop_records.specs.declared.refusals.Refusal.{Refusal}
use Rattle.shop_records.specs.declared.refusals.Refusal.TheVariants.{NoMaterial, BadSize, NoDemand, NoPart, NotStanding, WrongMaterial, NothingFits, TableTooLarge, BadStep, BadWant, NoMemory, StoreFault}
use Rattle.shop_records.specs.declared.messages.Reply.{Reply}
use Rattle.shop_records.specs.declared.messages.Reply.TheVariants as reply
use Rattle.shop_records.specs.Columns.{is_free}
use Rattle.shop_records.specs.Same.{same_code}
use Rattle.shop_machine.specs.Decisions.{first_of}

-- ---- the demands of a query

-- a number stands twice
abbrev pub stands_twice : List ℕ → Bool
stands_twice [] = false
stands_twice (n ∷ ns) = list_any (λ m. m == n) ns || stands_twice ns

-- there isn't a list of 1 to 40 numbers, each once
abbrev pub are_bad_numbers : List ℕ → Bool
are_bad_numbers numbers = length numbers == 0 || nat_lt MAX_WANTS (length numbers) || stands_twice numbers

-- a number that a demand may have
abbrev pub is_demand_number : ℕ → Bool
is_demand_number n = nat_le 1 n && nat_le n MAX_NUMBERS

-- why a demand isn't planned on this material, if it isn't
abbrev pub demand_refusal : List ℕ → ℕ → Option Demand → Option Refusal
demand_refusal material number None = Some NoDemand
demand_refusal material number (Some demand) =
    first_of ((not (is_demand_number number), NoDemand) ∷ (not (same_code demand.material material), WrongMaterial) ∷ [])

-- demand by demand, in the order of the query; a function finds the demands
abbrev pub demands_refusal : (ℕ → Option Demand) → List ℕ → List ℕ → Option Refusal
demands_refusal at material [] = None
demands_refusal at material (n ∷ ns) = option_or (demand_refusal material n (at n)) (demands_refusal at material ns)

-- the same of demands that were found
abbrev pub found_refusal : List ℕ → List FoundDemand → Option Refusal
found_refusal material [] = None
found_refusal material (f ∷ fs) = option_or (demand_refusal material f.number f.demand) (found_refusal material fs)

-- the list itself is judged first
abbrev pub numbers_refusal : (ℕ → Option Demand) → List ℕ → List ℕ → Option Refusal
numbers_refusal at material numbers = option_or (first_of ((are_bad_numbers numbers, BadWant) ∷ [])) (demands_refusal at material numbers)

-- how many pieces of a demand are neither reserved nor made
abbrev pub left_of : Demand → ℕ
left_of demand = demand.wanted - demand.reserved - demand.made

-- what is left of the demand of a number, if anything is
abbrev pub want_of : ℕ → Option Demand → Option Want
want_of number None = None
want_of number (Some demand) =
    if left_of demand == 0 then None
    else Some (record { demand = number; size = demand.size; may_turn = demand.may_turn; left = left_of demand; worth = demand.worth })

-- the wants for demands of which something is left, in the order of the query
abbrev pub wants_of : (ℕ → Option Demand) → List ℕ → List Want
wants_of at numbers = filter_map (λ n. want_of n (at n)) numbers

-- the same of demands that were found
abbrev pub found_wants : List FoundDemand → List Want
found_wants found = filter_map (λ (f : FoundDemand). want_of f.number f.demand) found

-- ---- what the planners may answer

-- the refusal that reports a planner's fault
abbrev pub planner_refusal : PlanFault → Refusal
planner_refusal fault.BadWant = BadWant
planner_refusal fault.BadStep = BadStep
planner_refusal fault.TableTooLarge = TableTooLarge
planner_refusal fault.NothingFits = NothingFits
planner_refusal fault.NoMemory = NoMemory

-- a plan that may be proposed, by its tree's text; of a bar nothing is dropped, and no plan is worth more
abbrev pub IsProposed : Kind → Size → (kerf step : ℕ) → List Want → Reply → Type 0
IsProposed Bar size k s wants answer =
    (p : Proposal) × IsPlan p.plan × IsBarProposal size k wants p × (answer ≡ reply.Plan p.worth 0 (text_of p.plan.tree) p.worth)
IsProposed Sheet size k s wants answer =
    (p : SheetProposal) × IsPlan p.plan × IsSheetProposal size k s wants p × (answer ≡ reply.Plan p.ceiling p.dropped (text_of p.plan.tree) p.worth)

-- a plan that would be proposed takes over 255 cuts
abbrev pub HasManyCuts : Kind → Size → (kerf step : ℕ) → List Want → Type 0
HasManyCuts Bar size k s wants = HasManyPieces size k wants
HasManyCuts Sheet size k s wants = HasManyKept size k s wants

-- what a planner of units of a kind may answer: its first fault, or else a plan, or that the plan takes too many cuts
abbrev pub IsPlanned : Kind → Size → (kerf step : ℕ) → List Want → Reply → Type 0
IsPlanned kind size k s wants answer =
    MatchOption (plan_fault kind size k s wants)
    (IsProposed kind size k s wants answer ⊎ ((answer ≡ reply.Refused TableTooLarge) × HasManyCuts kind size k s wants))
    (λ why. answer ≡ reply.Refused (planner_refusal why))

-- the same of a bound, which is never refused for a plan of many cuts
abbrev pub IsBounded : Kind → Size → (kerf step : ℕ) → List Want → Reply → Type 0
IsBounded kind size k s wants answer =
    MatchOption (plan_fault kind size k s wants)
    ((b : Bound) × IsBound kind size k s wants b × (answer ≡ reply.Bound b.best b.units))
    (λ why. answer ≡ reply.Refused (planner_refusal why))

-- ---- queries

-- a bar is planned by its length
abbrev pub planned_size : Kind → Size → Size
planned_size Bar size = record { w = size.w; h = 1 }
planned_size Sheet size = size

-- Why a part isn't planned, before the planner is asked: from its row, and the row of its material, which is there in each
-- content that a history gives.
abbrev pub planning_refusal : Option Part → Option Material → (ℕ → Option Demand) → List ℕ → Option Refusal
planning_refusal None material at numbers = Some NoPart
planning_refusal (Some part) material at numbers =
    option_or (first_of ((not (is_free part.state), NotStanding) ∷ (not (is_some material), NoMaterial) ∷ []))
    (numbers_refusal at part.material numbers)

-- what may be answered to a query for a plan
abbrev pub IsPlanAnswer : Option Part → Option Material → (ℕ → Option Demand) → List ℕ → (step : ℕ) → Reply → Type 0
IsPlanAnswer part material at numbers step answer =
    MatchOption (planning_refusal part material at numbers)
    (MatchOption part ⊥ (λ row. MatchOption material ⊥ (λ m. IsPlanned m.kind (planned_size m.kind row.size) m.limits.kerf step (wants_of at numbers) answer)))
    (λ refusal. answer ≡ reply.Refused refusal)

-- why there is no bound for a unit of this material and these sides, before the planner is asked
abbrev pub bound_refusal : Option Material → List ℕ → Size → (ℕ → Option Demand) → List ℕ → Option Refusal
bound_refusal None code size at numbers = Some NoMaterial
bound_refusal (Some material) code size at numbers =
    option_or (first_of ((not (is_size material.kind size.w size.h), BadSize) ∷ [])) (numbers_refusal at code numbers)

-- what may be answered to a query for a bound
abbrev pub IsBoundAnswer : Option Material → List ℕ → Size → (ℕ → Option Demand) → List ℕ → (step : ℕ) → Reply → Type 0
IsBoundAnswer material code size at numbers step answer =
    MatchOption (bound_refusal material code size at numbers)
    (MatchOption material ⊥ (λ m. IsBounded m.kind size m.limits.kerf step (wants_of at numbers) answer))
    (λ refusal. answer ≡ reply.Refused refusal)

-- ---- from rows that were found

abbrev pub numbers_in : List FoundDemand → List ℕ
numbers_in found = map (λ (f : FoundDemand). f.number) found

-- the rows are those that the function finds
abbrev pub AreFound : (ℕ → Option Demand) → List FoundDemand → Type 0
AreFound at found = All (λ f. f.demand ≡ at f.number) found

-- the demands of a list that is planned, with the rows that the function finds; none of another list
abbrev pub AreAsked : (ℕ → Option Demand) → List ℕ → Option (List FoundDemand) → Type 0
AreAsked at numbers None = are_bad_numbers numbers ≡ true
AreAsked at numbers (Some found) = (are_bad_numbers numbers ≡ false) × (numbers_in found ≡ numbers) × AreFound at found

-- a demand's number, in its range
abbrev pub HasNumber : FoundDemand → Type 0
HasNumber found = (1 ≤ found.number) × (found.number ≤ MAX_NUMBERS)

-- a reply is one of these, or a refusal is, memory aside
abbrev pub ReportsReply : (Reply → Type 0) → Result Reply Refusal → Type 0
ReportsReply what (Ok answer) = what answer
ReportsReply what (Err refusal) = refusal ≢ NoMemory → what (reply.Refused refusal)

-- neither reports a failed store
abbrev pub SparesStore : Result Reply Refusal → Type 0
SparesStore (Ok answer) = answer ≢ reply.Refused StoreFault
SparesStore (Err refusal) = refusal ≢ StoreFault
