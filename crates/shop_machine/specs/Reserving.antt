-- Reserving a part for a plan.
use Rattle.std.specs.Prelude.{◌≡◌, ℕ, ◌+◌, ◌≤◌, ◌&&◌, ◌==◌, List, [], ◌∷◌, length, Bool, true, false, not, nat_lt, if◌then◌else◌, Option, Some, None, is_some}
use Rattle.std.specs.List.{list_any}
use Rattle.std.specs.Option.{option_or}
use Rattle.cut_measure.specs.declared.ranges.TheConstants.{MAX_NUMBERS}
use Rattle.cut_measure.specs.Names.{Name}
use Rattle.cut_tree.specs.declared.token.TheConstants.{MAX_CUTS}
use Rattle.cut_tree.specs.declared.leaves.Leaf.{Leaf}
use Rattle.cut_tree.specs.Tree.{count_of, cut_count}
use Rattle.cut_tree.specs.Patterns.{Pattern}
use Rattle.cut_tree.specs.Spelling.{IsSpelling}
use Rattle.shop_records.specs.declared.records.Material.{Material}
use Rattle.shop_records.specs.declared.records.Part.{Part}
use Rattle.shop_records.specs.declared.records.State.TheVariants.{Reserved}
use Rattle.shop_records.specs.declared.records.JobState.TheVariants as job
use Rattle.shop_records.specs.declared.records.Demand.{Demand}
use Rattle.shop_records.specs.declared.changes.Change.{Change}
use Rattle.shop_records.specs.declared.refusals.Refusal.{Refusal}
use Rattle.shop_records.specs.declared.refusals.Refusal.TheVariants.{NumbersSpent, NoDemand, NoPart, NotStanding, BadTree, WrongMaterial, WrongSize, TooMany, StoreFault}
use Rattle.shop_records.specs.declared.messages.Reply.TheVariants as reply
use Rattle.shop_records.specs.Columns.{is_free}
use Rattle.shop_records.specs.Content.{Content, material_at, part_at, in_state}
use Rattle.shop_records.specs.Same.{same_code}
use Rattle.shop_machine.specs.Decisions.{first_of, no_change}
use Rattle.shop_machine.specs.Recounts.{plan_leaves, AreRecounted, with_reserved}

-- A text is read where the part stands: the plan is the one that it spells on the part's sides, with the kerf of the part's
-- material, and has at most 255 cuts.
pub record IsReading (old : Content) (part : Name) (text : List ℕ) (plan : Pattern) : Type 0 where
  pub row : Part
  pub found : part_at old part ≡ Some row
  pub stands : is_free row.state ≡ true
  pub material : Material
  pub known : material_at old row.material ≡ Some material
  pub width : plan.w ≡ row.size.w
  pub height : plan.h ≡ row.size.h
  pub kerf : plan.kerf ≡ material.limits.kerf
  pub spelled : IsSpelling text plan.tree plan.w plan.h plan.kerf
  pub few_cuts : cut_count plan.tree ≤ MAX_CUTS

-- the text is read as a plan without a piece
abbrev pub HasNoPiece : Content → Name → List ℕ → Type 0
HasNoPiece old part text = (plan : Pattern) × IsReading old part text plan × (plan_leaves plan ≡ [])

-- the leaf has the demand's size, or the swapped one where it is turned and the demand's pieces may turn
abbrev pub fits_demand : Leaf → Demand → Bool
fits_demand leaf demand =
    if leaf.turned then demand.may_turn && leaf.w == demand.size.h && leaf.h == demand.size.w
    else leaf.w == demand.size.w && leaf.h == demand.size.h

abbrev pub leaf_refusal : List ℕ → Leaf → Option Demand → Option Refusal
leaf_refusal material leaf None = Some NoDemand
leaf_refusal material leaf (Some demand) =
    first_of ((not (same_code demand.material material), WrongMaterial) ∷ (not (fits_demand leaf demand), WrongSize) ∷ [])

-- leaf by leaf, for a part of this material; a function finds the demands
abbrev pub leaves_refusal : (ℕ → Option Demand) → List ℕ → List Leaf → Option Refusal
leaves_refusal at material [] = None
leaves_refusal at material (leaf ∷ leaves) = option_or (leaf_refusal material leaf (at leaf.demand)) (leaves_refusal at material leaves)

-- with so many more, more than wanted would be reserved and made
abbrev pub is_over : ℕ → Option Demand → Bool
is_over n None = false
is_over n (Some demand) = nat_lt demand.wanted (demand.reserved + demand.made + n)

-- over the whole tree
abbrev pub is_too_many : (ℕ → Option Demand) → Pattern → Bool
is_too_many at plan = list_any (λ leaf. is_over (count_of plan.tree leaf.demand) (at leaf.demand)) (plan_leaves plan)

abbrev pub plan_refusal : Part → Option Pattern → (ℕ → Option Demand) → ℕ → Option Refusal
plan_refusal part None at act = Some BadTree
plan_refusal part (Some plan) at act =
    option_or (first_of ((length (plan_leaves plan) == 0, BadTree) ∷ []))
    (option_or (leaves_refusal at part.material (plan_leaves plan))
    (first_of ((is_too_many at plan, TooMany) ∷ (nat_lt MAX_NUMBERS act, NumbersSpent) ∷ [])))

-- Of a reservation: the part's row, the row of its material, which is there in each content that a history gives, the plan
-- that was read, where the demands are found, and the act's number.
abbrev pub reserve_refusal : Option Part → Option Material → Option Pattern → (ℕ → Option Demand) → ℕ → Option Refusal
reserve_refusal None material read at act = Some NoPart
reserve_refusal (Some part) material read at act =
    option_or (first_of ((not (is_free part.state), NotStanding) ∷ (not (is_some material), StoreFault) ∷ [])) (plan_refusal part read at act)

abbrev pub reserve_change : Part → Pattern → ℕ → List Demand → Change
reserve_change part plan act rows =
    record (no_change (reply.Reserve (cut_count plan.tree) act)) {
      moved = Some (in_state (Reserved act) part);
      job = Some (record { act = act; part = part.name; kerf = plan.kerf; plan = plan; state = job.Waiting });
      demands = rows;
      act = Some act;
    }

pub record IsReservation (part : Part) (plan : Pattern) (at : ℕ → Option Demand) (act : ℕ) (change : Change) : Type 0 where
  pub rows : List Demand
  pub recounted : AreRecounted at with_reserved plan.tree rows
  pub is : change ≡ reserve_change part plan act rows
