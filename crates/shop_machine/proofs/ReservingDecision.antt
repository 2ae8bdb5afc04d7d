-- Why a plan is refused on a part, test by test.
use Rattle.std.proofs.Common.{◌≡◌, ℕ, nat_eq, nat_lt, Bool, true, false, List, length, [], ◌∷◌, sym, ap, ◌∙◌}
use Rattle.std.specs.Prelude.{Option, Some, None, is_some, not}
use Rattle.std.specs.Option.{option_or}
use Rattle.std.proofs.lemmas.List.{length-map}
use Rattle.cut_measure.specs.declared.ranges.TheConstants.{MAX_NUMBERS}
use Rattle.cut_tree.specs.Patterns.{Pattern}
use Rattle.shop_records.specs.declared.records.Material.{Material}
use Rattle.shop_machine.specs.declared.recounts.FoundLeaf.{FoundLeaf}
use Rattle.shop_records.specs.declared.records.Part.{Part}
use Rattle.shop_records.specs.declared.records.Demand.{Demand}
use Rattle.shop_records.specs.declared.refusals.Refusal.TheVariants.{BadTree, TooMany, NumbersSpent, NotStanding, StoreFault}
use Rattle.shop_records.specs.Columns.{is_free}
use Rattle.shop_machine.specs.Recounts.{leaves_in, plan_leaves}
use Rattle.shop_machine.specs.Decisions.{first_of}
use Rattle.shop_machine.specs.Reserving.{plan_refusal, reserve_refusal, leaves_refusal, is_too_many}

pub has_leaves : (plan : Pattern) (leaves : List FoundLeaf) → leaves_in leaves ≡ plan_leaves plan → false ≡ nat_eq (length leaves) 0 → nat_eq (length (plan_leaves plan)) 0 ≡ false
has_leaves plan leaves same some = ap (λ n. nat_eq n 0) (ap length (sym same) ∙ length-map leaves (λ (f : FoundLeaf). f.leaf)) ∙ sym some

-- a tree with pieces, none of which is refused
pub plan_refused : (part : Part) (plan : Pattern) (at : ℕ → Option Demand) (act : ℕ) (many spent : Bool)
    → nat_eq (length (plan_leaves plan)) 0 ≡ false → leaves_refusal at part.material (plan_leaves plan) ≡ None → is_too_many at plan ≡ many → nat_lt MAX_NUMBERS act ≡ spent
    → plan_refusal part (Some plan) at act ≡ first_of ((many, TooMany) ∷ (spent, NumbersSpent) ∷ [])
plan_refused part plan at act many spent some none m n =
    ap (λ b. option_or (first_of ((b, BadTree) ∷ [])) (option_or (leaves_refusal at part.material (plan_leaves plan)) (first_of ((is_too_many at plan, TooMany) ∷ (nat_lt MAX_NUMBERS act, NumbersSpent) ∷ [])))) some
    ∙ ap (λ o. option_or o (first_of ((is_too_many at plan, TooMany) ∷ (nat_lt MAX_NUMBERS act, NumbersSpent) ∷ []))) none
    ∙ ap (λ b. first_of ((b, TooMany) ∷ (nat_lt MAX_NUMBERS act, NumbersSpent) ∷ [])) m
    ∙ ap (λ b. first_of ((many, TooMany) ∷ (b, NumbersSpent) ∷ [])) n

-- a reservation that isn't refused
pub reserve_allowed : (part : Part) (material : Option Material) (plan : Pattern) (at : ℕ → Option Demand) (act : ℕ) → is_free part.state ≡ true → is_some material ≡ true
    → plan_refusal part (Some plan) at act ≡ None → reserve_refusal (Some part) material (Some plan) at act ≡ None
reserve_allowed part material plan at act free known none =
    ap (λ b. option_or (first_of ((not b, NotStanding) ∷ (not (is_some material), StoreFault) ∷ [])) (plan_refusal part (Some plan) at act)) free
    ∙ ap (λ b. option_or (first_of ((not b, StoreFault) ∷ [])) (plan_refusal part (Some plan) at act)) known ∙ none
