-- The answer by its parts.
use Rattle.std.proofs.Common.{◌≡◌, ℕ, ◌≤◌, List, Bool, true, false, refl, subst, sym, arith}
use Rattle.std.specs.Prelude.{MatchOption, Result, Ok, Err, if◌then◌else◌}
use Rattle.std.specs.Cmp.{IsTotalOrder, nat_cmp_total, on_total, then_total}
use Rattle.std.specs.Cmp.Lexicographic.{nat_list_cmp_total}
use Rattle.std.specs.List.Sorted.{IsNonDecreasingBy, IsPermutation}
use Rattle.std.proofs.lemmas.List.Sums.{sum_by-le-sum_by}
use Rattle.cut_wants.specs.declared.wants.Want.{Want}
use Rattle.cut_bound.specs.declared.planned.PlannedUnit.{PlannedUnit}
use Rattle.cut_order.specs.Places.{unit_count}
use Rattle.shop_records.specs.declared.refusals.Refusal.{Refusal}
use Rattle.shop_records.specs.Content.{Content}
use Rattle.shop_plans.specs.declared.answers.MissingPieces.{MissingPieces}
use Rattle.shop_plans.specs.declared.queries.PlansQuery.{PlansQuery}
use Rattle.shop_planning.specs.declared.instance.PlanInstance.{PlanInstance}
use Rattle.shop_planning.specs.declared.response.Entry.{Entry}
use Rattle.shop_planning.specs.Answers.{AreReportedMissing, IsPlansText, missing_rows}
use Rattle.shop_planning.specs.Entries.{in_order}
use Rattle.shop_planning.specs.Queries.{AnswersPlans, IsQueryAnswered, IsInstance}
use Rattle.shop_planning.specs.Shares.{are_alike, times_of}

-- by places and then by texts is an order
pub in_order_total : IsTotalOrder in_order
in_order_total = then_total (on_total (λ (e : Entry). e.place) nat_cmp_total) (on_total (λ (e : Entry). e.reported.tree) nat_list_cmp_total)

pub missing_reported : (wants : List Want) (missing : List ℕ) (rows sorted reported : List MissingPieces) → rows ≡ missing_rows wants missing → IsPermutation rows sorted
    → IsNonDecreasingBy (λ (row : MissingPieces). row.demand) sorted → reported ≡ sorted → AreReportedMissing wants missing reported
missing_reported wants missing rows sorted reported made moved rising is =
    record {
      all = subst (IsPermutation (missing_rows wants missing)) (sym is) (subst (λ l. IsPermutation l sorted) made moved);
      rising = subst (IsNonDecreasingBy (λ (row : MissingPieces). row.demand)) (sym is) rising;
    }

-- an answer that is reported
pub answer_reported : (m : Content) (q : PlansQuery) (instance : PlanInstance) (text : List ℕ) → IsInstance m q instance → IsPlansText instance text → AnswersPlans m q (Ok text)
answer_reported m q instance text asks reported n s =
    let is : IsQueryAnswered m q (Ok text) = record { instance = instance; asks = asks; text = text; reported = reported; is = refl } in
    subst (λ o. MatchOption o (IsQueryAnswered m q (Ok text)) (λ x. let answer : Result (List ℕ) Refusal = Ok text in answer ≡ Err x)) (sym asks.allowed) is

-- no more are planned like one than there are
pub times_within : (units : List PlannedUnit) (u : PlannedUnit) → times_of units u ≤ unit_count units
times_within units u = sum_by-le-sum_by (λ v. if are_alike u v then v.times else 0) (λ v. v.times) units (λ v. by (are_alike u v) v.times)
  where
    by : (b : Bool) (n : ℕ) → (if b then n else 0) ≤ n
    by true n = omega arith
    by false n = omega arith
