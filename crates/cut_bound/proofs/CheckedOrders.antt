-- What a check of planned units reports.
use Rattle.std.proofs.Common.{◌≡◌, ℕ, ◌+◌, ◌<◌, ◌≤◌, ◌↔◌, List, [], ◌∷◌, ◌++◌, length, map, take, get_or, ap, sym, refl, subst, ◌∙◌, arith}
use Rattle.std.specs.Prelude.{IfErr, IfOk, Result, Ok, Err, ◌^◌, All, Contains, IsTrue}
use Rattle.std.proofs.lemmas.List.{map_more}
use Rattle.std.proofs.lemmas.List.Elements.{All-cons, All-contains, All-contains_itself, All-get_or, All-head, All-map, All-nil, All-tail, All-weaker}
use Rattle.cut_wants.specs.declared.wants.Want.{Want}
use Rattle.cut_bound.specs.declared.stock.StockSize.{StockSize}
use Rattle.cut_bound.specs.declared.planned.PlannedUnit.{PlannedUnit}
use Rattle.cut_bound.specs.declared.check.CheckedOrder.{CheckedOrder}
use Rattle.cut_bound.specs.declared.check.CheckFault.{CheckFault}
use Rattle.cut_bound.specs.declared.check.CheckFault.TheVariants.{BadPlan, NotAtHand, TooMany, TooCostly, NoMemory}
use Rattle.cut_bound.specs.Solutions.{Solution, AreAtHand, IsCostBound, MakesAll, cost_of, pieces_of}
use Rattle.cut_bound.specs.Planned.{IsCheapest, IsCheckFault, IsChecked, IsOrderPlan, IsPlannedUnit, MakesNoMore, solution_of, missing_of}
use Rattle.cut_bound.proofs.PlannedUnits.{are_cut}

-- the next of a list that is made from another
pub mapped_next : {A B : Type 0} (f : A → B) (xs : List A) (i : ℕ) (x : A) (ys zs : List B) (y : B) → i < length xs → x ≡ get_or xs i x → y ≡ f x → ys ≡ map f (take i xs)
    → zs ≡ ys ++ y ∷ [] → zs ≡ map f (take (i + 1) xs)
mapped_next f xs i x ys zs y lt is made before more =
    more ∙ ap (λ l. l ++ y ∷ []) before ∙ ap (λ z. map f (take i xs) ++ z ∷ []) (made ∙ ap f is) ∙ sym (map_more f xs i x lt)

pub All-mapped : {A B : Type 0} (P : B → Type 0) (f : A → B) (xs : List A) → All P (map f xs) → All (λ x. P (f x)) xs
All-mapped P f [] all = All-nil (λ x. P (f x))
All-mapped P f (x ∷ xs) all = All-cons (λ y. P (f y)) x xs (All-head P (f x) (map f xs) all) (All-mapped P f xs (All-tail P (f x) (map f xs) all))

-- nothing is missing exactly where all is made
pub none_missing : (wants : List Want) (us : Solution) (missing : List ℕ) → missing ≡ map (missing_of us) wants → All (λ number. number ≡ 0) missing ↔ MakesAll wants us
none_missing wants us missing is =
    let P = λ (x : Want). missing_of us x ≡ 0 in (
      λ all x has.
          let none : missing_of us x ≡ 0 = All-contains P wants x (All-mapped (λ n. n ≡ 0) (missing_of us) wants (subst (All (λ n. n ≡ 0)) is all)) has in
          omega (arith, none),
      λ makes.
          subst (All (λ n. n ≡ 0)) (sym is)
          (All-map (λ n. n ≡ 0) (missing_of us) wants (All-weaker (Contains wants) P (λ x has. omega (arith, makes x has)) wants (All-contains_itself wants))),
    )

pub checked_order : (wants : List Want) (k : ℕ) (sizes : List StockSize) (bound : ℕ) (us : List PlannedUnit) (c : CheckedOrder) → All (IsPlannedUnit wants k sizes) us
    → AreAtHand sizes (solution_of us) → MakesNoMore wants (solution_of us) → c.missing.items ≡ map (missing_of (solution_of us)) wants → c.cost ≡ cost_of sizes (solution_of us)
    → IsTrue c.proved ↔ ((c.cost ≡ bound) × All (λ number. number ≡ 0) c.missing.items) → IsChecked wants k sizes bound us c
checked_order wants k sizes bound us c planned at_hand no_more missing paid proved =
    let none = none_missing wants (solution_of us) c.missing.items missing in
    record {
      plan = record { planned = planned; at_hand = at_hand; no_more = no_more };
      cut = record { legal = are_cut wants k sizes us planned; at_hand = at_hand };
      missing_pieces = missing;
      adds_up =
          All-weaker (λ (x : Want). pieces_of (solution_of us) x.demand ≤ x.left) (λ (x : Want). pieces_of (solution_of us) x.demand + missing_of (solution_of us) x ≡ x.left)
          (λ x le. omega (arith, le)) wants no_more;
      paid = paid;
      proof = (λ reported. (none.0 (proved.0 reported).1, (proved.0 reported).0), λ both. proved.1 (both.1, none.1 both.0));
    }

pub cheapest_order : (wants : List Want) (k : ℕ) (sizes : List StockSize) (bound : ℕ) (us : List PlannedUnit) (c : CheckedOrder) → IsChecked wants k sizes bound us c
    → IsCostBound wants k sizes bound → IsTrue c.proved → IsCheapest wants k sizes (solution_of us)
cheapest_order wants k sizes bound us c is holds reported =
    let both = is.proof.0 reported in
    record { cut = is.cut; makes_all = both.0; least = λ solution cut makes. omega (arith, holds solution cut makes, both.1, is.paid) }

-- one of which it doesn't hold
pub fails_all : {A : Type 0} (P : A → Type 0) (xs : List A) (i : ℕ) (x : A) → i < length xs → x ≡ get_or xs i x → (P x → ⊥) → All P xs → ⊥
fails_all P xs i x lt is never all = never (subst P (sym is) (All-get_or P xs i x lt all))

-- what is proved of what a check reports
pub reported_cheapest : (wants : List Want) (k : ℕ) (sizes : List StockSize) (bound : ℕ) (us : List PlannedUnit) (r : Result CheckedOrder CheckFault) → IfOk r (IsChecked wants k sizes bound us)
    → IfOk r (λ c. IsCostBound wants k sizes bound → IsTrue c.proved → IsCheapest wants k sizes (solution_of us))
reported_cheapest wants k sizes bound us (Ok c) is = cheapest_order wants k sizes bound us c is
reported_cheapest wants k sizes bound us (Err f) is = tt

-- a plan of the order is refused only for its cost or because memory ran out
pub refused_plan : (wants : List Want) (k : ℕ) (sizes : List StockSize) (us : List PlannedUnit) (r : Result CheckedOrder CheckFault) → IfErr r (IsCheckFault wants k sizes us)
    → IsOrderPlan wants k sizes us → cost_of sizes (solution_of us) < 2 ^ 128 → IfErr r (λ f. f ≡ NoMemory)
refused_plan wants k sizes us (Ok c) fault is cheap = tt
refused_plan wants k sizes us (Err BadPlan) fault is cheap = absurd (fault is.planned)
refused_plan wants k sizes us (Err NotAtHand) fault is cheap = absurd (fault is.at_hand)
refused_plan wants k sizes us (Err TooMany) fault is cheap = absurd (fault is.no_more)
refused_plan wants k sizes us (Err TooCostly) fault is cheap = absurd (omega (arith, fault, cheap))
refused_plan wants k sizes us (Err NoMemory) fault is cheap = refl
