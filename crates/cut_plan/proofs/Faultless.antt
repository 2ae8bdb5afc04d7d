-- What the planners' tables need holds where no fault stands before them.
use Rattle.std.proofs.Common.{◌≡◌, ◌≢◌, ℕ, ◌+◌, ◌*◌, ◌^◌, ◌<◌, ◌≤◌, Bool, true, false, List, [], ◌∷◌, length, Some, None, Option, sym, refl, ap, suc, ◌∙◌, subst, inl, inr, arith}
use Rattle.std.specs.Prelude.{Contains, ◌||◌, not, nat_lt, ◌==◌, if◌then◌else◌}
use Rattle.std.specs.List.{list_any}
use Rattle.std.proofs.lemmas.Bool.{false≢true, ltb-false, eqb-false, eqb-true, not-false}
use Rattle.std.proofs.Math.Nat.{le_refl}
use Rattle.std.proofs.lemmas.Nat.{mul-le}
use Rattle.std.proofs.lemmas.List.Sums.{sum_by-cons}
use Rattle.cut_measure.specs.declared.ranges.TheConstants.{MAX_COUNT, MAX_WORTH}
use Rattle.cut_plan.specs.declared.faults.TheConstants.{MAX_WANTS}
use Rattle.cut_bars.specs.declared.bar.TheConstants.{MAX_BAR_LENGTH}
use Rattle.cut_sheets.specs.declared.sheet.TheConstants.{MAX_STEPS}
use Rattle.cut_measure.specs.declared.sizes.Kind.{Kind}
use Rattle.cut_measure.specs.declared.sizes.Kind.TheVariants.{Bar, Sheet}
use Rattle.cut_measure.specs.Measures.{Size}
use Rattle.cut_wants.specs.declared.wants.Want.{Want}
use Rattle.std.proofs.lemmas.Bool.Decides.{eqb_tells}
use Rattle.cut_tree.specs.Tree.{Tree}
use Rattle.cut_wants.specs.Legal.{HaveOwnDemands, Legal, IsWithinCounts, worth_of, of_demand}
use Rattle.cut_bars.specs.Counts.{AreUprightOfHeightOne, HaveBoundedWorthsAndLefts, AreCounts, worth_of_counts}
use Rattle.cut_sheets.specs.Bound.{worth_left}
use Rattle.cut_sheets.specs.Table.{HaveBoundedWorths}
use Rattle.cut_sheets.specs.Rounded.{IsStep, steps_down}
use Rattle.cut_wants.proofs.LeafSums.{Contains-cases, Contains-head, Contains-tail, of_demand_found}
use Rattle.cut_sheets.proofs.RoundedUp.{fitted}
use Rattle.cut_sheets.proofs.SheetSteps.{ceiling_holds}
use Rattle.cut_plan.specs.Bounds.{IsUnitBest}
use Rattle.cut_plan.specs.declared.faults.PlanFault.{PlanFault}
use Rattle.cut_plan.specs.Faults.{is_bad_number, is_bad_want, has_twice, are_bad_wants, is_short, is_bad_step, is_large, plan_fault, SomeFits}

-- neither of two tests holds
neither : (a b : Bool) → (a || b) ≡ false → (a ≡ false) × (b ≡ false)
neither true b e = absurd (false≢true (sym e))
neither false b e = (refl, e)

none_of : (p : Want → Bool) (xs : List Want) → list_any p xs ≡ false → (x : Want) → Contains xs x → p x ≡ false
none_of p [] e x has = absurd (omega (arith, has.1))
none_of p (y ∷ ys) e x has =
    let n = neither (p y) (list_any p ys) e in
    elim (Contains-cases y ys x has) [
      | inl same ↦ subst (λ z. p z ≡ false) same n.0
      | inr h ↦ none_of p ys n.1 x h
    ]

own_demands : (xs : List Want) → has_twice xs ≡ false → HaveOwnDemands xs
own_demands [] e = tt
own_demands (x ∷ xs) e =
    let n = neither (list_any (λ y. y.demand == x.demand) xs) (has_twice xs) e in
    ((λ y has q. eqb-false y.demand x.demand (none_of (λ y. y.demand == x.demand) xs n.0 y has) q), own_demands xs n.1)

-- a choice that gives nothing
past : (b : Bool) (f : PlanFault) (o : Option PlanFault) → (if b then Some f else o) ≡ None → (b ≡ false) × (o ≡ None)
past true f o e = absurd (cc)
past false f o e = (refl, e)

-- no fault stands before the tables
pub record Faultless (kind : Kind) (size : Size) (k s : ℕ) (wants : List Want) : Type 0 where
  pub in_range : are_bad_wants MAX_WANTS kind wants ≡ false
  pub stepped : is_bad_step kind k s wants ≡ false
  pub small : is_large kind size k s ≡ false

pub faultless : (kind : Kind) (size : Size) (k s : ℕ) (wants : List Want) → plan_fault kind size k s wants ≡ None → Faultless kind size k s wants
faultless kind size k s wants e =
    let a = past (are_bad_wants MAX_WANTS kind wants) _ _ e in
    let b = past (is_bad_step kind k s wants) _ _ a.1 in
    let c = past (is_large kind size k s) _ _ b.1 in
    record { in_range = a.0; stepped = b.0; small = c.0 }

pub record IsInRange (x : Want) : Type 0 where
  pub worth : (1 ≤ x.worth) × (x.worth ≤ MAX_WORTH)
  pub left : (1 ≤ x.left) × (x.left ≤ MAX_COUNT)

in_range : (x : Want) → is_bad_number x ≡ false → IsInRange x
in_range x e =
    let a = neither (x.worth == 0 || nat_lt MAX_WORTH x.worth || x.left == 0) (nat_lt MAX_COUNT x.left) e in
    let b = neither (x.worth == 0 || nat_lt MAX_WORTH x.worth) (x.left == 0) a.0 in
    let c = neither (x.worth == 0) (nat_lt MAX_WORTH x.worth) b.0 in
    let worth : x.worth ≢ 0 = eqb-false x.worth 0 c.0 in
    let left : x.left ≢ 0 = eqb-false x.left 0 b.1 in
    let most : x.worth ≤ MAX_WORTH = ltb-false MAX_WORTH x.worth c.1 in
    let many : x.left ≤ MAX_COUNT = ltb-false MAX_COUNT x.left a.1 in
    record { worth = (omega arith, most); left = (omega arith, many) }

pub own : (most : ℕ) (kind : Kind) (wants : List Want) → are_bad_wants most kind wants ≡ false → HaveOwnDemands wants
own most kind wants e =
    let a = neither (length wants == 0 || nat_lt most (length wants) || has_twice wants) (list_any (is_bad_want kind) wants) e in
    let b = neither (length wants == 0 || nat_lt most (length wants)) (has_twice wants) a.0 in
    own_demands wants b.1

pub few : (most : ℕ) (kind : Kind) (wants : List Want) → are_bad_wants most kind wants ≡ false → length wants ≤ most
few most kind wants e =
    let a = neither (length wants == 0 || nat_lt most (length wants) || has_twice wants) (list_any (is_bad_want kind) wants) e in
    let b = neither (length wants == 0 || nat_lt most (length wants)) (has_twice wants) a.0 in
    let c = neither (length wants == 0) (nat_lt most (length wants)) b.0 in
    ltb-false most (length wants) c.1

good : (most : ℕ) (kind : Kind) (wants : List Want) → are_bad_wants most kind wants ≡ false → (x : Want) → Contains wants x → is_bad_want kind x ≡ false
good most kind wants e x has =
    let a = neither (length wants == 0 || nat_lt most (length wants) || has_twice wants) (list_any (is_bad_want kind) wants) e in
    none_of (is_bad_want kind) wants a.1 x has

pub ranges : (most : ℕ) (kind : Kind) (wants : List Want) → are_bad_wants most kind wants ≡ false → (x : Want) → Contains wants x → IsInRange x
ranges most Sheet wants e x has = in_range x (good most Sheet wants e x has)
ranges most Bar wants e x has =
    let a = neither (is_bad_number x || not (x.size.h == 1)) x.may_turn (good most Bar wants e x has) in
    in_range x (neither (is_bad_number x) (not (x.size.h == 1)) a.0).0

pub flat : (most : ℕ) (wants : List Want) → are_bad_wants most Bar wants ≡ false → AreUprightOfHeightOne wants
flat most wants e = λ x has.
    let a = neither (is_bad_number x || not (x.size.h == 1)) x.may_turn (good most Bar wants e x has) in
    let b = neither (is_bad_number x) (not (x.size.h == 1)) a.0 in
    record { flat = eqb-true x.size.h 1 (not-false (x.size.h == 1) b.1); upright = a.1 }

pub modest : (most : ℕ) (kind : Kind) (wants : List Want) → are_bad_wants most kind wants ≡ false → HaveBoundedWorthsAndLefts wants
modest most kind wants e = λ x has. let r = ranges most kind wants e x has in record { worth = omega (arith, r.worth); left = omega (arith, r.left) }

pub worthy : (most : ℕ) (kind : Kind) (wants : List Want) → are_bad_wants most kind wants ≡ false → HaveBoundedWorths wants
worthy most kind wants e = λ x has. let r = ranges most kind wants e x has in omega (arith, r.worth)

pub is_step : (k s : ℕ) (wants : List Want) → is_bad_step Sheet k s wants ≡ false → IsStep k s wants
is_step k s wants e =
    let a = neither (s == 0) (list_any (is_short k s) wants) e in
    let some : s ≢ 0 = eqb-false s 0 a.0 in
    record {
      some = omega arith;
      within = λ x has.
          let b = neither (nat_lt (x.size.w + k) s) (nat_lt (x.size.h + k) s) (none_of (is_short k s) wants a.1 x has) in
          (ltb-false (x.size.w + k) s b.0, ltb-false (x.size.h + k) s b.1);
    }

pub few_steps : (size : Size) (k s : ℕ) → is_large Sheet size k s ≡ false → (steps_down k s size.w ≤ MAX_STEPS) × (steps_down k s size.h ≤ MAX_STEPS)
few_steps size k s e =
    let a = neither (nat_lt MAX_STEPS (steps_down k s size.w)) (nat_lt MAX_STEPS (steps_down k s size.h)) e in
    (ltb-false MAX_STEPS (steps_down k s size.w) a.0, ltb-false MAX_STEPS (steps_down k s size.h) a.1)

pub short : (size : Size) (k s : ℕ) → is_large Bar size k s ≡ false → size.w ≤ MAX_BAR_LENGTH
short size k s e = ltb-false MAX_BAR_LENGTH size.w e

pub left_small : (xs : List Want) → ((x : Want) → Contains xs x → IsInRange x) → worth_left xs ≤ length xs * 1000000000000000
left_small [] r = omega arith
left_small (x ∷ xs) r =
    let here = r x (Contains-head x xs) in
    let most = mul-le x.worth x.left MAX_WORTH MAX_COUNT (omega (arith, here.worth)) (omega (arith, here.left)) in
    let there = left_small xs (λ y h. r y (Contains-tail x xs y h)) in
    omega (arith, sum_by-cons (λ (y : Want). y.worth * y.left) x xs)

-- all that is left is worth less than 2^62
pub left_fits : (kind : Kind) (wants : List Want) → are_bad_wants MAX_WANTS kind wants ≡ false → worth_left wants < 2 ^ 62
left_fits kind wants e = omega (arith, left_small wants (ranges MAX_WANTS kind wants e), few MAX_WANTS kind wants e)

pub value_left : (xs : List Want) (counts : List ℕ) → AreCounts xs counts → worth_of_counts xs counts ≤ worth_left xs
value_left [] [] is = omega arith
value_left [] (a ∷ ns) is = absurd is
value_left (x ∷ xs) [] is = absurd is
value_left (x ∷ xs) (a ∷ ns) is =
    omega (arith, mul-le x.worth a x.worth x.left (le_refl x.worth) is.0, value_left xs ns is.1, sum_by-cons (λ (y : Want). y.worth * y.left) x xs)

pub counts_length : (xs : List Want) (counts : List ℕ) → AreCounts xs counts → length counts ≡ length xs
counts_length [] [] is = refl
counts_length [] (a ∷ ns) is = absurd is
counts_length (x ∷ xs) [] is = absurd is
counts_length (x ∷ xs) (a ∷ ns) is = ap suc (counts_length xs ns is.1)

-- the best worth is at least 1 where something fits
pub some_worth : (kind : Kind) (size : Size) (k s : ℕ) (wants : List Want) (best : ℕ) → are_bad_wants MAX_WANTS kind wants ≡ false → SomeFits size wants
    → ((t : Tree) → Legal wants k t size.w size.h → IsWithinCounts wants t → worth_of wants t ≤ best) → 1 ≤ best
some_worth kind size k s wants best e fit each =
    let x = fit.want in
    let r = ranges MAX_WANTS kind wants e x fit.there in
    let p = fitted k wants x size.w size.h fit.there fit.wide fit.tall fit.fits in
    let worth = p.sums (of_demand (λ y. y.worth) wants) ∙ of_demand_found (λ y. y.worth) wants x (own MAX_WANTS kind wants e) fit.there in
    let within : IsWithinCounts wants p.tree = λ d.
    elim (eqb_tells x.demand d) [
      | inl (t, same) ↦
          let left = ap (of_demand (λ y. y.left) wants) (sym same) ∙ of_demand_found (λ y. y.left) wants x (own MAX_WANTS kind wants e) fit.there in
          let one = p.sums (λ f. if f == d then 1 else 0) in
          omega (arith, one, rw t at one, left, r.left)
      | inr (t, other) ↦
          let none = p.sums (λ f. if f == d then 1 else 0) in
          omega (arith, rw t at none)
    ] in
    omega (arith, each p.tree p.legal within, worth, r.worth)

-- no legal tree within the counts is worth more than a unit's best
pub unit_most : (kind : Kind) (size : Size) (k s : ℕ) (wants : List Want) (best : ℕ) → is_bad_step kind k s wants ≡ false → IsUnitBest kind size k s wants best
    → (t : Tree) → Legal wants k t size.w size.h → IsWithinCounts wants t → worth_of wants t ≤ best
unit_most Bar size k s wants best e b t l within = b.most t (l, within)
unit_most Sheet size k s wants best e b t l within = ceiling_holds wants k s size.w size.h best (is_step k s wants e) b t l
