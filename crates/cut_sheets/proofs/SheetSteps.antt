-- Between a sheet with kerf and the same sheet in steps.
use Rattle.std.proofs.Common.{◌≡◌, ℕ, ◌+◌, ◌-◌, ◌*◌, ◌/◌, ◌%◌, ◌<◌, ◌≤◌, true, false, cond, eqb, List, [], ◌∷◌, length, refl, ap, ◌∙◌, subst, inl, inr, arith}
use Rattle.std.specs.Prelude.{Contains, min}
use Rattle.std.specs.Int.{div_ceil}
use Rattle.std.specs.List.{list_all}
use Rattle.std.proofs.lemmas.Bool.{cases_lt, and_parts, eqb-true}
use Rattle.std.proofs.lemmas.Nat.{mul-le}
use Rattle.std.proofs.Math.Nat.{le_refl, lt-div-mul-add, div-mul-le_self, le-div_iff_mul-le}
use Rattle.cut_wants.specs.declared.wants.Want.{Want}
use Rattle.cut_tree.specs.Tree.{Tree, leaf_sum, Rest, Piece, Trim, Cut}
use Rattle.cut_measure.specs.declared.sizes.Axis.TheVariants.{X, Y}
use Rattle.cut_wants.specs.Legal.{IsWantedPiece, Legal, of_demand, worth_of, HaveOwnDemands}
use Rattle.cut_sheets.specs.Table.{HaveBoundedWorths, HaveSidesAndBoundedWorths, HaveSides}
use Rattle.cut_wants.specs.Best.{IsBestOf}
use Rattle.cut_sheets.specs.Rounded.{steps_down, steps_up, want_up, want_down, wants_down, wants_up, IsStep, is_exact}
use Rattle.std.proofs.Common.{take, get_or, ◌++◌, sym}
use Rattle.std.proofs.lemmas.List.{map-append}
use Rattle.std.proofs.lemmas.List.{take_more}
use Rattle.std.proofs.lemmas.List.Elements.{Contains-get_or}
use Rattle.cut_sheets.proofs.RoundedUp.{up_from, up_holds}
use Rattle.cut_wants.proofs.LeafSums.{Contains-cases, Contains-head, Contains-tail}

down_has : (k s : ℕ) (xs : List Want) (x : Want) → Contains xs x → Contains (wants_down k s xs) (want_down k s x)
down_has k s [] x has = absurd (omega (arith, has.1))
down_has k s (y ∷ ys) x has =
    elim (Contains-cases y ys x has) [
      | inl e ↦ subst (λ z. Contains (wants_down k s (y ∷ ys)) (want_down k s z)) e (Contains-head (want_down k s y) (wants_down k s ys))
      | inr h ↦ Contains-tail (want_down k s y) (wants_down k s ys) (want_down k s x) (down_has k s ys x h)
    ]

pub down_worth : (k s : ℕ) (xs : List Want) (d : ℕ) → of_demand (λ x. x.worth) (wants_down k s xs) d ≡ of_demand (λ x. x.worth) xs d
down_worth k s [] d = refl
down_worth k s (x ∷ xs) d = ap (λ n. cond (eqb x.demand d) x.worth n) (down_worth k s xs d)

pub leaf_sum-same : (f g : ℕ → ℕ) (t : Tree) → ((d : ℕ) → f d ≡ g d) → leaf_sum f t ≡ leaf_sum g t
leaf_sum-same f g Rest same = refl
leaf_sum-same f g (Piece d t) same = same d
leaf_sum-same f g (Trim X a t) same = leaf_sum-same f g t same
leaf_sum-same f g (Trim Y a t) same = leaf_sum-same f g t same
leaf_sum-same f g (Cut X a t u) same = omega (arith, leaf_sum-same f g t same, leaf_sum-same f g u same)
leaf_sum-same f g (Cut Y a t u) same = omega (arith, leaf_sum-same f g t same, leaf_sum-same f g u same)

scaled : (p a s : ℕ) → a ≤ p → (p - a - 0) * s + a * s ≡ p * s
scaled p a s le = let e : (p - a - 0) + a ≡ p = omega arith in omega (arith, ap (λ n. n * s) e)

-- nothing fits into less than a step
narrow : (wants : List Want) (k s : ℕ) (f : ℕ → ℕ) (t : Tree) (w h : ℕ) → IsStep k s wants → Legal wants k t w h → w + k < s → leaf_sum f t ≡ 0
narrow wants k s f Rest w h st l lt = refl
narrow wants k s f (Piece d false) w h st l lt = absurd (omega (arith, (st.within l.0 l.1).0, l.3.0))
narrow wants k s f (Piece d true) w h st l lt = absurd (omega (arith, (st.within l.0 l.1).1, l.3.1))
narrow wants k s f (Trim X a t) w h st l lt = narrow wants k s f t a h st l.3 (omega (arith, l.1))
narrow wants k s f (Trim Y a t) w h st l lt = narrow wants k s f t w a st l.3 lt
narrow wants k s f (Cut X a t u) w h st l lt = omega (arith, narrow wants k s f t a h st l.2 (omega (arith, l.1)), narrow wants k s f u (w - a - k) h st l.3 (omega arith))
narrow wants k s f (Cut Y a t u) w h st l lt = omega (arith, narrow wants k s f t w a st l.2 lt, narrow wants k s f u w (h - a - k) st l.3 lt)

flat : (wants : List Want) (k s : ℕ) (f : ℕ → ℕ) (t : Tree) (w h : ℕ) → IsStep k s wants → Legal wants k t w h → h + k < s → leaf_sum f t ≡ 0
flat wants k s f Rest w h st l lt = refl
flat wants k s f (Piece d false) w h st l lt = absurd (omega (arith, (st.within l.0 l.1).1, l.3.1))
flat wants k s f (Piece d true) w h st l lt = absurd (omega (arith, (st.within l.0 l.1).0, l.3.2))
flat wants k s f (Trim X a t) w h st l lt = flat wants k s f t a h st l.3 lt
flat wants k s f (Trim Y a t) w h st l lt = flat wants k s f t w a st l.3 (omega (arith, l.1))
flat wants k s f (Cut X a t u) w h st l lt = omega (arith, flat wants k s f t a h st l.2 lt, flat wants k s f u (w - a - k) h st l.3 lt)
flat wants k s f (Cut Y a t u) w h st l lt = omega (arith, flat wants k s f t w a st l.2 (omega (arith, l.1)), flat wants k s f u w (h - a - k) st l.3 (omega arith))

-- a tree in steps, whose leaves weigh at least n
abbrev Weighs : List Want → (ℕ → ℕ) → ℕ → ℕ → ℕ → Type 0
Weighs wants f p q n = (t : Tree) × Legal wants 0 t p q × (n ≤ leaf_sum f t)

grown : (wants : List Want) (f : ℕ → ℕ) (t : Tree) (p' q' p q n : ℕ) → Legal wants 0 t p' q' → n ≤ leaf_sum f t → 1 ≤ p' → 1 ≤ q' → p' ≤ p → q' ≤ q → Weighs wants f p q n
grown wants f t p' q' p q n l le one one' ps qs =
    elim (cases_lt q' q) [
      | inl lt ↦ wide (Cut Y q' t Rest) (one', omega arith, l, tt) (omega arith)
      | inr ge ↦ let e : q' ≡ q = omega arith in wide t (subst (λ m. Legal wants 0 t p' m) e l) le
    ]
  where
    wide : (u : Tree) → Legal wants 0 u p' q → n ≤ leaf_sum f u → Weighs wants f p q n
    wide u lu leu = elim (cases_lt p' p) [
      | inl lt ↦ (Cut X p' u Rest, (one, omega arith, lu, tt), omega arith)
      | inr ge ↦ let e : p' ≡ p = omega arith in (u, subst (λ m. Legal wants 0 u m q) e lu, leu)
    ]

below_steps : (k s l w p : ℕ) → 1 ≤ s → l ≡ w → w + k < (p + 1) * s → steps_down k s l ≤ p
below_steps k s l w p pos e lt =
    elim (cases_lt p ((l + k) / s)) [
      | inl more ↦
          let more' : p + 1 ≤ (l + k) / s = omega arith in
          absurd (omega (arith, mul-le (p + 1) s ((l + k) / s) s more' (le_refl s), div-mul-le_self (l + k) s))
      | inr le ↦ le
    ]

some_steps : (k s l : ℕ) → 1 ≤ s → s ≤ l + k → 1 ≤ steps_down k s l
some_steps k s l pos le = (le-div_iff_mul-le {k = s} {x = 1} {y = l + k} pos).1 (omega arith)

-- a legal tree becomes one in steps, of no less weight
pub round_down : (wants : List Want) (k s : ℕ) (f : ℕ → ℕ) → IsStep k s wants → (t : Tree) (w h p q : ℕ) → Legal wants k t w h → w + k < (p + 1) * s → h + k < (q + 1) * s
    → Weighs (wants_down k s wants) f p q (leaf_sum f t)
round_down wants k s f st Rest w h p q l wp hq = (Rest, tt, omega arith)
round_down wants k s f st (Piece d false) w h p q l wp hq =
    let x = l.0 in
    let is : IsWantedPiece (wants_down k s wants) d false (steps_down k s x.size.w) (steps_down k s x.size.h) = (want_down k s x, down_has k s wants x l.1, l.2, (refl, refl)) in
    grown (wants_down k s wants) f (Piece d false) (steps_down k s x.size.w) (steps_down k s x.size.h) p q (f d) is (le_refl (f d))
    (some_steps k s x.size.w st.some (st.within x l.1).0) (some_steps k s x.size.h st.some (st.within x l.1).1)
    (below_steps k s x.size.w w p st.some l.3.0 wp) (below_steps k s x.size.h h q st.some l.3.1 hq)
round_down wants k s f st (Piece d true) w h p q l wp hq =
    let x = l.0 in
    let is : IsWantedPiece (wants_down k s wants) d true (steps_down k s x.size.h) (steps_down k s x.size.w) = (want_down k s x, down_has k s wants x l.1, l.2, (l.3.0, refl, refl)) in
    grown (wants_down k s wants) f (Piece d true) (steps_down k s x.size.h) (steps_down k s x.size.w) p q (f d) is (le_refl (f d))
    (some_steps k s x.size.h st.some (st.within x l.1).1) (some_steps k s x.size.w st.some (st.within x l.1).0)
    (below_steps k s x.size.h w p st.some l.3.1 wp) (below_steps k s x.size.w h q st.some l.3.2 hq)
round_down wants k s f st (Trim X a t) w h p q l wp hq = round_down wants k s f st t a h p q l.3 (omega (arith, l.1)) hq
round_down wants k s f st (Trim Y a t) w h p q l wp hq = round_down wants k s f st t w a p q l.3 wp (omega (arith, l.1))
round_down wants k s f st (Cut X a t u) w h p q l wp hq =
    let low : (a + k) / s * s ≤ a + k = div-mul-le_self (a + k) s in
    let high : a + k < (a + k) / s * s + s = lt-div-mul-add st.some in
    elim (cases_lt 0 ((a + k) / s)) [
      | inr none ↦
          let z : (a + k) / s ≡ 0 = omega arith in
          let gone = narrow wants k s f t a h st l.2 (omega (arith, ap (λ n. n * s) z)) in
          let v = round_down wants k s f st u (w - a - k) h p q l.3 (omega (arith, l.1)) hq in
          (v.0, v.1, omega (arith, v.2, gone))
      | inl some ↦ elim (cases_lt ((a + k) / s) p) [
        | inl lt ↦
            let sc = scaled p ((a + k) / s) s (omega arith) in
            let v = round_down wants k s f st t a h ((a + k) / s) q l.2 (omega arith) hq in
            let v' = round_down wants k s f st u (w - a - k) h (p - (a + k) / s - 0) q l.3 (omega (arith, l.1)) hq in
            (Cut X ((a + k) / s) v.0 v'.0, (some, omega arith, v.1, v'.1), omega (arith, v.2, v'.2))
        | inr ge ↦
            let over = mul-le p s ((a + k) / s) s ge (le_refl s) in
            let gone = narrow wants k s f u (w - a - k) h st l.3 (omega (arith, l.1)) in
            let v = round_down wants k s f st t a h p q l.2 (omega (arith, l.1)) hq in
            (v.0, v.1, omega (arith, v.2, gone))
      ]
    ]
round_down wants k s f st (Cut Y a t u) w h p q l wp hq =
    let low : (a + k) / s * s ≤ a + k = div-mul-le_self (a + k) s in
    let high : a + k < (a + k) / s * s + s = lt-div-mul-add st.some in
    elim (cases_lt 0 ((a + k) / s)) [
      | inr none ↦
          let z : (a + k) / s ≡ 0 = omega arith in
          let gone = flat wants k s f t w a st l.2 (omega (arith, ap (λ n. n * s) z)) in
          let v = round_down wants k s f st u w (h - a - k) p q l.3 wp (omega (arith, l.1)) in
          (v.0, v.1, omega (arith, v.2, gone))
      | inl some ↦ elim (cases_lt ((a + k) / s) q) [
        | inl lt ↦
            let sc = scaled q ((a + k) / s) s (omega arith) in
            let v = round_down wants k s f st t w a p ((a + k) / s) l.2 wp (omega arith) in
            let v' = round_down wants k s f st u w (h - a - k) p (q - (a + k) / s - 0) l.3 wp (omega (arith, l.1)) in
            (Cut Y ((a + k) / s) v.0 v'.0, (some, omega arith, v.1, v'.1), omega (arith, v.2, v'.2))
        | inr ge ↦
            let over = mul-le q s ((a + k) / s) s ge (le_refl s) in
            let gone = flat wants k s f u w (h - a - k) st l.3 (omega (arith, l.1)) in
            let v = round_down wants k s f st t w a p q l.2 wp (omega (arith, l.1)) in
            (v.0, v.1, omega (arith, v.2, gone))
      ]
    ]

-- no legal tree is worth more than the best of the problem rounded down
pub ceiling_holds : (wants : List Want) (k s w h best : ℕ) → IsStep k s wants → IsBestOf (wants_down k s wants) 0 (steps_down k s w) (steps_down k s h) best
    → (t : Tree) → Legal wants k t w h → worth_of wants t ≤ best
ceiling_holds wants k s w h best st b t l =
    let high : w + k < (w + k) / s * s + s = lt-div-mul-add st.some in
    let high' : h + k < (h + k) / s * s + s = lt-div-mul-add st.some in
    let v = round_down wants k s (of_demand (λ x. x.worth) wants) st t w h ((w + k) / s) ((h + k) / s) l (omega arith) (omega arith) in
    omega (arith, v.2, b.most v.0 v.1, leaf_sum-same (of_demand (λ x. x.worth) (wants_down k s wants)) (of_demand (λ x. x.worth) wants) v.0 (down_worth k s wants))

down_from : (k s : ℕ) (xs : List Want) (y : Want) → Contains (wants_down k s xs) y → (x : Want) × Contains xs x × (want_down k s x ≡ y)
down_from k s [] y has = absurd (omega (arith, has.1))
down_from k s (x ∷ xs) y has =
    elim (Contains-cases (want_down k s x) (wants_down k s xs) y has) [
      | inl e ↦ (x, Contains-head x xs, e)
      | inr h ↦ let r = down_from k s xs y h in (r.0, Contains-tail x xs r.0 r.1, r.2)
    ]

pub down_own : (k s : ℕ) (xs : List Want) → HaveOwnDemands xs → HaveOwnDemands (wants_down k s xs)
down_own k s [] own = tt
down_own k s (x ∷ xs) own =
    (λ y h e. let r = down_from k s xs y h in own.0 r.0 r.1 (ap (λ (z : Want). z.demand) r.2 ∙ e), down_own k s xs own.1)

pub down_small : (k s : ℕ) (xs : List Want) → IsStep k s xs → HaveBoundedWorths xs → HaveSidesAndBoundedWorths (wants_down k s xs)
down_small k s xs st range = λ y h.
    let r = down_from k s xs y h in
    let a = some_steps k s r.0.size.w st.some (st.within r.0 r.1).0 in
    let b = some_steps k s r.0.size.h st.some (st.within r.0 r.1).1 in
    (omega (arith, a, ap (λ (z : Want). z.size.w) r.2), omega (arith, b, ap (λ (z : Want). z.size.h) r.2), omega (arith, range r.0 r.1, ap (λ (z : Want). z.worth) r.2))

pub up_own : (k s : ℕ) (xs : List Want) → HaveOwnDemands xs → HaveOwnDemands (wants_up k s xs)
up_own k s [] own = tt
up_own k s (x ∷ xs) own = ((λ y has. let r = up_from k s xs y has in λ e. own.0 r.0 r.1 (ap (λ (z : Want). z.demand) r.2 ∙ e)), up_own k s xs own.1)

some_up : (k s l : ℕ) → 1 ≤ s → 1 ≤ l → 1 ≤ steps_up k s l
some_up k s l pos one =
    let h = up_holds k s l pos in
    elim (cases_lt 0 (steps_up k s l)) [
      | inl some ↦ omega arith
      | inr none ↦ let z : steps_up k s l ≡ 0 = omega arith in absurd (omega (arith, h, ap (λ n. n * s) z))
    ]

pub up_small : (k s : ℕ) (xs : List Want) → 1 ≤ s → HaveSides xs → HaveBoundedWorths xs → HaveSidesAndBoundedWorths (wants_up k s xs)
up_small k s xs pos sides worthy = λ y h.
    let r = up_from k s xs y h in
    let sd = sides r.0 r.1 in
    let a = some_up k s r.0.size.w pos sd.0 in
    let b = some_up k s r.0.size.h pos sd.1 in
    (omega (arith, a, ap (λ (z : Want). z.size.w) r.2), omega (arith, b, ap (λ (z : Want). z.size.h) r.2), omega (arith, worthy r.0 r.1, ap (λ (z : Want). z.worth) r.2))

-- the units of a table lie inside a sheet and a kerf
pub steps_inside : (k s l : ℕ) → steps_down k s l * s ≤ l + k
steps_inside k s l = div-mul-le_self (l + k) s

pub step_at : (k s : ℕ) (xs : List Want) (i : ℕ) (d : Want) → IsStep k s xs → i < length xs → s ≤ (get_or xs i d).size.w + k
step_at k s xs i d st lt = (st.within (get_or xs i d) (Contains-get_or xs i d lt)).0

pub ups_more : (k s : ℕ) (xs : List Want) (i : ℕ) (d y : Want) (items pushed : List Want) → i < length xs → items ≡ wants_up k s (take i xs) → pushed ≡ items ++ y ∷ []
    → y ≡ want_up k s (get_or xs i d) → pushed ≡ wants_up k s (take (i + 1) xs)
ups_more k s xs i d y items pushed lt is push e =
    push ∙ ap (λ l. l ++ y ∷ []) is ∙ ap (λ z. wants_up k s (take i xs) ++ z ∷ []) e
    ∙ sym (ap (wants_up k s) (take_more xs i d lt) ∙ map-append (want_up k s) (take i xs) (get_or xs i d ∷ []))

-- whole steps rounded up are what they are rounded down
whole_up : (n s : ℕ) → n % s ≡ 0 → div_ceil n s ≡ n / s
whole_up n s none = let no_more : min 1 (n % s) ≡ 0 = ap (min 1) none in omega (arith, no_more)

pub exact_wants : (k s : ℕ) (wants : List Want) → 1 ≤ s → list_all (is_exact k s) wants ≡ true → wants_up k s wants ≡ wants_down k s wants
exact_wants k s [] some exact = refl
exact_wants k s (x ∷ xs) some exact =
    let here = and_parts (is_exact k s x) (list_all (is_exact k s) xs) exact in
    let sides = and_parts (eqb ((x.size.w + k) % s) 0) (eqb ((x.size.h + k) % s) 0) here.0 in
    ap (λ w. record x { size = record { w = w; h = steps_up k s x.size.h } } ∷ wants_up k s xs) (whole_up (x.size.w + k) s (eqb-true _ _ sides.0))
    ∙ ap (λ h. record x { size = record { w = steps_down k s x.size.w; h = h } } ∷ wants_up k s xs) (whole_up (x.size.h + k) s (eqb-true _ _ sides.1))
    ∙ ap (λ ys. want_down k s x ∷ ys) (exact_wants k s xs some here.1)
