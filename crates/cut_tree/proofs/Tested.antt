-- The test of a halt passes exactly the halts that are allowed.
use Rattle.std.proofs.Common.{◌≡◌, ◌+◌, ◌<◌, ◌⊎◌, ◌↔◌, ◌∙◌, ◌&&◌, ◌||◌, ◌==◌, not, ℕ, zero, suc, Bool, true, false, IsTrue, List, [], ◌∷◌, length, All, Option, Some, None, IfSome, refl, sym, ap, subst, inl, inr, arith, nat_lt, nat_le}
use Rattle.std.specs.List.{list_all, slice_index}
use Rattle.std.specs.Cmp.Derive.{both_true}
use Rattle.std.proofs.lemmas.Bool.{true≢false, and_parts, or_cases, or_left, or_right, eqb-true, eq-eqb, ltb-true, lt-ltb, leb-true, le-leb, not_from_false, false_from_ne_true}
use Rattle.std.specs.List.Sorted.{IsStrictlyIncreasing}
use Rattle.cut_measure.specs.Measures.{below}
use Rattle.cut_tree.specs.declared.halts.Halt.{Halt}
use Rattle.cut_tree.specs.declared.halts.Halt.TheVariants.{First, Listed}
use Rattle.cut_tree.specs.Tree.{Tree, Piece, Rest, Trim, Cut, cut_count}
use Rattle.cut_tree.specs.Above.{IsFirstAbove, IsAbove, is_first_above, is_above}
use Rattle.cut_tree.specs.Stops.{is_among, AllAboveAreAmong, AreDone, Allows, do_rise, has_those_above, can_be_wrong, allows}
use Rattle.cut_tree.proofs.Closed.{above_range}
use Rattle.cut_tree.proofs.TwoForms.{among_from}

-- ---- numbers of a list

-- what holds of all of a list, and of each one among it
passed : (p : ℕ → Bool) (xs : List ℕ) → list_all p xs ≡ true → (c : ℕ) → is_among xs c ≡ true → p c ≡ true
passed p [] all c is = absurd (true≢false (sym is))
passed p (x ∷ xs) all c is =
    let f = and_parts (p x) (list_all p xs) all in
    elim (or_cases (x == c) (is_among xs c) is) [
      | inl e ↦ subst (λ n. p n ≡ true) (eqb-true x c e) f.0
      | inr e ↦ passed p xs f.1 c e
    ]

passes : (p : ℕ → Bool) (xs : List ℕ) → ((c : ℕ) → is_among xs c ≡ true → p c ≡ true) → list_all p xs ≡ true
passes p [] each = refl
passes p (x ∷ xs) each =
    both_true (each x (or_left (x == x) (is_among xs x) (eq-eqb x x refl))) (passes p xs (λ c is. each c (or_right (x == c) (is_among xs c) is)))

within : (n : ℕ) (xs : List ℕ) → list_all (λ c. nat_lt c n) xs ≡ true → All (λ c. c < n) xs
within n [] all k d less = absurd (omega arith)
within n (x ∷ xs) all zero d less = ltb-true x n (and_parts (nat_lt x n) (list_all (λ c. nat_lt c n) xs) all).0
within n (x ∷ xs) all (suc k) d less = within n xs (and_parts (nat_lt x n) (list_all (λ c. nat_lt c n) xs) all).1 k d (omega (arith, less))

all_within : (n : ℕ) (xs : List ℕ) → All (λ c. c < n) xs → list_all (λ c. nat_lt c n) xs ≡ true
all_within n [] all = refl
all_within n (x ∷ xs) all = both_true (lt-ltb x n (all 0 x (omega arith))) (all_within n xs (λ k d less. all (suc k) d (omega (arith, less))))

rises : (cuts : List ℕ) → do_rise cuts ≡ true → IsStrictlyIncreasing cuts
rises [] e k less = absurd (omega (arith, less))
rises (c ∷ []) e k less = absurd (omega (arith, less))
rises (c ∷ d ∷ cuts) e zero less = ltb-true c d (and_parts (nat_lt c d) (do_rise (d ∷ cuts)) e).0
rises (c ∷ d ∷ cuts) e (suc k) less =
    let next : suc (k + 1) ≡ suc k + 1 = omega arith in
    subst (λ n. slice_index (d ∷ cuts) k < slice_index (c ∷ d ∷ cuts) n) next (rises (d ∷ cuts) (and_parts (nat_lt c d) (do_rise (d ∷ cuts)) e).1 k (omega (arith, less)))

does_rise : (cuts : List ℕ) → IsStrictlyIncreasing cuts → do_rise cuts ≡ true
does_rise [] up = refl
does_rise (c ∷ []) up = refl
does_rise (c ∷ d ∷ cuts) up = both_true (lt-ltb c d (up 0 (omega arith))) (does_rise (d ∷ cuts) (λ k less.
    let next : suc k + 1 ≡ suc (k + 1) = omega arith in
    subst (λ n. slice_index (d ∷ cuts) k < slice_index (c ∷ d ∷ cuts) n) next (up (suc k) (omega (arith, less)))))

-- ---- cuts above others

first_is : (n below c d : ℕ) → is_first_above n below c d ≡ true → IsFirstAbove n below c d
first_is n below c d e =
    let f = and_parts (c == n && nat_lt n d) (nat_le d (n + below)) e in
    let g = and_parts (c == n) (nat_lt n d) f.0 in
    (eqb-true c n g.0, ltb-true n d g.1, leb-true d (n + below) f.1)

first_so : (n below c d : ℕ) → IsFirstAbove n below c d → is_first_above n below c d ≡ true
first_so n below c d f = both_true (both_true (eq-eqb c n f.0) (lt-ltb n d f.1)) (le-leb d (n + below) f.2)

above_is : (t : Tree) (n c d : ℕ) → is_above t n c d ≡ true → IsAbove t n c d
above_is (Piece demand turned) n c d e = true≢false (sym e)
above_is Rest n c d e = true≢false (sym e)
above_is (Trim axis a first) n c d e =
    elim (or_cases (is_first_above n (cut_count first) c d) (is_above first (n + 1) c d) e) [
      | inl f ↦ inl (first_is n (cut_count first) c d f)
      | inr f ↦ inr (above_is first (n + 1) c d f)
    ]
above_is (Cut axis a first second) n c d e =
    elim (or_cases (is_first_above n (cut_count first + cut_count second) c d || is_above first (n + 1) c d) (is_above second (n + 1 + cut_count first) c d) e) [
      | inl f ↦
          elim (or_cases (is_first_above n (cut_count first + cut_count second) c d) (is_above first (n + 1) c d) f) [
            | inl g ↦ inl (first_is n (cut_count first + cut_count second) c d g)
            | inr g ↦ inr (inl (above_is first (n + 1) c d g))
          ]
      | inr f ↦ inr (inr (above_is second (n + 1 + cut_count first) c d f))
    ]

above_so : (t : Tree) (n c d : ℕ) → IsAbove t n c d → is_above t n c d ≡ true
above_so (Piece demand turned) n c d above = absurd above
above_so Rest n c d above = absurd above
above_so (Trim axis a first) n c d (inl f) = or_left _ _ (first_so n (cut_count first) c d f)
above_so (Trim axis a first) n c d (inr f) = or_right _ _ (above_so first (n + 1) c d f)
above_so (Cut axis a first second) n c d (inl f) = or_left _ _ (or_left _ _ (first_so n (cut_count first + cut_count second) c d f))
above_so (Cut axis a first second) n c d (inr (inl f)) = or_left _ _ (or_right _ _ (above_so first (n + 1) c d f))
above_so (Cut axis a first second) n c d (inr (inr f)) = or_right _ _ (above_so second (n + 1 + cut_count first) c d f)

module _ (t : Tree) (cuts : List ℕ) where
  has_above : (d : ℕ) → has_those_above t cuts d ≡ true → AllAboveAreAmong t cuts d
  has_above d e c above =
      let less = (above_range t 0 c d above).1 in
      by (or_cases (not (is_above t 0 c d)) (is_among cuts c) (passed (λ c. not (is_above t 0 c d) || is_among cuts c) (below d) e c (among_from d c less)))
    where
      by : (not (is_above t 0 c d) ≡ true) ⊎ (is_among cuts c ≡ true) → is_among cuts c ≡ true
      by (inl f) = absurd (true≢false (sym f ∙ ap not (above_so t 0 c d above)))
      by (inr f) = f

  above_has : (d : ℕ) → AllAboveAreAmong t cuts d → has_those_above t cuts d ≡ true
  above_has d all = passes (λ c. not (is_above t 0 c d) || is_among cuts c) (below d) (λ c is. by c (is_above t 0 c d) refl)
    where
      by : (c : ℕ) (b : Bool) → is_above t 0 c d ≡ b → (not (is_above t 0 c d) || is_among cuts c) ≡ true
      by c true e = or_right (not (is_above t 0 c d)) (is_among cuts c) (all c (above_is t 0 c d e))
      by c false e = or_left (not (is_above t 0 c d)) (is_among cuts c) (ap not e)

  -- ---- halts

  abbrev IsWrong : Option ℕ → Type 0
  IsWrong lost = IfSome lost (λ d. (d < cut_count t) × (is_among cuts d ≡ false) × AllAboveAreAmong t cuts d)

  wrong_is : (lost : Option ℕ) → can_be_wrong t cuts lost ≡ true → IsWrong lost
  wrong_is None e = tt
  wrong_is (Some d) e =
      let f = and_parts (nat_lt d (cut_count t) && not (is_among cuts d)) (has_those_above t cuts d) e in
      let g = and_parts (nat_lt d (cut_count t)) (not (is_among cuts d)) f.0 in
      (ltb-true d (cut_count t) g.0, false_from_ne_true (is_among cuts d) (λ is. true≢false (sym g.1 ∙ ap not is)), has_above d f.1)

  wrong_so : (lost : Option ℕ) → IsWrong lost → can_be_wrong t cuts lost ≡ true
  wrong_so None w = refl
  wrong_so (Some d) w = both_true (both_true (lt-ltb d (cut_count t) w.0) (not_from_false (is_among cuts d) w.1)) (above_has d w.2)

  listed_is : (lost : Option ℕ) → allows t (Listed cuts lost) ≡ true → AreDone t cuts lost
  listed_is lost e =
      let wrong = and_parts _ (can_be_wrong t cuts lost) e in
      let above = and_parts _ (list_all (has_those_above t cuts) cuts) wrong.0 in
      let few = and_parts _ (nat_lt (length cuts) (cut_count t)) above.0 in
      let up = and_parts (do_rise cuts) (list_all (λ c. nat_lt c (cut_count t)) cuts) few.0 in
      record {
        rising = rises cuts up.0;
        within = within (cut_count t) cuts up.1;
        not_all = ltb-true (length cuts) (cut_count t) few.1;
        above = λ d is. has_above d (passed (has_those_above t cuts) cuts above.1 d is);
        wrong = wrong_is lost wrong.1;
      }

  listed_so : (lost : Option ℕ) → AreDone t cuts lost → allows t (Listed cuts lost) ≡ true
  listed_so lost done =
      both_true (both_true (both_true (both_true (does_rise cuts done.rising) (all_within (cut_count t) cuts done.within)) (lt-ltb (length cuts) (cut_count t) done.not_all))
      (passes (has_those_above t cuts) cuts (λ d is. above_has d (done.above d is)))) (wrong_so lost done.wrong)

pub allowed : (t : Tree) (halt : Halt) → IsTrue (allows t halt) ↔ Allows t halt
allowed t (First cuts lost) = (ltb-true cuts (cut_count t), lt-ltb cuts (cut_count t))
allowed t (Listed cuts lost) = (listed_is t cuts lost, listed_so t cuts lost)
