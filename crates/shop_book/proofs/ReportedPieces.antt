-- Pieces of parts that rise by name, act by act.
use Rattle.std.proofs.Common.{◌≡◌, ℕ, suc, zero, ◌+◌, ◌<◌, ◌≤◌, arith, Bool, true, false, List, [], ◌∷◌, ◌++◌, length, take, cond, get_or, inl, inr, refl, sym, ap, ◌∙◌}
use Rattle.std.specs.Prelude.{T, filter, ◌&&◌, ◌==◌, nat_le}
use Rattle.std.specs.FinMap.Entries.{below_all}
use Rattle.std.specs.Cmp.{ranked}
use Rattle.std.specs.Ordering.{nat_cmp, ordering_then}
use Rattle.std.specs.declared.cmp.Ordering.{Ordering}
use Rattle.std.specs.declared.cmp.Ordering.TheVariants.{Less, Equal, Greater}
use Rattle.std.proofs.lemmas.Bool.{and_parts, eqb-true, eq-eqb, le-leb, leb-false, leb-true}
use Rattle.std.proofs.lemmas.List.{append_assoc}
use Rattle.std.proofs.lemmas.List.Elements.{filter-append}
use Rattle.cut_measure.specs.Names.{Name, name_cmp}
use Rattle.shop_records.specs.Elements.{IsIn}
use Rattle.shop_records.specs.declared.records.Part.{Part}
use Rattle.shop_records.proofs.Sums.{first, second, less}
use Rattle.shop_rows.specs.Keys.{part_key}
use Rattle.shop_rows.specs.Rows.{entries_of, rise}
use Rattle.shop_rows.proofs.ByLine.{next_row}
use Rattle.shop_rows.proofs.Places.{tested}

-- ---- what is taken of a list

-- what is taken may be taken again
pub take_again : {X : Type 0} (n : ℕ) (xs ys : List X) → take n (take n xs ++ ys) ≡ take n (xs ++ ys)
take_again zero xs ys = refl
take_again (suc n) [] ys = refl
take_again (suc n) (x ∷ xs) ys = ap (λ zs. x ∷ zs) (take_again n xs ys)

pub taken_few : {X : Type 0} (n : ℕ) (xs : List X) → length (take n xs) ≤ n
taken_few zero xs = omega arith
taken_few (suc n) [] = omega arith
taken_few (suc n) (x ∷ xs) = let h = taken_few n xs in omega (arith, h)

-- where there are so many, no more are taken
pub taken_full : {X : Type 0} (n : ℕ) (xs ys : List X) → length xs ≡ n → take n (xs ++ ys) ≡ xs
taken_full zero [] ys e = refl
taken_full zero (x ∷ xs) ys e = absurd (omega arith)
taken_full (suc n) [] ys e = absurd (omega arith)
taken_full (suc n) (x ∷ xs) ys e = ap (λ zs. x ∷ zs) (taken_full n xs ys (omega arith))

-- a row more of those that pass
pub push_more : {X : Type 0} (p : X → Bool) (n : ℕ) (before xs : List X) (i : ℕ) (x : X) → i < length xs → x ≡ get_or xs i x
    → take n (take n (before ++ filter p (take i xs)) ++ filter p (x ∷ [])) ≡ take n (before ++ filter p (take (i + 1) xs))
push_more p n before xs i x within is =
    take_again n (before ++ filter p (take i xs)) (filter p (x ∷ []))
    ∙ ap (take n)
    (append_assoc before (filter p (take i xs)) (filter p (x ∷ []))
    ∙ ap (λ ys. before ++ ys) (sym (filter-append p (take i xs) (x ∷ [])) ∙ ap (filter p) (sym (next_row xs i x within is))))

-- ---- tests of what is there

filter_same : {X : Type 0} (q r : X → Bool) (xs : List X) → ((x : X) → IsIn x xs → q x ≡ r x) → filter q xs ≡ filter r xs
filter_same q r [] f = refl
filter_same q r (x ∷ xs) f = λ i. cond (f x (inl refl) i) (x ∷ filter_same q r xs (λ y there. f y (inr there)) i) (filter_same q r xs (λ y there. f y (inr there)) i)

filter_none : {X : Type 0} (q : X → Bool) (xs : List X) → ((x : X) → IsIn x xs → q x ≡ false) → filter q xs ≡ []
filter_none q [] f = refl
filter_none q (x ∷ xs) f = ap (λ b. cond b (x ∷ filter q xs) (filter q xs)) (f x (inl refl)) ∙ filter_none q xs (λ y there. f y (inr there))

not_le : (a b : ℕ) → b < a → nat_le a b ≡ false
not_le a b lt = by (nat_le a b) refl
  where
    by : (r : Bool) → nat_le a b ≡ r → nat_le a b ≡ false
    by true e = absurd (let le : a ≤ b = leb-true a b e in omega (arith, le, lt))
    by false e = e

not_one : (a b : ℕ) → (a ≡ b → ⊥) → (a == b) ≡ false
not_one a b apart = by (a == b) refl
  where
    by : (r : Bool) → (a == b) ≡ r → (a == b) ≡ false
    by true e = absurd (apart (eqb-true a b e))
    by false e = e

and_false : (b c : Bool) → c ≡ false → (b && c) ≡ false
and_false true c e = e
and_false false c e = refl

and_true : (b c : Bool) → c ≡ true → (b && c) ≡ b
and_true true c e = e
and_true false c e = refl

-- ---- names rise by their acts

acts_rise : (a b : Name) → name_cmp a b ≡ Less → a.act ≤ b.act
acts_rise a b e = by (nat_cmp a.act b.act) refl e
  where
    by : (o : Ordering) → nat_cmp a.act b.act ≡ o → ordering_then o (nat_cmp a.node b.node) ≡ Less → a.act ≤ b.act
    by Less is e = let l : a.act < b.act = ranked a.act b.act Less (sym is) in omega (arith, l)
    by Equal is e = let l : a.act ≡ b.act = ranked a.act b.act Equal (sym is) in omega (arith, l)
    by Greater is e = cc

below_act : (name : Name) (xs : List Part) (y : Part) → T (below_all name_cmp name (entries_of part_key name_cmp xs)) → IsIn y xs → name.act ≤ y.name.act
below_act name [] y t there = absurd there
below_act name (x ∷ xs) y t (inl e) =
    let lt = acts_rise name x.name (less (name_cmp name x.name) (first _ _ t)) in
    let same : y.name.act ≡ x.name.act = ap (λ (p : Part). p.name.act) e in
    omega (arith, lt, same)
below_act name (x ∷ xs) y t (inr there) = below_act name xs y (second _ _ t) there

-- ---- the parts of an act, and those of later ones

module _ (p : Part → Bool) where
  -- one of them, of this act or of a later one
  abbrev pub is_left : ℕ → Part → Bool
  is_left from part = p part && nat_le from part.name.act

  abbrev of_act : ℕ → List Part → List Part
  of_act act xs = filter (λ (part : Part). part.name.act == act) xs

  dealt : {X : Type 0} (b : Bool) (x : X) (both one rest : List X) → both ≡ one ++ rest → cond b (x ∷ both) both ≡ cond b (x ∷ one) one ++ rest
  dealt true x both one rest e = ap (λ zs. x ∷ zs) e
  dealt false x both one rest e = e

  by_head : (act : ℕ) (x : Part) (xs : List Part) → T (rise part_key name_cmp (x ∷ xs)) → filter (is_left act) xs ≡ filter p (of_act act xs) ++ filter (is_left (act + 1)) xs
      → filter (is_left act) (x ∷ xs) ≡ filter p (of_act act (x ∷ xs)) ++ filter (is_left (act + 1)) (x ∷ xs)
  by_head act x xs up rest = by (nat_cmp x.name.act act) refl
    where
      later : (y : Part) → IsIn y (x ∷ xs) → x.name.act ≤ y.name.act
      later y (inl e) = let same : y.name.act ≡ x.name.act = ap (λ (q : Part). q.name.act) e in omega (arith, same)
      later y (inr there) = below_act x.name xs y (first (below_all name_cmp x.name (entries_of part_key name_cmp xs)) _ up) there

      earlier : x.name.act < act → filter (is_left act) (x ∷ xs) ≡ filter p (of_act act (x ∷ xs)) ++ filter (is_left (act + 1)) (x ∷ xs)
      earlier lt =
          let now : is_left act x ≡ false = and_false (p x) _ (not_le act x.name.act lt) in
          let own : (x.name.act == act) ≡ false = not_one x.name.act act (λ e. omega (arith, lt, e)) in
          let next : is_left (act + 1) x ≡ false = and_false (p x) _ (not_le (act + 1) x.name.act (omega (arith, lt))) in
          ap (λ b. cond b (x ∷ filter (is_left act) xs) (filter (is_left act) xs)) now ∙ rest
          ∙ sym (λ i. filter p (cond (own i) (x ∷ of_act act xs) (of_act act xs)) ++ cond (next i) (x ∷ filter (is_left (act + 1)) xs) (filter (is_left (act + 1)) xs))

      own : x.name.act ≡ act → filter (is_left act) (x ∷ xs) ≡ filter p (of_act act (x ∷ xs)) ++ filter (is_left (act + 1)) (x ∷ xs)
      own same =
          let now : is_left act x ≡ p x = and_true (p x) _ (le-leb act x.name.act (omega (arith, same))) in
          let its : (x.name.act == act) ≡ true = eq-eqb x.name.act act same in
          let next : is_left (act + 1) x ≡ false = and_false (p x) _ (not_le (act + 1) x.name.act (omega (arith, same))) in
          ap (λ b. cond b (x ∷ filter (is_left act) xs) (filter (is_left act) xs)) now
          ∙ dealt (p x) x (filter (is_left act) xs) (filter p (of_act act xs)) (filter (is_left (act + 1)) xs) rest
          ∙ sym (λ i. filter p (cond (its i) (x ∷ of_act act xs) (of_act act xs)) ++ cond (next i) (x ∷ filter (is_left (act + 1)) xs) (filter (is_left (act + 1)) xs))

      behind : act < x.name.act → filter (is_left act) (x ∷ xs) ≡ filter p (of_act act (x ∷ xs)) ++ filter (is_left (act + 1)) (x ∷ xs)
      behind lt =
          let same = filter_same (is_left act) (is_left (act + 1)) (x ∷ xs)
          (λ y there. let le = later y there in ap (λ b. p y && b) (le-leb act y.name.act (omega (arith, lt, le)) ∙ sym (le-leb (act + 1) y.name.act (omega (arith, lt, le))))) in
          let none = filter_none (λ (part : Part). part.name.act == act) (x ∷ xs) (λ y there. let le = later y there in not_one y.name.act act (λ e. omega (arith, lt, le, e))) in
          same ∙ sym (ap (λ (ys : List Part). filter p ys ++ filter (is_left (act + 1)) (x ∷ xs)) none)

      by : (o : Ordering) → nat_cmp x.name.act act ≡ o → filter (is_left act) (x ∷ xs) ≡ filter p (of_act act (x ∷ xs)) ++ filter (is_left (act + 1)) (x ∷ xs)
      by Less is = earlier (ranked x.name.act act Less (sym is))
      by Equal is = own (ranked x.name.act act Equal (sym is))
      by Greater is = behind (ranked x.name.act act Greater (sym is))

  by_act : (act : ℕ) (xs : List Part) → T (rise part_key name_cmp xs) → filter (is_left act) xs ≡ filter p (of_act act xs) ++ filter (is_left (act + 1)) xs
  by_act act [] up = refl
  by_act act (x ∷ xs) up = by_head act x xs up (by_act act xs (second (below_all name_cmp x.name (entries_of part_key name_cmp xs)) _ up))

  module _ (xs : List Part) (up : rise part_key name_cmp xs ≡ true) where
    agree : (from act n : ℕ) (b : Bool) → from ≤ act → (b ≡ true → from ≤ n → act ≤ n) → (b && nat_le from n) ≡ (b && nat_le act n)
    agree from act n false le none = refl
    agree from act n true le none = by (nat_le from n) refl
      where
        by : (r : Bool) → nat_le from n ≡ r → nat_le from n ≡ nat_le act n
        by true e = e ∙ sym (le-leb act n (none refl (leb-true from n e)))
        by false e = e ∙ sym (not_le act n (let lt : n < from = leb-false from n e in omega (arith, lt, le)))

    -- where none of them is of an act before this one that is left, those of it come first
    pub act_first : (from act : ℕ) → from ≤ act → ((x : Part) → IsIn x xs → p x ≡ true → from ≤ x.name.act → act ≤ x.name.act) → filter (is_left from) xs ≡ filter p (of_act act xs) ++ filter (is_left (act + 1)) xs
    act_first from act le none =
        filter_same (is_left from) (is_left act) xs (λ x there. agree from act x.name.act (p x) le (none x there)) ∙ by_act act xs (tested _ up)

    -- so they are reported next
    pub reported_next : (most from act : ℕ) (rows : List Part) → from ≤ act → ((x : Part) → IsIn x xs → p x ≡ true → from ≤ x.name.act → act ≤ x.name.act)
        → take most (take most (rows ++ filter p (of_act act xs)) ++ filter (is_left (act + 1)) xs) ≡ take most (rows ++ filter (is_left from) xs)
    reported_next most from act rows le none =
        take_again most (rows ++ filter p (of_act act xs)) (filter (is_left (act + 1)) xs)
        ∙ ap (take most) (append_assoc rows (filter p (of_act act xs)) (filter (is_left (act + 1)) xs) ∙ ap (λ ys. rows ++ ys) (sym (act_first from act le none)))

    -- where all of them are left, these are all
    pub all_left : (from : ℕ) → ((x : Part) → IsIn x xs → p x ≡ true → from ≤ x.name.act) → filter (is_left from) xs ≡ filter p xs
    all_left from each = filter_same (is_left from) p xs (λ x there. by x (p x) refl (each x there))
      where
        by : (x : Part) (b : Bool) → p x ≡ b → (b ≡ true → from ≤ x.name.act) → (p x && nat_le from x.name.act) ≡ p x
        by x true e le = and_true (p x) _ (le-leb from x.name.act (le refl))
        by x false e le = ap (λ b. b && nat_le from x.name.act) e ∙ sym e

    -- and where none is left, there are none
    pub none_left : (from : ℕ) → ((x : Part) → IsIn x xs → p x ≡ true → from ≤ x.name.act → ⊥) → filter (is_left from) xs ≡ []
    none_left from none = filter_none (is_left from) xs (λ x there. by x there (is_left from x) refl)
      where
        by : (x : Part) → IsIn x xs → (b : Bool) → is_left from x ≡ b → is_left from x ≡ false
        by x there true e = let both = and_parts _ _ e in absurd (none x there both.0 (leb-true from x.name.act both.1))
        by x there false e = e
