-- Rows that rise by their numbers, and those of greater numbers than one.
use Rattle.std.proofs.Common.{◌≡◌, ℕ, ◌<◌, ◌≤◌, Bool, true, false, List, [], ◌∷◌, ◌++◌, leb, ltb, refl, sym, ap, ◌∙◌, arith}
use Rattle.std.proofs.lemmas.Bool.{and_parts, leb-true, leb-false, ltb-true, ltb-false, lt-ltb}
use Rattle.std.specs.Prelude.{T, cond, filter, nat_lt, not, ◌&&◌}
use Rattle.std.specs.List.{list_all}
use Rattle.std.specs.declared.cmp.Ordering.TheVariants.{Less}
use Rattle.std.specs.Ordering.{is_lt, nat_cmp}
use Rattle.std.specs.Cmp.{ranked}
use Rattle.std.specs.FinMap.{is_sorted}
use Rattle.std.specs.FinMap.Entries.{below_all}
use Rattle.shop_records.proofs.Sums.{first, second, less}
use Rattle.shop_rows.specs.Rows.{entries_of, rise}
use Rattle.shop_rows.proofs.Listed.{filter_filter, rise-filter}
use Rattle.shop_rows.proofs.Places.{tested}

-- the test of numbers, either way
turned : (after n : ℕ) → not (leb n after) ≡ nat_lt after n
turned after n = above (leb n after) (nat_lt after n) refl refl
  where
    above : (a b : Bool) → leb n after ≡ a → ltb after n ≡ b → not a ≡ b
    above true true e f = absurd (let most = leb-true n after e in let more = ltb-true after n f in omega arith)
    above true false e f = refl
    above false true e f = refl
    above false false e f = absurd (let more = leb-false n after e in let most = ltb-false after n f in omega arith)

not_less : (a b : ℕ) → b ≤ a → nat_lt a b ≡ false
not_less a b le = go (nat_lt a b) refl
  where
    go : (r : Bool) → ltb a b ≡ r → r ≡ false
    go true e = absurd (let more = ltb-true a b e in omega arith)
    go false e = refl

module _ {X : Type 0} (key_of : X → ℕ) where
  abbrev behind : ℕ → X → Bool
  behind n row = nat_lt n (key_of row)

  pub behind_number : (after : ℕ) (rows : List X) → filter (λ row. not (leb (key_of row) after)) rows ≡ filter (behind after) rows
  behind_number after [] = refl
  behind_number after (row ∷ rows) = λ i. cond (turned after (key_of row) i) (row ∷ behind_number after rows i) (behind_number after rows i)

  -- all that are above one are behind it
  all_behind : (n : ℕ) (rows : List X) → T (below_all nat_cmp n (entries_of key_of nat_cmp rows)) → filter (behind n) rows ≡ rows
  all_behind n [] t = refl
  all_behind n (row ∷ rows) t =
      let lt : n < key_of row = ranked n (key_of row) Less (sym (less (nat_cmp n (key_of row)) (first _ _ t))) in
      ap (λ b. cond b (row ∷ filter (behind n) rows) (filter (behind n) rows)) (lt-ltb n (key_of row) lt)
      ∙ ap (λ rs. row ∷ rs) (all_behind n rows (second (is_lt (nat_cmp n (key_of row))) _ t))

  below_one : (n : ℕ) (before : List X) (last : X) (rest : List X) → T (below_all nat_cmp n (entries_of key_of nat_cmp (before ++ last ∷ rest))) → n < key_of last
  below_one n [] last rest t = ranked n (key_of last) Less (sym (less (nat_cmp n (key_of last)) (first _ _ t)))
  below_one n (row ∷ before) last rest t = below_one n before last rest (second (is_lt (nat_cmp n (key_of row))) _ t)

  -- behind one of them are those after it
  behind_one : (before : List X) (last : X) (rest : List X) → T (is_sorted nat_cmp (entries_of key_of nat_cmp (before ++ last ∷ rest))) → filter (behind (key_of last)) (before ++ last ∷ rest) ≡ rest
  behind_one [] last rest t =
      ap (λ b. cond b (last ∷ filter (behind (key_of last)) rest) (filter (behind (key_of last)) rest)) (not_less (key_of last) (key_of last) (omega arith))
      ∙ all_behind (key_of last) rest (first _ _ t)
  behind_one (row ∷ before) last rest t =
      let lt = below_one (key_of row) before last rest (first _ _ t) in
      ap (λ b. cond b (row ∷ filter (behind (key_of last)) (before ++ last ∷ rest)) (filter (behind (key_of last)) (before ++ last ∷ rest))) (not_less (key_of last) (key_of row) (omega (arith, lt)))
      ∙ behind_one before last rest (second (below_all nat_cmp (key_of row) (entries_of key_of nat_cmp (before ++ last ∷ rest))) _ t)

  passes : (p : X → Bool) (rows : List X) → list_all p (filter p rows) ≡ true
  passes p [] = refl
  passes p (row ∷ rows) = by_test (passes p rows) (p row) refl
    where
      by_test : list_all p (filter p rows) ≡ true → (b : Bool) → p row ≡ b → list_all p (cond b (row ∷ filter p rows) (filter p rows)) ≡ true
      by_test later true e = ap (λ b. b && list_all p (filter p rows)) e ∙ later
      by_test later false e = later

  one_passes : (p : X → Bool) (before : List X) (last : X) (rest : List X) → list_all p (before ++ last ∷ rest) ≡ true → p last ≡ true
  one_passes p [] last rest all = (and_parts (p last) (list_all p rest) all).0
  one_passes p (row ∷ before) last rest all = one_passes p before last rest (and_parts (p row) (list_all p (before ++ last ∷ rest)) all).1

  nowhere : (b : Bool) → (b && false) ≡ false
  nowhere true = refl
  nowhere false = refl

  further : (after n : ℕ) → after < n → (rows : List X) → filter (λ row. behind after row && behind n row) rows ≡ filter (behind n) rows
  further after n lt [] = refl
  further after n lt (row ∷ rows) = λ i. cond (both (nat_lt n (key_of row)) refl i) (row ∷ further after n lt rows i) (further after n lt rows i)
    where
      both : (b : Bool) → ltb n (key_of row) ≡ b → (behind after row && behind n row) ≡ behind n row
      both true e =
          let more = ltb-true n (key_of row) e in
          ap (λ b. b && behind n row) (lt-ltb after (key_of row) (omega (arith, more, lt)))
      both false e = ap (λ b. behind after row && b) e ∙ nowhere (behind after row) ∙ sym e

  -- behind the last of the first rows behind a number are the rows after them
  pub behind_next : (after : ℕ) (rows : List X) → rise key_of nat_cmp rows ≡ true → (before : List X) (last : X) (rest : List X) → filter (behind after) rows ≡ before ++ last ∷ rest
      → filter (behind (key_of last)) rows ≡ rest
  behind_next after rows up before last rest is =
      let risen : rise key_of nat_cmp (before ++ last ∷ rest) ≡ true = ap (rise key_of nat_cmp) (sym is) ∙ rise-filter key_of nat_cmp (nat_lt after) rows up in
      let lt : after < key_of last = ltb-true after (key_of last) (one_passes (behind after) before last rest (ap (list_all (behind after)) (sym is) ∙ passes (behind after) rows)) in
      sym (further after (key_of last) lt rows) ∙ sym (filter_filter (behind after) (behind (key_of last)) rows) ∙ ap (filter (behind (key_of last))) is ∙ behind_one before last rest (tested _ risen)
