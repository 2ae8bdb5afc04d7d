-- Rows that are in a list or found by their keys, and the lines that are made of them.
use Rattle.std.proofs.Common.{◌≡◌, inl, inr, ℕ, zero, suc, ◌+◌, ◌<◌, Bool, true, false, List, [], ◌∷◌, ◌++◌, length, map, take, drop, get_or, refl, sym, ap, subst, ◌∙◌, add-one, arith, true≢false}
use Rattle.std.specs.Prelude.{All, ◌⊎◌, Option, Some, None, IsSome, cond, filter, is_some, not}
use Rattle.std.specs.declared.cmp.Ordering.{Ordering}
use Rattle.std.specs.declared.cmp.Ordering.TheVariants.{Less, Equal, Greater}
use Rattle.std.specs.Ordering.{is_eq, nat_cmp}
use Rattle.std.specs.Cmp.{IsTotalOrder, nat_cmp_total, ranked, tied_itself}
use Rattle.std.specs.FinMap.{IsAntisymmetric, find, nat_cmp-IsAntisymmetric, put}
use Rattle.std.specs.FinMap.Entries.{by_order}
use Rattle.std.proofs.Math.Seq.{take-suc}
use Rattle.std.proofs.lemmas.List.{get_or-take, get_or_default, length-take-le, take-append-drop}
use Rattle.std.proofs.lemmas.List.Elements.{All-append}
use Rattle.shop_records.specs.Elements.{IsIn}
use Rattle.shop_records.specs.declared.records.Demand.{Demand}
use Rattle.shop_records.proofs.Basics.{at_in, in_append, in_at, in_first, in_later}
use Rattle.shop_rows.specs.Keys.{demand_key}
use Rattle.shop_rows.specs.Lines.{line_key, AreByLine, HaveLines}
use Rattle.shop_rows.specs.Rows.{entries_of, rise, row_at, IsPut}
use Rattle.shop_rows.proofs.Mapped.{seconds}
use Rattle.shop_rows.proofs.Named.{row_key}
use Rattle.shop_rows.proofs.Places.{rising_at, row_found, tested}

-- ---- what passes a test

pub in_filter : {X : Type 0} (p : X → Bool) (xs : List X) (x : X) → IsIn x xs → p x ≡ true → IsIn x (filter p xs)
in_filter p [] x i passes = i
in_filter p (y ∷ ys) x (inl e) passes = subst (λ b. IsIn x (cond b (y ∷ filter p ys) (filter p ys))) (sym (ap p (sym e) ∙ passes)) (inl e)
in_filter p (y ∷ ys) x (inr i) passes =
    elim (p y) as (λ b. IsIn x (cond b (y ∷ filter p ys) (filter p ys))) [ true ↦ inr (in_filter p ys x i passes) | false ↦ in_filter p ys x i passes ]

pub filter_in : {X : Type 0} (p : X → Bool) (xs : List X) (x : X) → IsIn x (filter p xs) → IsIn x xs × (p x ≡ true)
filter_in p [] x i = absurd i
filter_in {X} p (y ∷ ys) x i = by_test (filter_in p ys x) (p y) refl i
  where
    by_test : (IsIn x (filter p ys) → IsIn x ys × (p x ≡ true)) → (b : Bool) → p y ≡ b → IsIn x (cond b (y ∷ filter p ys) (filter p ys)) → IsIn x (y ∷ ys) × (p x ≡ true)
    by_test later true e (inl f) = (inl f, ap p f ∙ e)
    by_test later true e (inr j) = let r = later j in (inr r.0, r.1)
    by_test later false e j = let r = later j in (inr r.0, r.1)

-- one row more
pub next_row : {X : Type 0} (rows : List X) (i : ℕ) (row : X) → i < length rows → row ≡ get_or rows i row → take (i + 1) rows ≡ take i rows ++ row ∷ []
next_row rows i row within is = ap (λ n. take n rows) (add-one i) ∙ take-suc rows i row within ∙ ap (λ r. take i rows ++ r ∷ []) (sym is)

pub all_more : {X : Type 0} (P : X → Type 0) (rows : List X) (i : ℕ) (row : X) → i < length rows → row ≡ get_or rows i row → All P (take i rows) → P row → All P (take (i + 1) rows)
all_more P rows i row within is all own = subst (All P) (sym (next_row rows i row within is)) (All-append P (take i rows) (row ∷ []) all one)
  where
    one : All P (row ∷ [])
    one zero d inside = own
    one (suc k) d inside = absurd (omega arith)

-- ---- rows that are found

module _ {X K : Type 0} (key_of : X → K) (cmp : K → K → Ordering) (o : IsTotalOrder cmp) (exact : IsAntisymmetric cmp) where
  -- a row of rows that rise is found by its key
  pub in_found : (rows : List X) → rise key_of cmp rows ≡ true → (row : X) → IsIn row rows → row_at key_of cmp (key_of row) rows ≡ Some row
  in_found rows up row i =
      let r = in_at rows row i in
      row_found key_of cmp o exact rows (tested _ up) r.0 row (key_of row) r.1 (sym r.2)
      (λ d. ap (λ x. cmp (key_of x) (key_of row)) (get_or_default rows r.0 d row r.1 ∙ r.2) ∙ tied_itself o (key_of row))

  -- and one that is found is one of them
  pub found_in : (key : K) (rows : List X) (row : X) → row_at key_of cmp key rows ≡ Some row → IsIn row rows
  found_in key [] row e = cc
  found_in key (x ∷ rows) row e = by_tie (found_in key rows row) (is_eq (cmp key (key_of x))) e
    where
      by_tie : (row_at key_of cmp key rows ≡ Some row → IsIn row rows) → (b : Bool) → cond b (Some x) (row_at key_of cmp key rows) ≡ Some row → IsIn row (x ∷ rows)
      by_tie later true is = let same : row ≡ x = cc in inl same
      by_tie later false is = inr (later is)

-- ---- a row is put where there is none

module _ {X K : Type 0} (cmp : K → K → Ordering) (key : K) (row x : X) where
  abbrev rows_in : List (K × X) → List X
  rows_in es = map (λ (e : K × X). e.1) es

  in_put : (es : List (K × X)) → find cmp key es ≡ None → IsIn x (rows_in (put cmp key row es)) → IsIn x (rows_in es) ⊎ (x ≡ row)
  in_put [] none (inl e) = inr e
  in_put [] none (inr i) = inl i
  in_put (e ∷ es) none i = by_key (in_put es) (cmp key e.0) none i
    where
      by_key : (find cmp key es ≡ None → IsIn x (rows_in (put cmp key row es)) → IsIn x (rows_in es) ⊎ (x ≡ row)) → (r : Ordering) → cond (is_eq r) (Some e.1) (find cmp key es) ≡ None
          → IsIn x (rows_in (by_order r ((key, row) ∷ e ∷ es) ((e.0, row) ∷ es) (e ∷ put cmp key row es))) → IsIn x (rows_in (e ∷ es)) ⊎ (x ≡ row)
      by_key later Less free (inl f) = inr f
      by_key later Less free (inr j) = inl j
      by_key later Equal free j = cc
      by_key later Greater free (inl f) = inl (inl f)
      by_key later Greater free (inr j) = elim (later free j) [ inl k ↦ inl (inr k) | inr f ↦ inr f ]

  put_in : (es : List (K × X)) → find cmp key es ≡ None → IsIn x (rows_in es) ⊎ (x ≡ row) → IsIn x (rows_in (put cmp key row es))
  put_in [] none (inl i) = absurd i
  put_in [] none (inr f) = inl f
  put_in (e ∷ es) none i = by_key (put_in es) (cmp key e.0) none i
    where
      by_key : (find cmp key es ≡ None → IsIn x (rows_in es) ⊎ (x ≡ row) → IsIn x (rows_in (put cmp key row es))) → (r : Ordering) → cond (is_eq r) (Some e.1) (find cmp key es) ≡ None → IsIn x (rows_in (e ∷ es)) ⊎ (x ≡ row)
          → IsIn x (rows_in (by_order r ((key, row) ∷ e ∷ es) ((e.0, row) ∷ es) (e ∷ put cmp key row es)))
      by_key later Less free (inl j) = inr j
      by_key later Less free (inr f) = inl f
      by_key later Equal free j = cc
      by_key later Greater free (inl (inl f)) = inl f
      by_key later Greater free (inl (inr j)) = inr (later free (inl j))
      by_key later Greater free (inr f) = inr (later free (inr f))

pub is_free : {X : Type 0} (found : Option X) → true ≡ not (is_some found) → found ≡ None
is_free None e = refl
is_free (Some x) e = absurd (true≢false e)

-- ---- lines

pub no_lines : (order : List ℕ) → AreByLine order [] []
no_lines order = record { rising = refl; there = λ row i. absurd i; all = λ row i own. absurd i }

module _ (order : List ℕ) (rows lines : List Demand) (row : Demand) (are : AreByLine order rows lines) where
  -- a row of another order comes
  pub passed_by : (row.order ≡ order → ⊥) → AreByLine order (rows ++ row ∷ []) lines
  passed_by apart = record {
    rising = are.rising;
    there = λ x i. let r = are.there x i in (in_first x rows (row ∷ []) r.0, r.1);
    all = λ x i own.
        elim (in_append x rows (row ∷ []) i) [
          | inl j ↦ are.all x j own
          | inr (inl e) ↦ absurd (apart (ap (λ (d : Demand). d.order) (sym e) ∙ own))
          | inr (inr j) ↦ absurd j
        ];
  }

  -- a row of the order comes, whose line is free
  pub added : (new : List Demand) → row.order ≡ order → row_at line_key nat_cmp row.line lines ≡ None → IsPut line_key nat_cmp row lines new → rise line_key nat_cmp new ≡ true → AreByLine order (rows ++ row ∷ []) new
  added new own free is_put up = record {
    rising = up;
    there = λ x i.
        elim (in_put nat_cmp row.line row x entries free (subst (IsIn x) made i)) [
          | inl j ↦ let r = are.there x (subst (IsIn x) were j) in (in_first x rows (row ∷ []) r.0, r.1)
          | inr e ↦ (in_later x rows (row ∷ []) (inl e), ap (λ (d : Demand). d.order) e ∙ own)
        ];
    all = λ x i is.
        subst (IsIn x) (sym made) (put_in nat_cmp row.line row x entries free
        (elim (in_append x rows (row ∷ []) i) [
          | inl j ↦ inl (subst (IsIn x) (sym were) (are.all x j is))
          | inr (inl e) ↦ inr e
          | inr (inr j) ↦ absurd j
        ]));
  }
    where
      entries : List (ℕ × Demand)
      entries = entries_of line_key nat_cmp lines

      were : map (λ (e : ℕ × Demand). e.1) entries ≡ lines
      were = seconds line_key nat_cmp lines

      made : new ≡ map (λ (e : ℕ × Demand). e.1) (put nat_cmp row.line row entries)
      made = sym (seconds line_key nat_cmp new) ∙ ap (map (λ (e : ℕ × Demand). e.1)) is_put

-- a row whose line isn't free has the line of one before it
pub same_line : (order : List ℕ) (demands lines : List Demand) (i : ℕ) (row : Demand) → rise demand_key nat_cmp demands ≡ true → i < length demands → row ≡ get_or demands i row
    → AreByLine order (take i demands) lines → row.order ≡ order → IsSome (row_at line_key nat_cmp row.line lines) → HaveLines order demands → ⊥
same_line order demands lines i row up within is are own there apart = by_found (row_at line_key nat_cmp row.line lines) refl there
  where
    by_found : (found : Option Demand) → row_at line_key nat_cmp row.line lines ≡ found → IsSome found → ⊥
    by_found None e none = absurd (true≢false (sym none))
    by_found (Some other) e some =
        let before = are.there other (found_in line_key nat_cmp nat_cmp_total nat_cmp-IsAntisymmetric row.line lines other e) in
        let at = in_at (take i demands) other before.0 in
        let few : length (take i demands) ≡ i = length-take-le i demands (omega arith) in
        let lt : at.0 < i = let less : at.0 < length (take i demands) = at.1 in omega arith in
        let its : get_or demands at.0 other ≡ other = sym (get_or-take i demands at.0 other lt) ∙ at.2 in
        let mine : get_or demands i other ≡ row = get_or_default demands i other row within ∙ sym is in
        let less : other.number < row.number = ranked other.number row.number Less
        (sym (sym (λ j. nat_cmp (demand_key (its j)) (demand_key (mine j))) ∙ rising_at demand_key nat_cmp nat_cmp_total nat_cmp-IsAntisymmetric demands (tested _ up) at.0 i other lt within)) in
        let same : other.number ≡ row.number = apart other row
        (subst (IsIn other) (take-append-drop i demands) (in_first other (take i demands) (drop i demands) before.0))
        (subst (λ (d : Demand). IsIn d demands) (sym is) (at_in demands i row within)) before.1 own
        (row_key line_key nat_cmp nat_cmp_total nat_cmp-IsAntisymmetric row.line lines other e) in
        absurd (omega (arith, less, same))
