-- Order lines, field by field and record by record.
use Rattle.std.proofs.Common.{◌≡◌, ◌<◌, ◌≤◌, ◌+◌, ℕ, suc, List, [], ◌∷◌, ◌++◌, length, get_or, Bool, true, false, refl, ◌∙◌, subst, inl, inr, arith, length-append}
use Rattle.std.specs.Prelude.{Option, ◌⊎◌, Result, Ok, Err, IfOk, IfErr}
use Rattle.std.proofs.lemmas.Bool.{cases_lt}
use Rattle.csv.specs.Reading.{Ready, ReadRecord, default_config, reader_state, reader_trim, strip_bom, took_first}
use Rattle.csv.specs.declared.reader.Reader.{Reader}
use Rattle.csv.specs.declared.reader.Trim.TheVariants as trim
use Rattle.csv.specs.declared.parser.State.TheVariants as st
use Rattle.csv.proofs.ReadFacts.{rows-more, rows-end}
use Rattle.shop_files.specs.declared.orders.OrderLine.{OrderLine}
use Rattle.shop_files.specs.Orders.{Fields, FieldSays, SaysFrom, IsLineRecord, IsBad, IsGood, IsBadLine, HasRead, HasNext, AllRecords, AreLineRecords, IsOrders, IsOrdersFault, IsBadHeader, header}

-- what holds below a number, and at it
pub more : (P : ℕ → Type 0) (n : ℕ) → ((j : ℕ) → j < n → P j) → P n → (j : ℕ) → j < suc n → P j
more P n below at j l =
    elim (cases_lt j n) [
      | inl h ↦ below j h
      | inr h ↦ (let same : n ≡ j = omega arith in subst P same at)
    ]

pub none_below : (P : ℕ → Type 0) (j : ℕ) → j < 0 → P j
none_below P j l = absurd (omega arith)

pub blank : OrderLine
blank = record { line = 0; material = []; w = 0; h = 0; turn = false; count = 0; worth = 0 }

pub bad_line : (fields : Fields) → length fields ≡ 7 → (i : ℕ) (field : List ℕ) → field ≡ get_or fields i [] → i < 7 → IsBad i field
    → ((j : ℕ) → j < i → IsGood j (get_or fields j [])) → IsBadLine fields i
bad_line fields seven i field is l bad before = inr (seven, l, subst (IsBad i) is bad, before)

pub good_field : (fields : Fields) (i : ℕ) (field : List ℕ) → field ≡ get_or fields i [] → (line : OrderLine) → FieldSays line i field → IsGood i (get_or fields i [])
good_field fields i field is line says = (line, subst (FieldSays line i) is says)

says_from : (line : OrderLine) (i : ℕ) (fields : Fields) → i + length fields ≡ 7 → ((j : ℕ) → j < length fields → FieldSays line (i + j) (get_or fields j [])) → SaysFrom line i fields
says_from line i [] e h = omega arith
says_from line i (f ∷ fs) e h =
    let here : i + 0 ≡ i = omega arith in (
      subst (λ n. FieldSays line n f) here (h 0 (omega arith)),
      says_from line (suc i) fs (omega arith) (λ j l. (let next : i + suc j ≡ suc i + j = omega arith in subst (λ n. FieldSays line n (get_or fs j [])) next (h (suc j) (omega arith)))),
    )

pub whole_line : (fields : Fields) → length fields ≡ 7 → (line : OrderLine) → ((j : ℕ) → j < 7 → FieldSays line j (get_or fields j [])) → IsLineRecord fields line
whole_line fields seven line h =
    says_from line 0 fields (omega (arith, seven)) (λ j l. (let e : j ≡ 0 + j = omega arith in subst (λ n. FieldSays line n (get_or fields j [])) e (h j (omega (arith, seven)))))

pub next_read : {R : Type 0} (rem : R → Option (List ℕ)) (a b : Reader R) (found : Bool) (f : List (List ℕ)) → took_first b ≡ true
    → ((reader_trim a ≡ trim.None) → Ready a → ReadRecord rem a b found f)
    → (text : List ℕ) (rows : List Fields) → HasRead rem a text rows → HasNext rem found text rows f b
next_read rem a b true f first reads text rows h =
    let r = reads h.0 h.1 in
    let m = rows-more rem a b f default_config st.StartRecord (strip_bom text) h.3.0 rows h.2 h.3.1 h.3.2 r in
    (r.3 ∙ h.0, inl first, r.2 ∙ h.2, (m.0, m.1, m.2))
next_read rem a b false f first reads text rows h =
    (reader_state a, h.3.0, h.3.2, rows-end rem a b f default_config h.3.0 h.2 h.3.1 (reads h.0 h.1))

pub same_lists : (xs ys : Fields) → length xs ≡ length ys → ((j : ℕ) → j < length xs → get_or xs j [] ≡ get_or ys j []) → xs ≡ ys
same_lists [] [] e h = refl
same_lists [] (y ∷ ys) e h = absurd (omega (arith, e))
same_lists (x ∷ xs) [] e h = absurd (omega (arith, e))
same_lists (x ∷ xs) (y ∷ ys) e h =
    let first = h 0 (omega arith) in
    let rest = same_lists xs ys (omega (arith, e)) (λ j l. h (suc j) (omega arith)) in
    λ i. first i ∷ rest i

-- a reader stands after the header and n lines of a text
pub record HasLines {R : Type 0} (rem : R → Option (List ℕ)) (reader : Reader R) (text : List ℕ) (lines : List OrderLine) (n : ℕ) : Type 0 where
  pub rows : List Fields
  pub read : HasRead rem reader text (header ∷ rows)
  pub are_lines : AreLineRecords rows lines
  pub number : length rows ≡ n

one_more_line : (rows : List Fields) (lines : List OrderLine) (fields : Fields) (line : OrderLine) → AreLineRecords rows lines → IsLineRecord fields line → AreLineRecords (rows ++ fields ∷ []) (lines ++ line ∷ [])
one_more_line [] [] fields line h l = (l, tt)
one_more_line [] (x ∷ lines) fields line h l = absurd h
one_more_line (r ∷ rows) [] fields line h l = absurd h
one_more_line (r ∷ rows) (x ∷ lines) fields line h l = (h.0, one_more_line rows lines fields line h.1 l)

module _ {R : Type 0} (rem : R → Option (List ℕ)) where
  pub no_lines : (a : Reader R) (text : List ℕ) → HasRead rem a text (header ∷ []) → HasLines rem a text [] 0
  no_lines a text h = record { rows = []; read = h; are_lines = tt; number = refl }

  module _ (a b : Reader R) (text : List ℕ) (lines : List OrderLine) (n : ℕ) (h : HasLines rem a text lines n) (fields : Fields) where
    pub line_read : HasRead rem b text ((header ∷ h.rows) ++ fields ∷ []) → (line : OrderLine) → IsLineRecord fields line → HasLines rem b text (lines ++ line ∷ []) (n + 1)
    line_read r line is = record {
      rows = h.rows ++ fields ∷ [];
      read = r;
      are_lines = one_more_line h.rows lines fields line h.are_lines is;
      number = omega (arith, length-append h.rows (fields ∷ []), h.number);
    }

    fault : HasRead rem b text ((header ∷ h.rows) ++ fields ∷ []) → length text ≤ 65536 → (i : ℕ) → ((n < 200) × IsBadLine fields i) ⊎ ((n ≡ 200) × (i ≡ 7)) → IsOrdersFault text (n + 1) i
    fault r short i bad =
        inr (
          n,
          omega arith,
          record {
            short = short;
            rows = h.rows;
            lines = lines;
            fields = fields;
            records = (reader_state b, r.3.0, r.3.2);
            are_lines = h.are_lines;
            number = h.number;
            bad = bad;
          },
        )

    pub bad_row : HasRead rem b text ((header ∷ h.rows) ++ fields ∷ []) → length text ≤ 65536 → n < 200 → (i : ℕ) → IsBadLine fields i → IsOrdersFault text (n + 1) i
    bad_row r short few i bad = fault r short i (inl (few, bad))

    pub row_too_many : HasRead rem b text ((header ∷ h.rows) ++ fields ∷ []) → length text ≤ 65536 → n ≡ 200 → IsOrdersFault text (n + 1) 7
    row_too_many r short is = fault r short 7 (inr (is, refl))

  pub all_lines : (a : Reader R) (text : List ℕ) (lines : List OrderLine) (n : ℕ) (h : HasLines rem a text lines n) → AllRecords text (header ∷ h.rows) → length text ≤ 65536 → n ≤ 200 → IsOrders text lines
  all_lines a text lines n h all short few = record { short = short; rows = h.rows; records = all; few = omega (arith, h.number); are_lines = h.are_lines }

pub header_bad : {R : Type 0} (rem : R → Option (List ℕ)) (b : Reader R) (text : List ℕ) (fields : Fields) (i : ℕ) → length text ≤ 65536 → HasRead rem b text (fields ∷ []) → IsBadHeader fields i → IsOrdersFault text 0 i
header_bad rem b text fields i short h bad = inl (refl, inr (inr (short, (fields, (reader_state b, h.3.0, h.3.2), bad))))

pub ok_over : {A E : Type 0} (Q : List ℕ → A → Type 0) (H : List ℕ → Type 0) (r : Result A E) (text : List ℕ) → length text ≤ 65536 → H text
    → IfOk r (λ x. (t : List ℕ) → length t ≤ 65536 → H t → Q t x) → IfOk r (Q text)
ok_over Q H (Ok x) text short h f = f text short h
ok_over Q H (Err e) text short h f = tt

pub err_over : {A E : Type 0} (Q : List ℕ → E → Type 0) (H : List ℕ → Type 0) (r : Result A E) (text : List ℕ) → length text ≤ 65536 → H text
    → IfErr r (λ x. (t : List ℕ) → length t ≤ 65536 → H t → Q t x) → IfErr r (Q text)
err_over Q H (Ok x) text short h f = tt
err_over Q H (Err e) text short h f = f text short h
