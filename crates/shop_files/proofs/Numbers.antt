-- Reading a problem's numbers one after another.
use Rattle.std.proofs.Common.{◌≡◌, ℕ, suc, ◌+◌, ◌*◌, ◌%◌, ◌<◌, ◌≤◌, List, [], ◌∷◌, ◌++◌, length, map, get_or, take, drop, Bool, true, false, refl, ap, sym, ◌∙◌, subst, arith, append_assoc, length-append, le-leb}
use Rattle.std.specs.Prelude.{nat_le}
use Rattle.std.proofs.lemmas.Bool.{ne_eqb, eq-eqb, and_parts, leb-true}
use Rattle.std.proofs.lemmas.List.{length-drop}
use Rattle.std.specs.Str.Parse.{digits_value}
use Rattle.std.proofs.lemmas.List.{length-map, map-append}
use Rattle.std.proofs.lemmas.Grind.{flat_map-append}
use Rattle.std.specs.List.{flat_map}
use Rattle.shop_files.specs.declared.problems.Piece.{Piece}
use Rattle.shop_files.specs.Runs.{DigitRun, value_of, is_digit}
use Rattle.shop_files.proofs.Runs.{run_text}
use Rattle.shop_files.specs.Problems.{most_at, fits, AllFit, IsBadNumber, Stops, ReadsRuns, HasNumber, HasPiece, HasPieces, runs_at, piece_numbers}
use Rattle.shop_files.specs.declared.problems.TextCause.{TextCause}
use Rattle.shop_files.specs.declared.problems.TextCause.TheVariants.{Long, Byte, Number, Short, NoMemory}

at_index : {i j : ℕ} (runs : List DigitRun) → i ≡ j → AllFit i runs → AllFit j runs
at_index runs same fit = subst (λ n. AllFit n runs) same fit

pub fit_append : (i : ℕ) (xs ys : List DigitRun) → AllFit i xs → AllFit (i + length xs) ys → AllFit i (xs ++ ys)
fit_append i [] ys f g = at_index ys (omega arith) g
fit_append i (x ∷ xs) ys f g = (f.0, fit_append (suc i) xs ys f.1 (at_index ys (omega arith) g))

bad_after : (i : ℕ) (runs prefix rest : List DigitRun) (most place : ℕ) → runs ≡ prefix ++ rest → AllFit i prefix → IsBadNumber (i + length prefix) rest most place → IsBadNumber i runs most place
bad_after i runs prefix rest most place parts fit (before, run, more, is, f, l, bad, p) =
    let size : i + length prefix + length before ≡ i + length (prefix ++ before) = omega (arith, length-append prefix before) in
    (prefix ++ before, run, more, parts ∙ ap (λ l. prefix ++ l) is ∙ sym (append_assoc prefix before (run ∷ more)), fit_append i prefix before fit f, subst (λ n. n < most) size l, subst (λ n. fits n run ≡ false) size bad, p)

-- what is wrong after numbers that were read is wrong with all
pub stops_after : (i : ℕ) (runs prefix rest : List DigitRun) (len most offset : ℕ) (cause : TextCause) → runs ≡ prefix ++ rest → AllFit i prefix
    → Stops (i + length prefix) rest len most offset cause → Stops i runs len most offset cause
stops_after i runs prefix rest len most offset Number parts fit h = bad_after i runs prefix rest most offset parts fit h
stops_after i runs prefix rest len most offset Short parts fit h =
    ((subst (AllFit i) (sym parts) (fit_append i prefix rest fit h.0.0), omega (arith, ap length parts, length-append prefix rest, h.0.1)), h.1)
stops_after i runs prefix rest len most offset Long parts fit h = h
stops_after i runs prefix rest len most offset Byte parts fit h = h
stops_after i runs prefix rest len most offset NoMemory parts fit h = h

pub reads_on : (i : ℕ) (text : List ℕ) (at : ℕ) (prefix : List DigitRun) (mid : ℕ) (more : List DigitRun) (next : ℕ) → ReadsRuns i text at prefix mid → ReadsRuns (i + length prefix) text mid more next → ReadsRuns i text at (prefix ++ more) next
reads_on i text at prefix mid more next a b = record {
  runs = a.runs ∙ ap (λ l. prefix ++ l) b.runs ∙ sym (append_assoc prefix more (runs_at text next));
  fit = fit_append i prefix more a.fit b.fit;
  within = b.within;
}

-- where a piece's numbers stand, and how great they may be
module _ (i : ℕ) (third : i % 4 ≡ 3) where
  pub most_w : most_at i ≡ 200000
  most_w = rw (ne_eqb i 0 (λ e. omega arith), ne_eqb i 1 (λ e. omega arith), ne_eqb i 2 (λ e. omega arith), eq-eqb (i % 4) 3 third) refl

  pub most_h : most_at (i + 1) ≡ 60000
  most_h = rw (ne_eqb (i + 1) 0 (λ e. omega arith), ne_eqb (i + 1) 1 (λ e. omega arith), ne_eqb (i + 1) 2 (λ e. omega arith), ne_eqb ((i + 1) % 4) 3 (λ e. omega arith), eq-eqb ((i + 1) % 4) 0 (omega arith)) refl

  pub most_count : most_at (i + 2) ≡ 1000000
  most_count =
      rw (ne_eqb (i + 2) 0 (λ e. omega arith), ne_eqb (i + 2) 1 (λ e. omega arith), ne_eqb (i + 2) 2 (λ e. omega arith), ne_eqb ((i + 2) % 4) 3 (λ e. omega arith), ne_eqb ((i + 2) % 4) 0 (λ e. omega arith), eq-eqb ((i + 2) % 4) 1 (omega arith)) refl

  pub most_worth : most_at (i + 3) ≡ 1000000000
  most_worth =
      rw (ne_eqb (i + 3) 0 (λ e. omega arith), ne_eqb (i + 3) 1 (λ e. omega arith), ne_eqb (i + 3) 2 (λ e. omega arith), ne_eqb ((i + 3) % 4) 3 (λ e. omega arith), ne_eqb ((i + 3) % 4) 0 (λ e. omega arith), ne_eqb ((i + 3) % 4) 1 (λ e. omega arith)) refl

-- what is wrong after a number is wrong from it on
pub after_number : (text : List ℕ) (at most value next : ℕ) → HasNumber text at most value next → (i len count offset : ℕ) (cause : TextCause) → most_at i ≡ most
    → Stops (i + 1) (runs_at text next) len count offset cause → Stops i (runs_at text at) len count offset cause
after_number text at most value next h i len count offset cause is s =
    stops_after i (runs_at text at) (h.0 ∷ []) (runs_at text next) len count offset cause (h.2 i is).runs (h.2 i is).fit s

pub four_numbers : (text : List ℕ) (a b c d e w h count worth : ℕ) → HasNumber text a 200000 w b → HasNumber text b 60000 h c → HasNumber text c 1000000 count d → HasNumber text d 1000000000 worth e
    → (prefix : List DigitRun) × (map value_of prefix ≡ w ∷ h ∷ count ∷ worth ∷ []) × ((i : ℕ) → i % 4 ≡ 3 → ReadsRuns i text a prefix e)
four_numbers text a b c d e w h count worth p q r s = (
  p.0 ∷ q.0 ∷ r.0 ∷ s.0 ∷ [],
  rw (p.1, q.1, r.1, s.1) refl,
  λ i third. (
      let two : i + 1 + 1 ≡ i + 2 = omega arith in
      let three : i + 1 + 1 + 1 ≡ i + 3 = omega arith in
      reads_on i text a (p.0 ∷ []) b (q.0 ∷ r.0 ∷ s.0 ∷ []) e (p.2 i (most_w i third)) (reads_on (i + 1) text b (q.0 ∷ []) c (r.0 ∷ s.0 ∷ []) e (q.2 (i + 1) (most_h i third))
      (reads_on (i + 1 + 1) text c (r.0 ∷ []) d (s.0 ∷ []) e (r.2 (i + 1 + 1) (ap most_at two ∙ most_count i third)) (s.2 (i + 1 + 1 + 1) (ap most_at three ∙ most_worth i third))))),
)

not_true : (b : Bool) → (b ≡ true → ⊥) → b ≡ false
not_true true h = absurd (h refl)
not_true false h = refl

fits_where : (i most : ℕ) (run : DigitRun) → most_at i ≡ most → 1 ≤ value_of run → value_of run ≤ most → fits i run ≡ true
fits_where i most run is low high = rw (le-leb 1 (value_of run) low, le-leb (value_of run) (most_at i) (omega (arith, is, high))) refl

bad_where : (i most : ℕ) (run : DigitRun) → most_at i ≡ most → ((1 ≤ value_of run) × (value_of run ≤ most) → ⊥) → fits i run ≡ false
bad_where i most run is bad =
    not_true (fits i run) (λ e.
    let both = and_parts (nat_le 1 (value_of run)) (nat_le (value_of run) (most_at i)) e in
    bad (leb-true 1 (value_of run) both.0, omega (arith, is, leb-true (value_of run) (most_at i) both.1)))

-- a number of these digits was met
pub record Meets (text : List ℕ) (at place : ℕ) (digits : List ℕ) : Type 0 where
  pub runs : runs_at text at ≡ record { place = place; digits = digits } ∷ runs_at text (place + length digits)
  pub within : place + length digits ≤ length text

pub met : (text digits rest : List ℕ) (at place : ℕ) → rest ≡ drop place text → runs_at text at ≡ runs_at text place → place < length text
    → (0 < length digits) × (length digits ≤ length rest) × (digits ≡ take (length digits) rest)
    → ((i : ℕ) → i < length digits → is_digit (get_or rest i 0) ≡ true) → (length digits < length rest → is_digit (get_or rest (length digits) 0) ≡ false)
    → Meets text at place digits
met text digits rest at place is same inside some all after = record {
  runs =
      same ∙ run_text (length digits) text place some.0 (subst (λ (l : List ℕ). length digits ≤ length l) is some.1)
      (subst (λ (l : List ℕ). (i : ℕ) → i < length digits → is_digit (get_or l i 0) ≡ true) is all)
      (subst (λ (l : List ℕ). length digits < length l → is_digit (get_or l (length digits) 0) ≡ false) is after)
      ∙ ap (λ ds. record { place = place; digits = ds } ∷ runs_at text (place + length digits)) (sym (some.2 ∙ ap (take (length digits)) is));
  within = omega (arith, some.1, ap length is, length-drop place text, inside);
}

pub has_number : (text digits : List ℕ) (at place most : ℕ) → Meets text at place digits → 1 ≤ digits_value 10 digits → digits_value 10 digits ≤ most
    → HasNumber text at most (digits_value 10 digits) (place + length digits)
has_number text digits at place most m low high =
    (record { place = place; digits = digits }, refl, λ i is. record { runs = m.runs; fit = (fits_where i most (record { place = place; digits = digits }) is low high, tt); within = m.within })

pub stops_here : (text digits : List ℕ) (at place most : ℕ) → Meets text at place digits → ((1 ≤ digits_value 10 digits) × (digits_value 10 digits ≤ most) → ⊥)
    → (i count : ℕ) → most_at i ≡ most → i < count → Stops i (runs_at text at) (length text) count place Number
stops_here text digits at place most m bad i count is l = (
  [],
  record { place = place; digits = digits },
  runs_at text (place + length digits),
  m.runs,
  tt,
  omega arith,
  (let zero_more : i + 0 ≡ i = omega arith in subst (λ n. fits n (record { place = place; digits = digits }) ≡ false) (sym zero_more) (bad_where i most (record { place = place; digits = digits }) is bad)),
  refl,
)

pub stops_at_end : (text : List ℕ) (at : ℕ) → runs_at text at ≡ [] → (i count : ℕ) → i < count → Stops i (runs_at text at) (length text) count (length text) Short
stops_at_end text at none i count l = ((subst (AllFit i) (sym none) tt, omega (arith, ap length none)), refl)

pub no_pieces : (text : List ℕ) (at : ℕ) → at ≤ length text → HasPieces text at 0 [] at
no_pieces text at within = ([], refl, refl, refl, record { runs = refl; fit = tt; within = within })

pub one_more_piece : (text : List ℕ) (at n : ℕ) (pieces : List Piece) (mid : ℕ) (piece : Piece) (next : ℕ) → HasPieces text at n pieces mid → HasPiece text mid piece next
    → HasPieces text at (n + 1) (pieces ++ piece ∷ []) next
one_more_piece text at n pieces mid piece next h p =
    let four : length p.0 ≡ 4 = sym (length-map p.0 value_of) ∙ ap length p.1 in (
      h.0 ++ p.0,
      map-append value_of h.0 p.0 ∙ ap (λ l. l ++ map value_of p.0) h.1 ∙ ap (λ l. flat_map piece_numbers pieces ++ l) p.1 ∙ sym (flat_map-append piece_numbers pieces (piece ∷ [])),
      omega (arith, length-append pieces (piece ∷ []), h.2),
      omega (arith, length-append h.0 p.0, four, h.3),
      reads_on 3 text at h.0 mid p.0 next h.4 (p.2 (3 + length h.0) (omega (arith, h.3))),
    )

pub stops_in_piece : (text : List ℕ) (at n count : ℕ) (pieces : List Piece) (mid offset : ℕ) (cause : TextCause) → HasPieces text at n pieces mid → n < count
    → ((i most : ℕ) → i % 4 ≡ 3 → i + 3 < most → Stops i (runs_at text mid) (length text) most offset cause)
    → Stops 3 (runs_at text at) (length text) (3 + 4 * count) offset cause
stops_in_piece text at n count pieces mid offset cause h l s =
    stops_after 3 (runs_at text at) h.0 (runs_at text mid) (length text) (3 + 4 * count) offset cause h.4.runs h.4.fit (s (3 + length h.0) (3 + 4 * count) (omega (arith, h.3)) (omega (arith, h.3, l)))
