-- The runs of a text, as one reads them from the left.
use Rattle.std.proofs.Common.{◌≡◌, ℕ, zero, suc, ◌+◌, ◌<◌, ◌≤◌, List, [], ◌∷◌, length, get_or, take, drop, Bool, true, false, refl, ap, ◌∙◌, arith, lit<}
use Rattle.std.specs.Prelude.{if◌then◌else◌, ◌==◌}
use Rattle.std.proofs.lemmas.Bool.{ne_eqb, eq-eqb}
use Rattle.std.proofs.Math.Seq.{drop-length}
use Rattle.std.proofs.lemmas.List.{length-drop, get_or-drop, drop-drop}
use Rattle.std.specs.Str.Parse.{AllDigits}
use Rattle.std.specs.Char.{digit_value}
use Rattle.std.proofs.lemmas.Bool.Decides.{nat_tests}
use Rattle.shop_files.specs.Runs.{DigitRun, is_digit, with_digit, runs_from}

-- the first run, if there is one, stands at this place or after it
abbrev pub BeginsFrom : ℕ → List DigitRun → Type 0
BeginsFrom place [] = Unit {0}
BeginsFrom place (run ∷ more) = place ≤ run.place

begins_before : (rs : List DigitRun) (m n : ℕ) → m ≤ n → BeginsFrom n rs → BeginsFrom m rs
begins_before [] m n le h = tt
begins_before (r ∷ rs) m n le h = omega arith

either : {A : Type 0} (P : A → Type 0) (b : Bool) (x y : A) → P x → P y → P (if b then x else y)
either P true x y p q = p
either P false x y p q = q

begins_with : (rs : List DigitRun) (place b : ℕ) → BeginsFrom place (with_digit place b rs)
begins_with [] place b = omega arith
begins_with (r ∷ rs) place b = either (BeginsFrom place) (r.place == suc place) _ _ (omega arith) (omega arith)

pub begins_from : (bs : List ℕ) (place : ℕ) → BeginsFrom place (runs_from place bs)
unfolding runs_from
begins_from [] place = tt
begins_from (b ∷ bs) place =
    either (BeginsFrom place) (is_digit b) _ _ (begins_with (runs_from (suc place) bs) place b)
    (begins_before (runs_from (suc place) bs) place (suc place) (omega arith) (begins_from bs (suc place)))

begins_after_gap : (bs : List ℕ) (place : ℕ) → (0 < length bs → is_digit (get_or bs 0 0) ≡ false) → BeginsFrom (suc place) (runs_from place bs)
unfolding runs_from
begins_after_gap [] place gap = tt
begins_after_gap (b ∷ bs) place gap = rw (gap (omega arith)) (begins_from bs (suc place))

alone : (rs : List DigitRun) (place b : ℕ) → BeginsFrom (suc (suc place)) rs → with_digit place b rs ≡ record { place = place; digits = b ∷ [] } ∷ rs
alone [] place b far = refl
alone (r ∷ rs) place b far = rw (ne_eqb r.place (suc place) (λ e. omega arith)) refl

joined : (place b : ℕ) (ds : List ℕ) (more : List DigitRun) → with_digit place b (record { place = suc place; digits = ds } ∷ more) ≡ record { place = place; digits = b ∷ ds } ∷ more
joined place b ds more = rw (eq-eqb (suc place) (suc place) refl) refl

-- bytes that are no digits are passed over
pub skips : (n : ℕ) (bs : List ℕ) (place : ℕ) → n ≤ length bs → ((i : ℕ) → i < n → is_digit (get_or bs i 0) ≡ false) → runs_from place bs ≡ runs_from (place + n) (drop n bs)
unfolding runs_from
skips zero bs place le gap = ap (λ p. runs_from p bs) (omega arith)
skips (suc n) [] place le gap = absurd (omega arith)
skips (suc n) (b ∷ bs) place le gap =
    rw (gap 0 (omega arith)) (skips n bs (suc place) (omega arith) (λ i l. gap (suc i) (omega arith)) ∙ ap (λ p. runs_from p (drop n bs)) (omega arith))

-- digits with none after them are a run
pub run_here : (k : ℕ) (bs : List ℕ) (place : ℕ) → suc k ≤ length bs → ((i : ℕ) → i < suc k → is_digit (get_or bs i 0) ≡ true)
    → (suc k < length bs → is_digit (get_or bs (suc k) 0) ≡ false)
    → runs_from place bs ≡ record { place = place; digits = take (suc k) bs } ∷ runs_from (place + suc k) (drop (suc k) bs)
unfolding runs_from
run_here k [] place le digits after = absurd (omega arith)
run_here zero (b ∷ bs) place le digits after =
    rw (digits 0 (lit< tt))
    (alone (runs_from (suc place) bs) place b (begins_after_gap bs (suc place) (λ l. after (omega arith)))
    ∙ ap (λ p. record { place = place; digits = b ∷ [] } ∷ runs_from p bs) (omega arith))
run_here (suc k) (b ∷ bs) place le digits after =
    rw (digits 0 (omega arith))
    (ap (with_digit place b) (run_here k bs (suc place) (omega arith) (λ i l. digits (suc i) (omega arith)) (λ l. after (omega arith)))
    ∙ joined place b (take (suc k) bs) (runs_from (suc place + suc k) (drop (suc k) bs))
    ∙ ap (λ p. record { place = place; digits = b ∷ take (suc k) bs } ∷ runs_from p (drop (suc k) bs)) (omega arith))

pub runs_end : (text : List ℕ) (place : ℕ) → runs_from place (drop (length text) text) ≡ []
unfolding runs_from
runs_end text place = ap (runs_from place) (drop-length text)

first_digit : (place b : ℕ) (rs : List DigitRun) → (run : DigitRun) × (more : List DigitRun) × (with_digit place b rs ≡ run ∷ more) × (run.place ≡ place)
first_digit place b [] = (record { place = place; digits = b ∷ [] }, [], refl, refl)
first_digit place b (r ∷ rs) = either (λ l. (run : DigitRun) × (more : List DigitRun) × (l ≡ run ∷ more) × (run.place ≡ place)) (r.place == suc place) _ _ (_, _, refl, refl) (_, _, refl, refl)

-- a run begins where a digit stands after what isn't read
pub run_first : (bs : List ℕ) (place : ℕ) → 0 < length bs → is_digit (get_or bs 0 0) ≡ true → (run : DigitRun) × (more : List DigitRun) × (runs_from place bs ≡ run ∷ more) × (run.place ≡ place)
unfolding runs_from
run_first [] place some digit = absurd (omega arith)
run_first (b ∷ bs) place some digit = rw digit (first_digit place b (runs_from (suc place) bs))

pub run_at : (text : List ℕ) (place : ℕ) → place < length text → is_digit (get_or text place 0) ≡ true → (run : DigitRun) × (more : List DigitRun) × (runs_from place (drop place text) ≡ run ∷ more) × (run.place ≡ place)
run_at text place inside digit =
    run_first (drop place text) place (omega (arith, length-drop place text)) (ap is_digit (get_or-drop place text 0 0) ∙ ap (λ n. is_digit (get_or text n 0)) (omega arith) ∙ digit)

digit_below : (b : ℕ) → is_digit b ≡ true → digit_value b < 10
digit_below b e = grind (arith, nat_tests)

pub all_digits : (ds : List ℕ) → ((i : ℕ) → i < length ds → is_digit (get_or ds i 0) ≡ true) → AllDigits 10 ds
all_digits [] h = tt
all_digits (d ∷ ds) h = (digit_below d (h 0 (omega arith)), all_digits ds (λ i l. h (suc i) (omega arith)))

-- the same of the prefix of a text's bytes
pub prefix_digits : (n : ℕ) (bs : List ℕ) → n ≤ length bs → ((i : ℕ) → i < n → is_digit (get_or bs i 0) ≡ true) → AllDigits 10 (take n bs)
prefix_digits zero bs le h = tt
prefix_digits (suc n) [] le h = absurd (omega arith)
prefix_digits (suc n) (b ∷ bs) le h = (digit_below b (h 0 (omega arith)), prefix_digits n bs (omega arith) (λ i l. h (suc i) (omega arith)))

pub run_text : (n : ℕ) (text : List ℕ) (place : ℕ) → 0 < n → n ≤ length (drop place text) → ((i : ℕ) → i < n → is_digit (get_or (drop place text) i 0) ≡ true)
    → (n < length (drop place text) → is_digit (get_or (drop place text) n 0) ≡ false)
    → runs_from place (drop place text) ≡ record { place = place; digits = take n (drop place text) } ∷ runs_from (place + n) (drop (place + n) text)
run_text zero text place some le digits after = absurd (omega arith)
run_text (suc k) text place some le digits after =
    run_here k (drop place text) place le digits after
    ∙ ap (λ l. record { place = place; digits = take (suc k) (drop place text) } ∷ runs_from (place + suc k) l) (drop-drop (suc k) place text)
