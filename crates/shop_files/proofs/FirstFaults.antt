-- A text has one first fault: each kind of fault excludes the others, and two of a kind stand at one place.
use Rattle.std.proofs.Common.{◌≡◌, ◌<◌, ◌≤◌, ◌+◌, ℕ, zero, suc, List, [], ◌∷◌, ◌++◌, length, get_or, Bool, true, false, refl, ap, sym, ◌∙◌, subst, inl, inr, arith, length-append}
use Rattle.std.specs.Prelude.{Err}
use Rattle.std.proofs.lemmas.Bool.{cases_lt, false≢true}
use Rattle.std.proofs.lemmas.List.{get_or_append_left}
use Rattle.std.proofs.lemmas.List.Folds.{list_all_at}
use Rattle.std.proofs.Math.Seq.{get_or-append_seam}
use Rattle.csv.specs.Machine.{Read}
use Rattle.csv.specs.Reading.{Reached}
use Rattle.csv.specs.declared.parser.Config.{Config}
use Rattle.csv.specs.declared.parser.State.{State}
use Rattle.toml.specs.Data.{Data}
use Rattle.shop_files.specs.declared.problems.TextCause.{TextCause}
use Rattle.shop_files.specs.declared.problems.TextCause.TheVariants.{Long, Byte, Number, Short, NoMemory}
use Rattle.shop_files.specs.declared.orders.OrderLine.{OrderLine}
use Rattle.shop_files.specs.declared.shops.MaterialEntry.{MaterialEntry}
use Rattle.shop_files.specs.declared.shops.ShopFault.{ShopFault}
use Rattle.shop_files.specs.declared.shops.ShopFault.TheVariants as shop
use Rattle.shop_files.specs.Runs.{DigitRun, runs_of}
use Rattle.shop_files.specs.Problems.{AllFit, AreFew, IsBadByte, IsBadNumber, IsNumbers, IsOneTooMany, IsProblemFault, fits, is_problem_byte, wanted}
use Rattle.shop_files.specs.Orders.{AllRecords, AreLineRecords, Fields, FirstRecords, IsBad, IsBadHeader, IsBadLine, IsHeaderFault, IsLineFault, IsLineRecord, IsOrdersFault, header}
use Rattle.shop_files.specs.Shops.{AreEntries, IsBadEntry, IsEntry, IsShopFile, IsShopFault}
use Rattle.shop_files.proofs.OneOrder.{first_rows, header_not_bad, line_not_bad, one_of}
use Rattle.shop_files.proofs.Entries.{only_shop, same_list}

-- Two places that are bad, and before which none is, are one.
pub one_first : (Bad : ℕ → Type 0) (m n : ℕ) → Bad m → Bad n → ((j : ℕ) → j < m → Bad j → ⊥) → ((j : ℕ) → j < n → Bad j → ⊥) → m ≡ n
one_first Bad m n at_m at_n before_m before_n =
    elim (cases_lt m n) [
      | inl l ↦ absurd (before_n m l at_m)
      | inr l ↦
          elim (cases_lt n m) [
            | inl k ↦ absurd (before_m n k at_n)
            | inr k ↦ omega (arith, l, k)
          ]
    ]

not_both : {b : Bool} → b ≡ true → b ≡ false → ⊥
not_both p q = false≢true (sym q ∙ p)

-- Problem files.

one_byte : (text : List ℕ) (m n : ℕ) → IsBadByte text m → IsBadByte text n → m ≡ n
one_byte text m n a b =
    one_first (λ i. is_problem_byte (get_or text i 0) ≡ false) m n a.1 b.1 (λ j l bad. not_both (a.2 j l) bad) (λ j l bad. not_both (b.2 j l) bad)

no_byte : (text : List ℕ) (m : ℕ) → IsNumbers text → IsBadByte text m → ⊥
no_byte text m numbers bad = not_both numbers.1 (list_all_at is_problem_byte text m 0 bad.0 bad.1)

abbrev blank : DigitRun
blank = record { place = 0; digits = [] }

fit_in : (i : ℕ) (prefix : List DigitRun) → AllFit i prefix → (j : ℕ) → j < length prefix → fits (i + j) (get_or prefix j blank) ≡ true
fit_in i [] fit j l = absurd (omega arith)
fit_in i (run ∷ prefix) fit zero l = let e : i ≡ i + 0 = omega arith in subst (λ n. fits n run ≡ true) e fit.0
fit_in i (run ∷ prefix) fit (suc j) l =
    let e : suc i + j ≡ i + suc j = omega arith in subst (λ n. fits n (get_or prefix j blank) ≡ true) e (fit_in (suc i) prefix fit.1 j (omega arith))

-- the first runs are in range
abbrev FitBelow : List DigitRun → ℕ → Type 0
FitBelow runs n = (j : ℕ) → j < n → fits j (get_or runs j blank) ≡ true

fit_below : (runs prefix : List DigitRun) (run : DigitRun) (more : List DigitRun) → runs ≡ prefix ++ run ∷ more → AllFit 0 prefix → FitBelow runs (length prefix)
fit_below runs prefix run more is fit j l =
    subst (λ (r : DigitRun). fits j r ≡ true) (sym (ap (λ rs. get_or rs j blank) is ∙ get_or_append_left prefix (run ∷ more) blank j l)) (let e : 0 + j ≡ j = omega arith in subst (λ n. fits n (get_or prefix j blank) ≡ true) e (fit_in 0 prefix fit j l))

run_there : (runs prefix : List DigitRun) (run : DigitRun) (more : List DigitRun) → runs ≡ prefix ++ run ∷ more → get_or runs (length prefix) blank ≡ run
run_there runs prefix run more is = ap (λ rs. get_or rs (length prefix) blank) is ∙ get_or-append_seam prefix run more blank

inside : (runs prefix : List DigitRun) (run : DigitRun) (more : List DigitRun) → runs ≡ prefix ++ run ∷ more → length prefix < length runs
inside runs prefix run more is = omega (arith, ap length is, length-append prefix (run ∷ more))

-- a number out of range, by its index
record OutOfRange (runs : List DigitRun) (most place : ℕ) : Type 0 where
  pub at : ℕ
  pub before : FitBelow runs at
  pub bad : fits at (get_or runs at blank) ≡ false
  pub within : at < length runs
  pub needed : at < most
  pub is_place : (get_or runs at blank).place ≡ place

out_of_range : (runs : List DigitRun) (most place : ℕ) → IsBadNumber 0 runs most place → OutOfRange runs most place
out_of_range runs most place h =
    let there = run_there runs h.0 h.1 h.2 h.3 in
    let first : 0 + length h.0 ≡ length h.0 = omega arith in
    let bad : fits (length h.0) h.1 ≡ false = subst (λ n. fits n h.1 ≡ false) first h.6 in
    record {
      at = length h.0;
      before = fit_below runs h.0 h.1 h.2 h.3 h.4;
      bad = subst (λ (r : DigitRun). fits (length h.0) r ≡ false) (sym there) bad;
      within = inside runs h.0 h.1 h.2 h.3;
      needed = omega (arith, h.5);
      is_place = ap (λ (r : DigitRun). r.place) there ∙ h.7;
    }

one_number : (runs : List DigitRun) (most m n : ℕ) → IsBadNumber 0 runs most m → IsBadNumber 0 runs most n → m ≡ n
one_number runs most m n h k =
    let a = out_of_range runs most m h in
    let b = out_of_range runs most n k in
    let same =
    one_first (λ j. fits j (get_or runs j blank) ≡ false) a.at b.at a.bad b.bad (λ j l bad. not_both (a.before j l) bad) (λ j l bad. not_both (b.before j l) bad) in
    sym a.is_place ∙ ap (λ j. (get_or runs j blank).place) same ∙ b.is_place

few_no_number : (runs : List DigitRun) (most m : ℕ) → AreFew 0 runs most → IsBadNumber 0 runs most m → ⊥
few_no_number runs most m few h =
    let a = out_of_range runs most m h in
    not_both (let e : 0 + a.at ≡ a.at = omega arith in subst (λ n. fits n (get_or runs a.at blank) ≡ true) e (fit_in 0 runs few.0 a.at a.within)) a.bad

many_no_number : (runs : List DigitRun) (most m n : ℕ) → IsOneTooMany runs most m → IsBadNumber 0 runs most n → ⊥
many_no_number runs most m n many h =
    let a = out_of_range runs most n h in
    not_both (fit_below runs many.0 many.1 many.2 many.3 many.4 a.at (omega (arith, a.needed, many.5))) a.bad

many_no_few : (runs : List DigitRun) (most m : ℕ) → IsOneTooMany runs most m → AreFew 0 runs most → ⊥
many_no_few runs most m many few = omega (arith, few.1, many.5, inside runs many.0 many.1 many.2 many.3)

one_too_many : (runs : List DigitRun) (most m n : ℕ) → IsOneTooMany runs most m → IsOneTooMany runs most n → m ≡ n
one_too_many runs most m n a b =
    let same : length a.0 ≡ length b.0 = omega (arith, a.5, b.5) in
    let first = run_there runs a.0 a.1 a.2 a.3 in
    let second = run_there runs b.0 b.1 b.2 b.3 in
    sym a.6 ∙ ap (λ (r : DigitRun). r.place) (sym first ∙ ap (λ j. get_or runs j blank) same ∙ second) ∙ b.6

too_long : (text : List ℕ) → 65536 < length text → length text ≤ 65536 → ⊥
too_long text a b = omega (arith, a, b)

-- a text with a number too many has no other fault
only_many : (text : List ℕ) (m n : ℕ) (cause : TextCause) → (cause ≡ NoMemory → ⊥) → IsNumbers text → IsOneTooMany (runs_of text) (wanted (runs_of text)) m
    → IsProblemFault text n cause → (m ≡ n) × (Long ≡ cause)
only_many text m n Long other numbers many h =
    elim h [
      | inl l ↦ absurd (too_long text l.0 numbers.0)
      | inr l ↦ (one_too_many (runs_of text) (wanted (runs_of text)) m n many l.1, refl)
    ]
only_many text m n Byte other numbers many h = absurd (no_byte text n numbers h.1)
only_many text m n Number other numbers many h = absurd (many_no_number (runs_of text) (wanted (runs_of text)) m n many h.1)
only_many text m n Short other numbers many h = absurd (many_no_few (runs_of text) (wanted (runs_of text)) m many h.1)
only_many text m n NoMemory other numbers many h = absurd (other refl)

-- nor has a text that is too long
only_long : (text : List ℕ) (n : ℕ) (cause : TextCause) → (cause ≡ NoMemory → ⊥) → 65536 < length text → IsProblemFault text n cause → (65536 ≡ n) × (Long ≡ cause)
only_long text n Long other long h =
    elim h [
      | inl l ↦ (sym l.1, refl)
      | inr l ↦ absurd (too_long text long l.0.0)
    ]
only_long text n Byte other long h = absurd (too_long text long h.0)
only_long text n Number other long h = absurd (too_long text long h.0.0)
only_long text n Short other long h = absurd (too_long text long h.0.0)
only_long text n NoMemory other long h = absurd (other refl)

turned : {m n : ℕ} {a b : TextCause} → (m ≡ n) × (a ≡ b) → (n ≡ m) × (b ≡ a)
turned h = (sym h.0, sym h.1)

after_long : (text : List ℕ) (m n : ℕ) (b : TextCause) → (b ≡ NoMemory → ⊥) → IsProblemFault text m Long → IsProblemFault text n b → (m ≡ n) × (Long ≡ b)
after_long text m n b other f g =
    elim f [
      | inl l ↦ (let only = only_long text n b other l.0 g in (l.1 ∙ only.0, only.1))
      | inr l ↦ only_many text m n b other l.0 l.1 g
    ]

-- Want of memory aside, a problem's text has one first fault.
pub one_problem_fault : (text : List ℕ) (m n : ℕ) (a b : TextCause) → (a ≡ NoMemory → ⊥) → (b ≡ NoMemory → ⊥) → IsProblemFault text m a → IsProblemFault text n b → (m ≡ n) × (a ≡ b)
one_problem_fault text m n Long b no_a no_b f g = after_long text m n b no_b f g
one_problem_fault text m n Byte Long no_a no_b f g = turned (after_long text n m Byte no_a g f)
one_problem_fault text m n Number Long no_a no_b f g = turned (after_long text n m Number no_a g f)
one_problem_fault text m n Short Long no_a no_b f g = turned (after_long text n m Short no_a g f)
one_problem_fault text m n Byte Byte no_a no_b f g = (one_byte text m n f.1 g.1, refl)
one_problem_fault text m n Byte Number no_a no_b f g = absurd (no_byte text m g.0 f.1)
one_problem_fault text m n Byte Short no_a no_b f g = absurd (no_byte text m g.0 f.1)
one_problem_fault text m n Number Byte no_a no_b f g = absurd (no_byte text n f.0 g.1)
one_problem_fault text m n Short Byte no_a no_b f g = absurd (no_byte text n f.0 g.1)
one_problem_fault text m n Number Number no_a no_b f g = (one_number (runs_of text) (wanted (runs_of text)) m n f.1 g.1, refl)
one_problem_fault text m n Number Short no_a no_b f g = absurd (few_no_number (runs_of text) (wanted (runs_of text)) m g.1 f.1)
one_problem_fault text m n Short Number no_a no_b f g = absurd (few_no_number (runs_of text) (wanted (runs_of text)) n f.1 g.1)
one_problem_fault text m n Short Short no_a no_b f g = (f.2 ∙ sym g.2, refl)
one_problem_fault text m n NoMemory b no_a no_b f g = absurd (no_a refl)
one_problem_fault text m n Byte NoMemory no_a no_b f g = absurd (no_b refl)
one_problem_fault text m n Number NoMemory no_a no_b f g = absurd (no_b refl)
one_problem_fault text m n Short NoMemory no_a no_b f g = absurd (no_b refl)

-- Order files.

-- records that are reached from one state are the same, as far as both go
same_reached : (cfg : Config) (s : State) (xs : List ℕ) (rows others : List Fields) (s1 s2 : State) (y1 y2 : List ℕ) → Reached cfg s xs rows s1 y1 → Reached cfg s xs others s2 y2
    → (j : ℕ) → j < length rows → j < length others → get_or rows j [] ≡ get_or others j []
unfolding Reached
same_reached cfg s xs [] others s1 s2 y1 y2 h k j l m = absurd (omega arith)
same_reached cfg s xs (r ∷ rows) [] s1 s2 y1 y2 h k j l m = absurd (omega arith)
same_reached cfg s xs (r ∷ rows) (q ∷ others) s1 s2 y1 y2 h k zero l m = h.2 ∙ ap (λ (p : Read). p.0) (one_of h.0 k.0 h.1 k.1) ∙ sym k.2
same_reached cfg s xs (r ∷ rows) (q ∷ others) s1 s2 y1 y2 h k (suc j) l m =
    same_reached cfg h.0.1 h.0.2 rows others s1 s2 y1 y2 h.3 (subst (λ (p : Read). Reached cfg p.1 p.2 others s2 y2) (sym (one_of h.0 k.0 h.1 k.1)) k.3) j (omega arith) (omega arith)

same_record : (text : List ℕ) (rows others : List Fields) → FirstRecords text rows → FirstRecords text others → (j : ℕ) → j < length rows → j < length others → get_or rows j [] ≡ get_or others j []
same_record text rows others a b j l m = same_reached _ _ _ rows others a.0 b.0 a.1 b.1 a.2 b.2 j l m

line_at : (rows : List Fields) (lines : List OrderLine) → AreLineRecords rows lines → (j : ℕ) → j < length rows → (line : OrderLine) × IsLineRecord (get_or rows j []) line
line_at [] lines h j l = absurd (omega arith)
line_at (r ∷ rows) [] h j l = absurd h
line_at (r ∷ rows) (x ∷ lines) h zero l = (x, h.0)
line_at (r ∷ rows) (x ∷ lines) h (suc j) l = line_at rows lines h.1 j (omega arith)

one_bad_header : (fields : Fields) (m n : ℕ) → IsBadHeader fields m → IsBadHeader fields n → m ≡ n
one_bad_header fields m n a b =
    elim a [
      | inl p ↦ elim b [ inl q ↦ p.1 ∙ sym q.1 | inr q ↦ absurd (p.0 q.0) ]
      | inr p ↦
          elim b [
            | inl q ↦ absurd (q.0 p.0)
            | inr q ↦
                one_first (λ i. get_or fields i [] ≡ get_or header i [] → ⊥) m n p.2 q.2 (λ j l bad. bad (p.3 j l)) (λ j l bad. bad (q.3 j l))
          ]
    ]

one_bad_field : (fields : Fields) (m n : ℕ) → IsBadLine fields m → IsBadLine fields n → m ≡ n
one_bad_field fields m n a b =
    elim a [
      | inl p ↦ elim b [ inl q ↦ p.1 ∙ sym q.1 | inr q ↦ absurd (p.0 q.0) ]
      | inr p ↦
          elim b [
            | inl q ↦ absurd (q.0 p.0)
            | inr q ↦
                one_first (λ i. IsBad i (get_or fields i [])) m n p.2 q.2 (λ j l bad. bad (p.3 j l).0 (p.3 j l).1) (λ j l bad. bad (q.3 j l).0 (q.3 j l).1)
          ]
    ]

-- a text without a record has no first one
none_first : (text : List ℕ) (fields : Fields) (more : List Fields) → AllRecords text [] → FirstRecords text (fields ∷ more) → ⊥
none_first text fields more none first =
    let p = first_rows _ _ _ (fields ∷ more) [] first.0 first.1 first.2 none in
    omega (arith, ap length p.1)

one_header_fault : (text : List ℕ) (m n : ℕ) → IsHeaderFault text m → IsHeaderFault text n → m ≡ n
one_header_fault text m n a b =
    elim a [
      | inl p ↦
          elim b [
            | inl q ↦ p.1 ∙ sym q.1
            | inr q ↦ absurd (elim q [ inl r ↦ too_long text p.0 r.0 | inr r ↦ too_long text p.0 r.0 ])
          ]
      | inr p ↦
          elim b [
            | inl q ↦ absurd (elim p [ inl r ↦ too_long text q.0 r.0 | inr r ↦ too_long text q.0 r.0 ])
            | inr q ↦
                elim p [
                  | inl none ↦ elim q [ inl r ↦ none.2 ∙ sym r.2 | inr r ↦ absurd (none_first text r.1.0 [] none.1 r.1.1) ]
                  | inr first ↦
                      elim q [
                        | inl none ↦ absurd (none_first text first.1.0 [] none.1 first.1.1)
                        | inr r ↦
                            let same = same_record text (first.1.0 ∷ []) (r.1.0 ∷ []) first.1.1 r.1.1 0 (omega arith) (omega arith) in
                            one_bad_header r.1.0 m n (subst (λ (f : Fields). IsBadHeader f m) same first.1.2) r.1.2
                      ]
                ]
          ]
    ]

no_line_fault : (text : List ℕ) (i n j : ℕ) → IsHeaderFault text i → IsLineFault text n j → ⊥
no_line_fault text i n j head line =
    elim head [
      | inl long ↦ too_long text long.0 line.short
      | inr rest ↦
          elim rest [
            | inl none ↦ none_first text header (line.rows ++ line.fields ∷ []) none.1 line.records
            | inr first ↦
                let same = same_record text (first.1.0 ∷ []) (header ∷ line.rows ++ line.fields ∷ []) first.1.1 line.records 0 (omega arith) (omega arith) in
                header_not_bad i (subst (λ (f : Fields). IsBadHeader f i) same first.1.2)
          ]
    ]

module _ (text : List ℕ) (m n i j : ℕ) (a : IsLineFault text m i) (b : IsLineFault text n j) where
  bad_record : get_or (a.rows ++ a.fields ∷ []) m [] ≡ a.fields
  bad_record = subst (λ k. get_or (a.rows ++ a.fields ∷ []) k [] ≡ a.fields) a.number (get_or-append_seam a.rows a.fields [] [])

  same_at : m ≤ n → get_or (a.rows ++ a.fields ∷ []) m [] ≡ get_or (b.rows ++ b.fields ∷ []) m []
  same_at l =
      same_record text (header ∷ a.rows ++ a.fields ∷ []) (header ∷ b.rows ++ b.fields ∷ []) a.records b.records (suc m)
      (omega (arith, length-append a.rows (a.fields ∷ []), a.number))
      (omega (arith, length-append b.rows (b.fields ∷ []), b.number, l))

  pub not_earlier : m < n → ⊥
  not_earlier l =
      let inner : m < length b.rows = omega (arith, l, b.number) in
      let is : a.fields ≡ get_or b.rows m [] = sym bad_record ∙ same_at (omega (arith, l)) ∙ get_or_append_left b.rows (b.fields ∷ []) [] m inner in
      let line = line_at b.rows b.lines b.are_lines m inner in
      elim a.bad [
        | inl bad ↦ line_not_bad a.fields line.0 (subst (λ (f : Fields). IsLineRecord f line.0) (sym is) line.1) i bad.1
        | inr many ↦ elim b.bad [ inl bad ↦ omega (arith, l, many.0, bad.0) | inr more ↦ omega (arith, l, many.0, more.0) ]
      ]

  pub one_field : m ≡ n → i ≡ j
  one_field e =
      let there : get_or (b.rows ++ b.fields ∷ []) m [] ≡ b.fields = subst (λ k. get_or (b.rows ++ b.fields ∷ []) k [] ≡ b.fields) (b.number ∙ sym e) (get_or-append_seam b.rows b.fields [] []) in
      let is : a.fields ≡ b.fields = sym bad_record ∙ same_at (omega (arith, e)) ∙ there in
      elim a.bad [
        | inl p ↦
            elim b.bad [
              | inl q ↦ one_bad_field b.fields i j (subst (λ (f : Fields). IsBadLine f i) is p.1) q.1
              | inr q ↦ absurd (omega (arith, e, p.0, q.0))
            ]
        | inr p ↦ elim b.bad [ inl q ↦ absurd (omega (arith, e, p.0, q.0)) | inr q ↦ p.1 ∙ sym q.1 ]
      ]

one_line_fault : (text : List ℕ) (m n i j : ℕ) → IsLineFault text m i → IsLineFault text n j → (m ≡ n) × (i ≡ j)
one_line_fault text m n i j a b =
    let same : m ≡ n =
    elim (cases_lt m n) [
      | inl l ↦ absurd (not_earlier text m n i j a b l)
      | inr l ↦ elim (cases_lt n m) [ inl k ↦ absurd (not_earlier text n m j i b a k) | inr k ↦ omega (arith, l, k) ]
    ] in
    (same, one_field text m n i j a b same)

-- An order file's text has one first fault.
pub one_orders_fault : (text : List ℕ) (row field other place : ℕ) → IsOrdersFault text row field → IsOrdersFault text other place → (row ≡ other) × (field ≡ place)
one_orders_fault text row field other place f g =
    elim f [
      | inl a ↦
          elim g [
            | inl b ↦ (a.0 ∙ sym b.0, one_header_fault text field place a.1 b.1)
            | inr b ↦ absurd (no_line_fault text field b.0 place a.1 b.2)
          ]
      | inr a ↦
          elim g [
            | inl b ↦ absurd (no_line_fault text place a.0 field b.1 a.2)
            | inr b ↦
                let same = one_line_fault text a.0 b.0 field place a.2 b.2 in
                (a.1 ∙ ap suc same.0 ∙ sym b.1, same.1)
          ]
    ]

-- Shop files.

entry_at : (prefix : List Data) (entries : List MaterialEntry) → AreEntries prefix entries → (k : ℕ) (d : Data) → k < length prefix → (entry : MaterialEntry) × IsEntry (get_or prefix k d) entry
entry_at [] entries h k d l = absurd (omega arith)
entry_at (x ∷ prefix) [] h k d l = absurd h
entry_at (x ∷ prefix) (e ∷ entries) h zero d l = (e, h.0)
entry_at (x ∷ prefix) (e ∷ entries) h (suc k) d l = entry_at prefix entries h.1 k d (omega arith)

no_earlier_entry : (text : List ℕ) (m n : ℕ) → IsBadEntry text m → IsBadEntry text n → m < n → ⊥
no_earlier_entry text m n a b l =
    let inner : m < length b.prefix = omega (arith, l, b.number) in
    let same = same_list text (a.prefix ++ a.value ∷ a.more) (b.prefix ++ b.value ∷ b.more) a.has_list b.has_list in
    let there : get_or (a.prefix ++ a.value ∷ a.more) m a.value ≡ a.value =
    subst (λ k. get_or (a.prefix ++ a.value ∷ a.more) k a.value ≡ a.value) a.number (get_or-append_seam a.prefix a.value a.more a.value) in
    let is : a.value ≡ get_or b.prefix m a.value = sym there ∙ ap (λ ds. get_or ds m a.value) same ∙ get_or_append_left b.prefix (b.value ∷ b.more) a.value m inner in
    let entry = entry_at b.prefix b.entries b.are_entries m a.value inner in
    a.bad entry.0 (subst (λ (d : Data). IsEntry d entry.0) (sym is) entry.1)

one_bad_entry : (text : List ℕ) (m n : ℕ) → IsBadEntry text m → IsBadEntry text n → m ≡ n
one_bad_entry text m n a b =
    elim (cases_lt m n) [
      | inl l ↦ absurd (no_earlier_entry text m n a b l)
      | inr l ↦ elim (cases_lt n m) [ inl k ↦ absurd (no_earlier_entry text n m b a k) | inr k ↦ omega (arith, l, k) ]
    ]

-- Want of memory aside, a shop file's text has one first fault.
pub one_shop_fault : (text : List ℕ) (a b : ShopFault) → (a ≡ shop.NoMemory → ⊥) → (b ≡ shop.NoMemory → ⊥) → IsShopFault text a → IsShopFault text b → a ≡ b
one_shop_fault text shop.Text shop.Text no_a no_b f g = refl
one_shop_fault text shop.Text (shop.Entry j) no_a no_b f g = absurd (f (g.2.prefix ++ g.2.value ∷ g.2.more) g.2.has_list)
one_shop_fault text shop.Text shop.NoMemory no_a no_b f g = absurd (no_b refl)
one_shop_fault text (shop.Entry i) shop.Text no_a no_b f g = absurd (g (f.2.prefix ++ f.2.value ∷ f.2.more) f.2.has_list)
one_shop_fault text (shop.Entry i) (shop.Entry j) no_a no_b f g = ap shop.Entry (f.1 ∙ ap (λ n. n + 1) (one_bad_entry text f.0 g.0 f.2 g.2) ∙ sym g.1)
one_shop_fault text (shop.Entry i) shop.NoMemory no_a no_b f g = absurd (no_b refl)
one_shop_fault text shop.NoMemory b no_a no_b f g = absurd (no_a refl)

pub no_shop_fault : (text : List ℕ) (entries : List MaterialEntry) → IsShopFile text entries → (fault : ShopFault) → IsShopFault text fault → fault ≡ shop.NoMemory
no_shop_fault text entries is fault h = only_shop text (Err fault) tt h entries is
