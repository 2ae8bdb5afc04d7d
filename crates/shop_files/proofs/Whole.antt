-- A whole problem: its head, its pieces and its end.
use Rattle.std.proofs.Common.{◌≡◌, ℕ, suc, ◌+◌, ◌*◌, ◌%◌, ◌<◌, ◌≤◌, List, [], ◌∷◌, ◌++◌, length, map, get_or, drop, Bool, true, false, Option, Some, None, refl, ap, sym, ◌∙◌, subst, arith, inl, inr, append-nil, length-append, le-leb}
use Rattle.std.specs.Prelude.{nat_le, if◌then◌else◌, Result, Ok, Err, MatchResult, IfOk, IfErr}
use Rattle.std.specs.List.{list_all, flat_map, AllByRecursion}
use Rattle.std.proofs.lemmas.Bool.{and_parts, leb-true, false≢true}
use Rattle.std.proofs.lemmas.List.{length-map, map-append}
use Rattle.std.proofs.lemmas.Option.{none-some}
use Rattle.std.specs.Option.{unwrap_or}
use Rattle.cut_measure.specs.Measures.{Size, size_of}
use Rattle.cut_measure.specs.declared.sizes.Kind.TheVariants.{Sheet}
use Rattle.std.proofs.lemmas.List.Folds.{list_all_at}
use Rattle.shop_files.specs.declared.problems.Problem.{Problem}
use Rattle.shop_files.specs.declared.problems.TextFault.{TextFault}
use Rattle.shop_files.specs.declared.problems.Piece.{Piece}
use Rattle.shop_files.specs.declared.problems.TextCause.{TextCause}
use Rattle.shop_files.specs.declared.problems.TextCause.TheVariants.{Long, Byte, Number, Short, NoMemory}
use Rattle.shop_files.specs.Runs.{DigitRun, value_of, runs_of}
use Rattle.shop_files.specs.Problems.{IsPiece, ArePieces, fits, most_at, AllFit, wanted, IsNumbers, IsOneTooMany, IsProblem, IsProblemFault, Stops, ReadsRuns, HasNumber, HasPieces, runs_at, piece_numbers, numbers_of, is_problem_byte}
use Rattle.shop_files.proofs.Numbers.{reads_on, stops_after, most_w, most_h, most_count, most_worth}

pub wanted_some : (runs : List DigitRun) → 3 ≤ wanted runs
wanted_some [] = omega arith
wanted_some (run ∷ more) = least (fits 0 run) (value_of run) where
  least : (b : Bool) (n : ℕ) → 3 ≤ (if b then 3 + 4 * n else 3)
  least true n = omega arith
  least false n = omega arith

wanted_is : (runs : List DigitRun) (run : DigitRun) (more : List DigitRun) → runs ≡ run ∷ more → fits 0 run ≡ true → wanted runs ≡ 3 + 4 * value_of run
wanted_is runs run more is fit = ap wanted is ∙ rw fit refl

pub number_fault : (text : List ℕ) (offset : ℕ) (cause : TextCause) → IsNumbers text → Stops 0 (runs_of text) (length text) (wanted (runs_of text)) offset cause → IsProblemFault text offset cause
number_fault text offset Number numbers h = (numbers, h)
number_fault text offset Short numbers h = (numbers, h.0, h.1)
number_fault text offset Long numbers h = absurd h
number_fault text offset Byte numbers h = absurd h
number_fault text offset NoMemory numbers h = absurd h

in_range : (i most : ℕ) (run : DigitRun) → fits i run ≡ true → most_at i ≡ most → (1 ≤ value_of run) × (value_of run ≤ most)
in_range i most run fit is =
    let both = and_parts (nat_le 1 (value_of run)) (nat_le (value_of run) (most_at i)) fit in
    (leb-true 1 (value_of run) both.0, omega (arith, is, leb-true (value_of run) (most_at i) both.1))

-- the count and the sides were read
pub record Head (text : List ℕ) (count w h next : ℕ) : Type 0 where
  pub prefix : List DigitRun
  pub values : map value_of prefix ≡ count ∷ w ∷ h ∷ []
  pub reads : ReadsRuns 0 text 0 prefix next
  pub most : wanted (runs_of text) ≡ 3 + 4 * count
  pub width : (1 ≤ w) × (w ≤ 200000)
  pub height : (1 ≤ h) × (h ≤ 60000)

pub head_read : (text : List ℕ) (count w h a b c : ℕ) → HasNumber text 0 200 count a → HasNumber text a 200000 w b → HasNumber text b 60000 h c → Head text count w h c
head_read text count w h a b c p q r =
    let first = p.2 0 refl in
    let second = q.2 1 refl in
    let third = r.2 2 refl in
    let width = in_range 1 200000 q.0 second.fit.0 refl in
    let height = in_range 2 60000 r.0 third.fit.0 refl in
    record {
      prefix = p.0 ∷ q.0 ∷ r.0 ∷ [];
      values = rw (p.1, q.1, r.1) refl;
      reads = reads_on 0 text 0 (p.0 ∷ []) a (q.0 ∷ r.0 ∷ []) c first (reads_on 1 text a (q.0 ∷ []) b (r.0 ∷ []) c second third);
      most = wanted_is (runs_of text) p.0 (runs_at text a) first.runs first.fit.0 ∙ ap (λ n. 3 + 4 * n) p.1;
      width = subst (λ n. (1 ≤ n) × (n ≤ 200000)) q.1 width;
      height = subst (λ n. (1 ≤ n) × (n ≤ 60000)) r.1 height;
    }

module _ (text : List ℕ) (count w h mid : ℕ) (head : Head text count w h mid) where
  three : 0 + length head.prefix ≡ 3
  three = omega (arith, length-map head.prefix value_of, ap length head.values)

  pub stops_in_pieces : (offset : ℕ) (cause : TextCause) → Stops 3 (runs_at text mid) (length text) (3 + 4 * count) offset cause → Stops 0 (runs_of text) (length text) (wanted (runs_of text)) offset cause
  stops_in_pieces offset cause s =
      stops_after 0 (runs_of text) head.prefix (runs_at text mid) (length text) (wanted (runs_of text)) offset cause head.reads.runs head.reads.fit
      (subst (λ i. Stops i (runs_at text mid) (length text) (wanted (runs_of text)) offset cause) (sym three)
      (subst (λ n. Stops 3 (runs_at text mid) (length text) n offset cause) (sym head.most) s))

  module _ (pieces : List Piece) (end : ℕ) (rest : HasPieces text mid count pieces end) where
    all_read : ReadsRuns 0 text 0 (head.prefix ++ rest.0) end
    all_read = reads_on 0 text 0 head.prefix mid rest.0 end head.reads (subst (λ i. ReadsRuns i text mid rest.0 end) (sym three) rest.4)

    all_values : map value_of (head.prefix ++ rest.0) ≡ count ∷ w ∷ h ∷ flat_map piece_numbers pieces
    all_values = map-append value_of head.prefix rest.0 ∙ ap (λ l. l ++ map value_of rest.0) head.values ∙ ap (λ l. count ∷ w ∷ h ∷ l) rest.1

    pub too_many : (place : ℕ) (run : DigitRun) (more : List DigitRun) → runs_at text end ≡ run ∷ more → run.place ≡ place → IsOneTooMany (runs_of text) (wanted (runs_of text)) place
    too_many place run more is at = (
      head.prefix ++ rest.0,
      run,
      more,
      all_read.runs ∙ ap (λ l. (head.prefix ++ rest.0) ++ l) is,
      all_read.fit,
      omega (arith, length-append head.prefix rest.0, three, rest.3, head.most),
      at,
    )

    pub whole : IsNumbers text → runs_at text end ≡ [] → IsProblem text (record { w = w; h = h }) pieces
    whole numbers none =
        let runs : runs_of text ≡ head.prefix ++ rest.0 = all_read.runs ∙ ap (λ l. (head.prefix ++ rest.0) ++ l) none ∙ append-nil (head.prefix ++ rest.0) in
        record {
          short = numbers.0;
          bytes = numbers.1;
          numbers = ap (map value_of) runs ∙ all_values ∙ ap (λ n. n ∷ w ∷ h ∷ flat_map piece_numbers pieces) (sym rest.2);
          in_range = subst (AllFit 0) (sym runs) all_read.fit;
        }

pub sized : (w h : ℕ) → (1 ≤ w) × (w ≤ 200000) → (1 ≤ h) × (h ≤ 60000) → size_of Sheet w h ≡ Some (record { w = w; h = h })
sized w h a b = rw (le-leb 1 w a.0, le-leb w 200000 a.1, le-leb 1 h b.0, le-leb h 60000 b.1) refl

-- a size that was made is of these sides
pub sized_is : (w h : ℕ) (r : Option Size) (size : Size) → r ≡ Some size → r ≡ size_of Sheet w h → (1 ≤ w) × (w ≤ 200000) → (1 ≤ h) × (h ≤ 60000) → size ≡ record { w = w; h = h }
sized_is w h r size some is a b = ap (λ o. unwrap_or o size) (sym some ∙ is ∙ sized w h a b)

pub not_sized : (w h : ℕ) (r : Option Size) → r ≡ None → r ≡ size_of Sheet w h → (1 ≤ w) × (w ≤ 200000) → (1 ≤ h) × (h ≤ 60000) → ⊥
not_sized w h r none is a b = none-some (record { w = w; h = h }) (sym none ∙ is ∙ sized w h a b)

pub all_good : (p : ℕ → Bool) (text : List ℕ) → ((i : ℕ) → i < length text → p (get_or text i 0) ≡ true) → list_all p text ≡ true
all_good p [] h = refl
all_good p (b ∷ bs) h = rw (h 0 (omega arith)) (all_good p bs (λ i l. h (suc i) (omega arith)))

-- Only the problem that a text spells is read, and a text that spells one has no fault.

one_piece : (p q : Piece) → p.w ≡ q.w → p.h ≡ q.h → p.most ≡ q.most → p.worth ≡ q.worth → p ≡ q
one_piece p q a b c d = λ i. record { w = a i; h = b i; most = c i; worth = d i }

head_of : {x y : ℕ} {xs ys : List ℕ} → x ∷ xs ≡ y ∷ ys → x ≡ y
head_of {x} e = ap (λ l. get_or l 0 x) e

tail_of : {x y : ℕ} {xs ys : List ℕ} → x ∷ xs ≡ y ∷ ys → xs ≡ ys
tail_of e = ap (drop 1) e

no_cons : {x : ℕ} {xs : List ℕ} → x ∷ xs ≡ [] → ⊥
no_cons e = omega (arith, ap length e)

same_pieces : (ps qs : List Piece) → flat_map piece_numbers ps ≡ flat_map piece_numbers qs → ps ≡ qs
same_pieces [] [] e = refl
same_pieces [] (q ∷ qs) e = absurd (no_cons (sym e))
same_pieces (p ∷ ps) [] e = absurd (no_cons e)
same_pieces (p ∷ ps) (q ∷ qs) e =
    let one = one_piece p q (head_of e) (head_of (tail_of e)) (head_of (tail_of (tail_of e))) (head_of (tail_of (tail_of (tail_of e)))) in
    let rest = same_pieces ps qs (tail_of (tail_of (tail_of (tail_of e)))) in
    λ i. one i ∷ rest i

same_size : (s t : Size) → s.w ≡ t.w → s.h ≡ t.h → s ≡ t
same_size s t a b = λ i. record { w = a i; h = b i }

pub one_problem : (text : List ℕ) (s t : Size) (ps qs : List Piece) → IsProblem text s ps → IsProblem text t qs → (s ≡ t) × (ps ≡ qs)
one_problem text s t ps qs a b =
    let e = sym a.numbers ∙ b.numbers in
    (same_size s t (head_of (tail_of e)) (head_of (tail_of (tail_of e))), same_pieces ps qs (tail_of (tail_of (tail_of e))))

fit_at : (i : ℕ) (prefix : List DigitRun) (run : DigitRun) (more : List DigitRun) → AllFit i (prefix ++ run ∷ more) → fits (i + length prefix) run ≡ true
fit_at i [] run more h = let e : i ≡ i + 0 = omega arith in subst (λ n. fits n run ≡ true) e h.0
fit_at i (x ∷ prefix) run more h =
    let e : suc i + length prefix ≡ i + suc (length prefix) = omega arith in
    subst (λ n. fits n run ≡ true) e (fit_at (suc i) prefix run more h.1)

flat_length : (ps : List Piece) → length (flat_map piece_numbers ps) ≡ 4 * length ps
flat_length [] = refl
flat_length (p ∷ ps) = omega (arith, flat_length ps)

whole_length : (runs : List DigitRun) (s : Size) (ps : List Piece) → map value_of runs ≡ numbers_of s ps → length runs ≡ 3 + 4 * length ps
whole_length runs s ps e = omega (arith, length-map runs value_of, ap length e, flat_length ps)

whole_wanted : (runs : List DigitRun) (s : Size) (ps : List Piece) → map value_of runs ≡ numbers_of s ps → AllFit 0 runs → wanted runs ≡ 3 + 4 * length ps
whole_wanted [] s ps e fit = absurd (no_cons (sym e))
whole_wanted (run ∷ more) s ps e fit = wanted_is (run ∷ more) run more refl fit.0 ∙ ap (λ n. 3 + 4 * n) (head_of e)

true_not_false : {b : Bool} → b ≡ true → b ≡ false → ⊥
true_not_false p q = false≢true (sym q ∙ p)

pub spelled_not_faulty : (text : List ℕ) (s : Size) (ps : List Piece) → IsProblem text s ps → (offset : ℕ) (cause : TextCause) → IsProblemFault text offset cause → cause ≡ NoMemory
spelled_not_faulty text s ps is offset Long h =
    elim h [
      | inl l ↦ absurd (omega (arith, l.0, is.short))
      | inr l ↦
          let size = whole_length (runs_of text) s ps is.numbers in
          let most = whole_wanted (runs_of text) s ps is.numbers is.in_range in
          absurd (omega (arith, size, most, l.1.5, ap length l.1.3, length-append l.1.0 (l.1.1 ∷ l.1.2)))
    ]
spelled_not_faulty text s ps is offset Byte h = absurd (true_not_false is.bytes (list_all_at is_problem_byte text offset 0 h.1.0 h.1.1))
spelled_not_faulty text s ps is offset Number h =
    absurd (true_not_false (fit_at 0 h.1.0 h.1.1 h.1.2 (subst (AllFit 0) h.1.3 is.in_range)) h.1.6)
spelled_not_faulty text s ps is offset Short h =
    let size = whole_length (runs_of text) s ps is.numbers in
    let most = whole_wanted (runs_of text) s ps is.numbers is.in_range in
    absurd (omega (arith, size, most, h.1.1))
spelled_not_faulty text s ps is offset NoMemory h = refl

pub only_problem : (text : List ℕ) (r : Result Problem TextFault) → IfOk r (λ p. IsProblem text p.size p.pieces) → IfErr r (λ f. IsProblemFault text f.offset f.cause)
    → (size : Size) (pieces : List Piece) → IsProblem text size pieces → MatchResult r (λ p. (p.size ≡ size) × (p.pieces ≡ pieces)) (λ f. f.cause ≡ NoMemory)
only_problem text (Ok p) ok err size pieces is = one_problem text p.size size p.pieces pieces ok is
only_problem text (Err f) ok err size pieces is = spelled_not_faulty text size pieces is f.offset f.cause err

-- The pieces of a problem are in range.

four_more : (i : ℕ) (p : Piece) (ps : List Piece) (a b c d : DigitRun) (more : List DigitRun) → i % 4 ≡ 3 → value_of a ∷ value_of b ∷ value_of c ∷ value_of d ∷ map value_of more ≡ p.w ∷ p.h ∷ p.most ∷ p.worth ∷ flat_map piece_numbers ps
    → AllFit i (a ∷ b ∷ c ∷ d ∷ more) → IsPiece p
four_more i p ps a b c d more third e fit =
    let one : suc i ≡ i + 1 = omega arith in
    let two : suc (suc i) ≡ i + 2 = omega arith in
    let three : suc (suc (suc i)) ≡ i + 3 = omega arith in
    let w = in_range i 200000 a fit.0 (most_w i third) in
    let h = in_range (suc i) 60000 b fit.1.0 (ap most_at one ∙ most_h i third) in
    let most = in_range (suc (suc i)) 1000000 c fit.1.1.0 (ap most_at two ∙ most_count i third) in
    let worth = in_range (suc (suc (suc i))) 1000000000 d fit.1.1.1.0 (ap most_at three ∙ most_worth i third) in
    let same_w : value_of a ≡ p.w = head_of e in
    let same_h : value_of b ≡ p.h = head_of (tail_of e) in
    let same_most : value_of c ≡ p.most = head_of (tail_of (tail_of e)) in
    let same_worth : value_of d ≡ p.worth = head_of (tail_of (tail_of (tail_of e))) in
    (omega (arith, w, same_w), omega (arith, w, same_w), omega (arith, h, same_h), omega (arith, h, same_h), omega (arith, most, same_most), omega (arith, most, same_most), omega (arith, worth, same_worth), omega (arith, worth, same_worth))

pieces_fit : (i : ℕ) (runs : List DigitRun) (ps : List Piece) → i % 4 ≡ 3 → map value_of runs ≡ flat_map piece_numbers ps → AllFit i runs → AllByRecursion IsPiece ps
pieces_fit i runs [] third e fit = tt
pieces_fit i [] (p ∷ ps) third e fit = absurd (no_cons (sym e))
pieces_fit i (a ∷ []) (p ∷ ps) third e fit = absurd (no_cons (sym (tail_of e)))
pieces_fit i (a ∷ b ∷ []) (p ∷ ps) third e fit = absurd (no_cons (sym (tail_of (tail_of e))))
pieces_fit i (a ∷ b ∷ c ∷ []) (p ∷ ps) third e fit = absurd (no_cons (sym (tail_of (tail_of (tail_of e)))))
pieces_fit i (a ∷ b ∷ c ∷ d ∷ more) (p ∷ ps) third e fit = (
  four_more i p ps a b c d more third e fit,
  pieces_fit (suc (suc (suc (suc i)))) more ps (omega (arith, third)) (tail_of (tail_of (tail_of (tail_of e)))) fit.1.1.1.1,
)

problem_in_range : (runs : List DigitRun) (s : Size) (ps : List Piece) → map value_of runs ≡ numbers_of s ps → AllFit 0 runs → ArePieces ps
problem_in_range [] s ps e fit = absurd (no_cons (sym e))
problem_in_range (a ∷ []) s ps e fit = absurd (no_cons (sym (tail_of e)))
problem_in_range (a ∷ b ∷ []) s ps e fit = absurd (no_cons (sym (tail_of (tail_of e))))
problem_in_range (a ∷ b ∷ c ∷ more) s ps e fit =
    let count = in_range 0 200 a fit.0 refl in
    let same : value_of a ≡ length ps = head_of e in
    (omega (arith, count, same), omega (arith, count, same), pieces_fit 3 more ps refl (tail_of (tail_of (tail_of e))) fit.1.1.1)

pub pieces_in_range : (text : List ℕ) (r : Result Problem TextFault) → IfOk r (λ p. IsProblem text p.size p.pieces) → IfOk r (λ p. ArePieces p.pieces)
pieces_in_range text (Ok p) ok = problem_in_range (runs_of text) p.size p.pieces ok.numbers ok.in_range
pieces_in_range text (Err f) ok = tt
