-- What loops over wants, pairs and lists of pairs keep.
use Rattle.std.proofs.Common.{◌≡◌, ◌⊎◌, ℕ, zero, suc, ap, ◌∙◌, ◌+◌, ◌-◌, ◌<◌, ◌≤◌, List, [], ◌∷◌, ◌++◌, length, take, take_all, get_or, refl, sym, subst, inl, inr, arith}
use Rattle.std.specs.Prelude.{Contains, Vec, if◌then◌else◌, nat_lt}
use Rattle.std.specs.declared.alloc.Global.{Global}
use Rattle.std.proofs.lemmas.Bool.{cases_lt, le-ltb, lt-ltb}
use Rattle.std.proofs.lemmas.List.{take_more, get_or_append_left, get_or_push, length_push}
use Rattle.std.proofs.lemmas.List.Elements.{Contains-append_cases, Contains-append_left, Contains-append_right}
use Rattle.cut_classes.specs.declared.pairs.Pair.{Pair}
use Rattle.cut_classes.specs.Classes.{ArePartsOf, Classes, count, high_of, low_of}
use Rattle.cut_classes.specs.Grids.{AreUsable}
use Rattle.cut_classes.specs.Filling.{CoverParts, CoversParts}
use Rattle.cut_classes.proofs.Points.{low_le, with_first}

pub one_alone : {A : Type 0} (x y : A) → Contains (x ∷ []) y → x ≡ y
one_alone x y (zero, lt, e) = e
one_alone x y (suc n, lt, e) = absurd (omega (arith, lt))

-- what holds of each so far, and of the next
pub each_next : {A : Type 0} (P Q : A → Type 0) (xs : List A) (i : ℕ) (x : A) → i < length xs → x ≡ get_or xs i x → ((y : A) → P y → Q y) → ((y : A) → Contains (take i xs) y → P y) → Q x
    → (y : A) → Contains (take (i + 1) xs) y → Q y
each_next {A} P Q xs i x lt is weaker before here y has =
    elim (Contains-append_cases (take i xs) (x ∷ []) y (subst (λ (l : List A). Contains l y) (take_more xs i x lt ∙ ap (λ z. take i xs ++ z ∷ []) (sym is)) has)) [
      | inl h ↦ weaker y (before y h)
      | inr h ↦ subst Q (one_alone x y h) here
    ]

pub each_all : {A : Type 0} (P : A → Type 0) (xs : List A) (i : ℕ) → length xs ≤ i → ((y : A) → Contains (take i xs) y → P y) → (y : A) → Contains xs y → P y
each_all {A} P xs i all before y has = before y (subst (λ (l : List A). Contains l y) (sym (take_all i xs all)) has)

-- The pairs of the n longest of the classes below i, none of which has a part beside it that is past the second class of a
-- pair.
pub record AreFront (cs : Classes) (i n beaten : ℕ) (pairs : List Pair) : Type 0 where
  pub inside : (p : Pair) → Contains pairs p → (p.first < i) × (p.second < i)
  pub parts : (p : Pair) → Contains pairs p → ArePartsOf cs p.first p.second i
  pub within : beaten ≤ i
  pub last : 1 ≤ beaten → (p : Pair) × Contains pairs p × (i ≤ p.first + n) × (beaten ≤ p.second + 1)
  pub covered : (a b : ℕ) → b ≤ a → a < i → i ≤ a + n → ArePartsOf cs a b i → (p : Pair) × Contains pairs p × (a ≤ p.first) × (b ≤ p.second)

pub no_front : (cs : Classes) (i : ℕ) → AreFront cs i 0 0 []
no_front cs i = record {
  inside = λ p has. absurd (none p has);
  parts = λ p has. absurd (none p has);
  within = omega arith;
  last = λ some. absurd (omega (arith, some));
  covered = λ a b le al far parts. absurd (omega (arith, al, far));
}
  where
    none : (p : Pair) → Contains [] p → ⊥
    none p (i, lt, e) = absurd (omega (arith, lt))

pub next_front : (cs : Classes) (i n first beaten beside span : ℕ) (pairs pushed : List Pair) → AreUsable cs → i < count cs → first + 1 + n ≡ i → span ≡ high_of cs i - low_of cs first
    → beaten ≤ beside → (beside ≤ first + 1) ⊎ (beside ≤ beaten) → (beaten < beside → low_of cs (beside - 1) ≤ span) → (beside < first + 1 → span < low_of cs beside)
    → pushed ≡ (if nat_lt beaten beside then pairs ++ record { first = first; second = beside - 1 } ∷ [] else pairs) → AreFront cs i n beaten pairs → AreFront cs i (n + 1) beside pushed
next_front cs i n first beaten beside span pairs pushed u il at left more upto reached next push f = elim (cases_lt beaten beside) [
  | inr ge ↦
      let e : beside ≡ beaten = omega (arith, more, ge) in
      let t = le-ltb beaten beside ge in
      let same : pushed ≡ pairs = push ∙ ap (λ b. if b then pairs ++ record { first = first; second = beside - 1 } ∷ [] else pairs) t in
      subst (λ l. AreFront cs i (n + 1) beside l) (sym same) (record {
        inside = f.inside;
        parts = f.parts;
        within = omega (arith, e, f.within);
        last = λ some. let (p, has, far, second) = f.last (omega (arith, some, e)) in (p, has, omega (arith, far), omega (arith, second, e));
        covered = λ a b le al far parts. elim (cases_lt first a) [
          | inl before ↦ f.covered a b le al (omega (arith, before, at)) parts
          | inr now ↦
              let is : a ≡ first = omega (arith, now, far, at) in
              let beats = shorter a b le is parts in
              let (p, has, far', second) = f.last (omega (arith, beats, e)) in
              (p, has, omega (arith, far', is, at), omega (arith, second, beats, e))
        ];
      })
  | inl lt ↦
      let t = lt-ltb beaten beside lt in
      let new : Pair = record { first = first; second = beside - 1 } in
      let grown : pushed ≡ pairs ++ new ∷ [] = push ∙ ap (λ b. if b then pairs ++ record { first = first; second = beside - 1 } ∷ [] else pairs) t in
      let there : Contains (pairs ++ new ∷ []) new = Contains-append_right pairs (new ∷ []) new (0, omega arith, refl) in
      let near : beside ≤ first + 1 = elim upto [ inl le ↦ le | inr le ↦ absurd (omega (arith, le, lt)) ] in
      subst (λ l. AreFront cs i (n + 1) beside l) (sym grown) (record {
        inside = λ p has. elim (Contains-append_cases pairs (new ∷ []) p has) [
          | inl h ↦ f.inside p h
          | inr h ↦ subst (λ (q : Pair). (q.first < i) × (q.second < i)) (one_alone new p h) (omega (arith, at), omega (arith, near, at, lt))
        ];
        parts = λ p has. elim (Contains-append_cases pairs (new ∷ []) p has) [
          | inl h ↦ f.parts p h
          | inr h ↦
              subst (λ (q : Pair). ArePartsOf cs q.first q.second i) (one_alone new p h)
              (together (low_of cs first) (low_of cs 0) (high_of cs i) span (low_of cs (beside - 1)) (with_first cs u first i (omega (arith, at)) il) left (reached lt))
        ];
        within = omega (arith, near, at);
        last = λ some. (new, there, omega (arith, at), omega (arith, lt));
        covered = λ a b le al far parts. elim (cases_lt first a) [
          | inl before ↦
              let (p, has, longer, second) = f.covered a b le al (omega (arith, before, at)) parts in
              (p, Contains-append_left pairs (new ∷ []) p has, longer, second)
          | inr now ↦
              let is : a ≡ first = omega (arith, now, far, at) in
              let beats = shorter a b le is parts in
              (new, there, omega (arith, is), omega (arith, beats))
        ];
      })
]
  where
    together : (low none high span low' : ℕ) → low + none ≤ high → span ≡ high - low → low' ≤ span → low + low' ≤ high
    together low none high span low' le is le' = omega arith

    span_left : (low low' high span : ℕ) → low + low' ≤ high → span ≡ high - low → low' ≤ span
    span_left low low' high span le is = omega arith

    shorter : (a b : ℕ) → b ≤ a → a ≡ first → ArePartsOf cs a b i → b < beside
    shorter a b le is parts = elim (cases_lt b beside) [
      | inl lt ↦ lt
      | inr ge ↦
          let parts' : low_of cs first + low_of cs b ≤ high_of cs i = subst (λ m. low_of cs m + low_of cs b ≤ high_of cs i) is parts in
          let fits = span_left (low_of cs first) (low_of cs b) (high_of cs i) span parts' left in
          let past = next (omega (arith, ge, le, is)) in
          let rises = low_le cs u beside b ge (omega (arith, le, is, at, il)) in
          absurd (omega (arith, fits, past, rises))
    ]

pub whole_front : (cs : Classes) (i n beaten : ℕ) (pairs : List Pair) → i ≤ n → AreFront cs i n beaten pairs → CoversParts cs i pairs
whole_front cs i n beaten pairs all f = record { inside = f.inside; parts = f.parts; covered = λ a b le al parts. f.covered a b le al (omega (arith, all)) parts }

pub lists_push : (cs : Classes) (lists pushed : List (Vec Pair Global)) (i : ℕ) (x : Vec Pair Global) → length lists ≡ i → CoversParts cs i x.items → pushed ≡ lists ++ x ∷ [] → CoverParts cs lists → CoverParts cs pushed
lists_push cs lists pushed i x len here push each = rw push (λ k d lt.
    elim (cases_lt k (length lists)) [
      | inl before ↦ subst (λ (v : Vec Pair Global). CoversParts cs k v.items) (sym (get_or_append_left lists (x ∷ []) d k before)) (each k d before)
      | inr now ↦
          let e : length lists ≡ k = omega (arith, length_push lists x, lt, now) in
          let e' : i ≡ k = omega (arith, len, e) in
          subst (λ (v : Vec Pair Global). CoversParts cs k v.items) (sym (get_or_push lists x d k e)) (subst (λ n. CoversParts cs n x.items) e' here)
    ])
