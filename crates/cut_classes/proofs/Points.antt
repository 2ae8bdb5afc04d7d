-- Points that rise, and the classes that begin at them.
use Rattle.std.proofs.Common.{◌≡◌, ℕ, zero, suc, ◌+◌, ◌-◌, ◌<◌, ◌≤◌, sym, subst, inl, inr, arith}
use Rattle.std.proofs.lemmas.Bool.{cases_lt, lt-ltb, le-ltb}
use Rattle.cut_classes.specs.Classes.{ArePartsOf, Classes, count, high_of, low_of}
use Rattle.cut_classes.specs.Grids.{AreUsable}

low_rises : (cs : Classes) → AreUsable cs → (a n : ℕ) → a + suc n < count cs → low_of cs a < low_of cs (a + suc n)
low_rises cs u a zero lt = u.rising a lt
low_rises cs u a (suc n) lt =
    let before = low_rises cs u a n (omega (arith, lt)) in
    let next = u.rising (a + suc n) (omega (arith, lt)) in
    let e : a + suc n + 1 ≡ a + suc (suc n) = omega arith in
    subst (λ m. low_of cs a < low_of cs m) e (omega (arith, before, next))

pub low_less : (cs : Classes) → AreUsable cs → (a b : ℕ) → a < b → b < count cs → low_of cs a < low_of cs b
low_less cs u a b lt within =
    let e : a + suc (b - a - 1) ≡ b = omega (arith, lt) in
    subst (λ m. low_of cs a < low_of cs m) e (low_rises cs u a (b - a - 1) (subst (λ m. m < count cs) (sym e) within))

pub low_le : (cs : Classes) → AreUsable cs → (a b : ℕ) → a ≤ b → b < count cs → low_of cs a ≤ low_of cs b
low_le cs u a b le within = elim (cases_lt a b) [
  | inl lt ↦ let rises = low_less cs u a b lt within in omega (arith, rises)
  | inr ge ↦ let e : a ≡ b = omega (arith, le, ge) in subst (λ n. low_of cs a ≤ low_of cs n) e (omega arith)
]

pub high_next : (cs : Classes) → AreUsable cs → (i : ℕ) → i + 1 < count cs → high_of cs i < low_of cs (i + 1)
high_next cs u i lt =
    let t = lt-ltb (i + 1) (count cs) lt in
    let more = u.rising i lt in
    rw t (omega (arith, more))

high_last : (cs : Classes) → AreUsable cs → (i : ℕ) → i + 1 ≡ count cs → low_of cs i ≤ cs.most
high_last cs u i e =
    let e' : count cs - 1 ≡ i = omega (arith, e) in
    subst (λ m. low_of cs m ≤ cs.most) e' u.reached

pub low_high : (cs : Classes) → AreUsable cs → (i : ℕ) → i < count cs → low_of cs i ≤ high_of cs i
low_high cs u i within = elim (cases_lt (i + 1) (count cs)) [
  | inl lt ↦
      let t = lt-ltb (i + 1) (count cs) lt in
      let more = u.rising i lt in
      rw t (omega (arith, more))
  | inr ge ↦
      let t = le-ltb (i + 1) (count cs) ge in
      rw t (high_last cs u i (omega (arith, within, ge)))
]

-- a lower class and the first have parts of a class
pub with_first : (cs : Classes) → AreUsable cs → (a i : ℕ) → a < i → i < count cs → ArePartsOf cs a 0 i
with_first cs u a i lt within =
    let rises = low_less cs u a i lt within in
    let has = low_high cs u i within in
    omega (arith, rises, has, u.none)

-- a part of the class's own has beside it one of the first alone
pub own_part : (cs : Classes) → AreUsable cs → (a b i : ℕ) → i < count cs → a < count cs → b < count cs → i ≤ a → ArePartsOf cs a b i → (a ≡ i) × (b ≡ 0)
own_part cs u a b i within al bl le parts = (same, first)
  where
    none_above : i < a → ⊥
    none_above lt = elim (cases_lt (i + 1) a) [
      | inl more ↦
          let next = high_next cs u i (omega (arith, lt, al)) in
          let rises = low_less cs u (i + 1) a more al in
          omega (arith, parts, next, rises)
      | inr ge ↦
          let e : i + 1 ≡ a = omega (arith, lt, ge) in
          let next = subst (λ m. high_of cs i < low_of cs m) e (high_next cs u i (omega (arith, lt, al))) in
          omega (arith, parts, next)
    ]

    same : a ≡ i
    same = elim (cases_lt i a) [ inl lt ↦ absurd (none_above lt) | inr ge ↦ omega (arith, le, ge) ]

    none_beside : 1 ≤ b → low_of cs 1 ≤ low_of cs b
    none_beside some = elim (cases_lt 1 b) [
      | inl lt ↦ let rises = low_less cs u 1 b lt bl in omega (arith, rises)
      | inr ge ↦ let e : 1 ≡ b = omega (arith, some, ge) in subst (λ m. low_of cs 1 ≤ low_of cs m) e (omega arith)
    ]

    first : b ≡ 0
    first = elim (cases_lt 0 b) [
      | inl some ↦
          let beside = none_beside some in
          let own = subst (λ m. low_of cs m + low_of cs b ≤ high_of cs i) same parts in
          let near = u.near i within in
          absurd (omega (arith, beside, own, near))
      | inr none ↦ omega (arith, none)
    ]

-- a class whose least length is no more than the greatest of another isn't above it
pub not_above : (cs : Classes) → AreUsable cs → (a i : ℕ) → i < count cs → a < count cs → low_of cs a ≤ high_of cs i → a ≤ i
not_above cs u a i within al le = elim (cases_lt i a) [
  | inr ge ↦ ge
  | inl lt ↦
      let next = high_next cs u i (omega (arith, lt, al)) in
      let rises = low_le cs u (i + 1) a (omega (arith, lt)) al in
      absurd (omega (arith, le, next, rises))
]

-- no length of a class is more than the greatest
pub high_most : (cs : Classes) → AreUsable cs → (i : ℕ) → i < count cs → high_of cs i ≤ cs.most
high_most cs u i within = elim (cases_lt (i + 1) (count cs)) [
  | inr ge ↦ let t = le-ltb (i + 1) (count cs) ge in rw t (omega arith)
  | inl lt ↦
      let next = high_next cs u i lt in
      let last = low_le cs u (i + 1) (count cs - 1) (omega (arith, lt)) (omega (arith, lt)) in
      omega (arith, next, last, u.reached)
]
