-- What a text says as a length, by where its point is.
use Rattle.std.proofs.Common.{◌≡◌, ℕ, ◌+◌, ◌*◌, ◌/◌, ◌%◌, ◌^◌, ◌<◌, ◌≤◌, List, [], ◌∷◌, ◌++◌, get_or, refl, ap, subst, sym, ◌∙◌, inl, inr, arith}
use Rattle.std.specs.Fmt.{decimal}
use Rattle.std.specs.Str.Parse.{digits_value}
use Rattle.std.proofs.lemmas.Fmt.{digits_decimal, digits_value-decimal, decimal_digit, decimal_nonempty, length-decimal-le}
use Rattle.cut_measure.specs.Lengths.{IsWholeMillimetres, IsLengthText, mm_text}
use Rattle.cut_measure.proofs.Digits.{own}
use Rattle.cut_measure.proofs.Splits.{Lacks, digits_lack, has_it, one_split}

-- a text without a point
pub no_whole : (text : List ℕ) → Lacks 46 text → (IsWholeMillimetres text → ⊥) → (n : ℕ) → IsLengthText text n → ⊥
no_whole text none not n h =
    elim h.2 [
      | inl p ↦ not (subst IsWholeMillimetres (sym p.0) h.1)
      | inr p ↦ has_it 46 h.0 ((48 + p.0) ∷ []) (subst (Lacks 46) p.2 none)
    ]

pub only_whole : (text : List ℕ) → IsWholeMillimetres text → IsLengthText text (10 * digits_value 10 text)
only_whole text is = (text, is, inl (refl, refl))

-- a text that a point divides
module _ (text whole after : List ℕ) (parts : text ≡ whole ++ 46 ∷ after) (none : Lacks 46 whole) where
  pub pointed : (n : ℕ) → IsLengthText text n → (d : ℕ) × (d < 10) × (after ≡ (48 + d) ∷ []) × IsWholeMillimetres whole
  pointed n h =
      elim h.2 [
        | inl p ↦ absurd (has_it 46 whole after (subst (Lacks 46) (sym p.0 ∙ parts) (digits_lack 46 h.0 (omega arith) h.1.2)))
        | inr p ↦
            let same = one_split 46 h.0 ((48 + p.0) ∷ []) whole after (sym p.2 ∙ parts) (digits_lack 46 h.0 (omega arith) h.1.2) none in
            (p.0, p.1, sym same.1, subst IsWholeMillimetres same.0 h.1)
      ]

  pub with_tenth : IsWholeMillimetres whole → (d : ℕ) → d < 10 → after ≡ (48 + d) ∷ [] → IsLengthText text (10 * digits_value 10 whole + d)
  with_tenth is d small tenth = (whole, is, inr (d, small, parts ∙ ap (λ l. whole ++ 46 ∷ l) tenth, refl))

digit_of : (c d : ℕ) → (48 + c) ∷ [] ≡ (48 + d) ∷ [] → c ≡ d
digit_of c d same = let e : 48 + c ≡ 48 + d = ap (λ l. get_or l 0 0) same in omega arith

-- a text says one length at most
pub one_length : (text : List ℕ) (m n : ℕ) → IsLengthText text m → IsLengthText text n → m ≡ n
one_length text m n g h =
    elim g.2 [
      | inl p ↦
          elim h.2 [
            | inl q ↦ (let same : digits_value 10 g.0 ≡ digits_value 10 h.0 = ap (digits_value 10) (sym p.0 ∙ q.0) in omega (arith, p.1, q.1))
            | inr q ↦ absurd (has_it 46 h.0 ((48 + q.0) ∷ []) (subst (Lacks 46) (sym p.0 ∙ q.2) (digits_lack 46 g.0 (omega arith) g.1.2)))
          ]
      | inr p ↦
          elim h.2 [
            | inl q ↦ absurd (has_it 46 g.0 ((48 + p.0) ∷ []) (subst (Lacks 46) (sym q.0 ∙ p.2) (digits_lack 46 h.0 (omega arith) h.1.2)))
            | inr q ↦
                let same = one_split 46 g.0 ((48 + p.0) ∷ []) h.0 ((48 + q.0) ∷ []) (sym p.2 ∙ q.2) (digits_lack 46 g.0 (omega arith) g.1.2) (digits_lack 46 h.0 (omega arith) h.1.2) in
                let value : digits_value 10 g.0 ≡ digits_value 10 h.0 = ap (digits_value 10) same.0 in
                omega (arith, p.3, q.3, digit_of p.0 q.0 same.1)
          ]
    ]

-- what is printed of a length says it
pub printed : (n : ℕ) → n ≤ 9999999 → IsLengthText (mm_text n) n
printed n small =
    let low : n / 10 < 10 ^ 6 = omega arith in
    let value : digits_value 10 (decimal (n / 10)) ≡ n / 10 = digits_value-decimal own (n / 10) (omega arith) in (
      decimal (n / 10),
      (decimal_nonempty (n / 10) (omega arith), length-decimal-le 6 (n / 10) (omega arith) low (omega arith), digits_decimal own (n / 10) (omega arith)),
      inr (n % 10, omega arith, ap (λ l. decimal (n / 10) ++ 46 ∷ l) (decimal_digit (n % 10) (omega arith)), omega arith),
    )
