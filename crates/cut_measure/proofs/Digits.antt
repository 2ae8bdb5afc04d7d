-- Decimal digits, and the number that they stand for.
use Rattle.std.proofs.Common.{◌≡◌, ℕ, ◌+◌, ◌-◌, ◌*◌, ◌^◌, ◌<◌, ◌≤◌, List, [], ◌∷◌, ◌++◌, length, get_or, take, drop, refl, ap, subst, sym, ◌∙◌, inl, inr, arith}
use Rattle.std.specs.Prelude.{Option, Some, None, ◌⊎◌}
use Rattle.std.specs.Option.{SomeIff}
use Rattle.std.specs.Fmt.{decimal}
use Rattle.std.proofs.lemmas.Fmt.{digits_decimal, digits_value-decimal, decimal-digits_value, decimal_digit, decimal_nonempty, first_decimal}
use Rattle.std.proofs.lemmas.Bool.{cases_lt}
use Rattle.std.specs.Str.Parse.{AllDigits, digits_value, digits_value_after}
use Rattle.std.specs.Char.{digit_value}
use Rattle.std.proofs.lemmas.Str.Parse.{IsNumeralModel, numerals_by_value, tells_digits}
use Rattle.std.proofs.lemmas.List.{take-append-drop}
use Rattle.std.proofs.lemmas.Bool.Decides.{nat_tests}
use Rattle.cut_measure.specs.Numbers.{IsNumberOf}

-- what digits stand for grows with each more
digits_value_after-le : (n : ℕ) (cs : List ℕ) → n ≤ digits_value_after 10 n cs
digits_value_after-le n [] = omega arith
digits_value_after-le n (c ∷ cs) = omega (arith, digits_value_after-le (n * 10 + digit_value c) cs)

digits_value_after-append : (n : ℕ) (xs ys : List ℕ) → digits_value_after 10 n (xs ++ ys) ≡ digits_value_after 10 (digits_value_after 10 n xs) ys
digits_value_after-append n [] ys = refl
digits_value_after-append n (x ∷ xs) ys = digits_value_after-append (n * 10 + digit_value x) xs ys

pub digits_value-take : (bs : List ℕ) (i : ℕ) → digits_value 10 (take i bs) ≤ digits_value 10 bs
digits_value-take bs i =
    omega (
      arith,
      digits_value_after-le (digits_value 10 (take i bs)) (drop i bs),
      ap (digits_value 10) (sym (take-append-drop i bs)) ∙ digits_value_after-append 0 (take i bs) (drop i bs),
    )

pub own : IsNumeralModel (AllDigits 10) (digits_value 10)
own = numerals_by_value (AllDigits 10) tells_digits

-- the value of an ASCII digit
pub digit_value-ascii : (c : ℕ) → 48 ≤ c → c ≤ 57 → digit_value c ≡ c - 48
digit_value-ascii c low high = grind (arith, nat_tests)

-- the number of digits without leading zeros
pub number_from : (r : Option ℕ) (ds : List ℕ) → 0 < length ds → (get_or ds 0 0 ≡ 48 → length ds ≡ 1) → SomeIff r (AllDigits 10 ds × (digits_value 10 ds < 2 ^ 32)) (digits_value 10 ds) → IsNumberOf r ds
number_from None ds some lead h = λ n small same.
    h (
      subst (λ (l : List ℕ). AllDigits 10 l) same (digits_decimal own n (omega arith)),
      (let e : digits_value 10 ds ≡ n = ap (digits_value 10) (sym same) ∙ digits_value-decimal own n (omega arith) in omega arith),
    )
number_from (Some x) ds some lead h =
    let is : x ≡ digits_value 10 ds = h.1 in
    (omega (arith, h.0.1, is), ap decimal is ∙ decimal-digits_value own ds h.0.0 some lead (omega (arith, h.0.1)))

-- no number is spelled by no digits, or by several with a zero in front
pub no_number : (n : ℕ) (ds : List ℕ) → n < 2 ^ 32 → (length ds ≡ 0) ⊎ ((get_or ds 0 0 ≡ 48) × (1 < length ds)) → decimal n ≡ ds → ⊥
no_number n ds small (inl e) same = let l : 0 < length (decimal n) = decimal_nonempty n (omega arith) in omega (arith, ap length same)
no_number n ds small (inr e) same =
    elim (cases_lt 0 n) [
      | inl l ↦ (let f : 48 < get_or (decimal n) 0 0 = first_decimal n l (omega arith) in omega (arith, e.0, ap (λ l. get_or l 0 0) same))
      | inr z ↦ (let zero : n ≡ 0 = omega arith in omega (arith, e.1, ap length (sym same ∙ ap decimal zero ∙ decimal_digit 0 (omega arith))))
    ]
