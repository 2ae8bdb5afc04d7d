-- The words of pieces: the number of a plain one isn't that of a turned one.
use Rattle.std.proofs.Common.{◌≡◌, ℕ, ◌^◌, ◌<◌, ◌≤◌, true, false, List, [], ◌∷◌, ◌++◌, length, get_or, ap, subst, sym, ◌∙◌, arith}
use Rattle.std.specs.Prelude.{Option, Some, None}
use Rattle.std.specs.Option.{SomeIff}
use Rattle.std.specs.Fmt.{decimal}
use Rattle.std.specs.Str.Parse.{AllDigits, digits_value}
use Rattle.std.proofs.Math.Seq.{get_or-append_seam}
use Rattle.std.proofs.lemmas.Fmt.{digits_decimal, decimal_injective}
use Rattle.std.proofs.lemmas.Str.Parse.{IsNumeralModel, digit_at, numerals_by_value, tells_digits}
use Rattle.std.proofs.lemmas.List.{append-nil, length-append, append_cancel_right}
use Rattle.cut_measure.specs.declared.ranges.TheConstants.{MAX_NUMBERS}
use Rattle.cut_measure.specs.declared.sizes.Axis.TheVariants.{X, Y}
use Rattle.cut_tree.specs.declared.token.Token.{Token}
use Rattle.cut_tree.specs.declared.token.Token.TheVariants as token
use Rattle.cut_tree.specs.Spelling.{token_text, IsToken, IsTokenOf}

pub own : IsNumeralModel (AllDigits 10) (digits_value 10)
own = numerals_by_value (AllDigits 10) tells_digits

-- no number's digits end in t
pub unlike : (m : ℕ) (ds : List ℕ) → m < 2 ^ 64 → decimal m ≡ ds ++ 116 ∷ [] → ⊥
unlike m ds small same =
    let all : AllDigits 10 (ds ++ 116 ∷ []) = subst (λ (l : List ℕ). AllDigits 10 l) same (digits_decimal own m small) in
    let d = digit_at (ds ++ 116 ∷ []) (length ds) all (omega (arith, length-append ds (116 ∷ []))) in
    let e : get_or (ds ++ 116 ∷ []) (length ds) 0 ≡ 116 = get_or-append_seam ds 116 [] 0 in
    omega (arith, d.1, e)

pub first_byte : (b c : ℕ) (bs cs : List ℕ) → b ∷ bs ≡ c ∷ cs → b ≡ c
first_byte b c bs cs same = ap (λ l. get_or l 0 0) same

no_plain : (d : ℕ) (text : List ℕ) → d < 2 ^ 64 → decimal d ≡ text → (d ≤ MAX_NUMBERS → ⊥) → (t : Token) → IsToken t → token_text t ≡ 112 ∷ text → ⊥
no_plain d text small is big (token.Cut X a) p same = omega (arith, first_byte 120 112 _ _ same)
no_plain d text small is big (token.Cut Y a) p same = omega (arith, first_byte 121 112 _ _ same)
no_plain d text small is big token.Rest p same = omega (arith, first_byte 114 112 _ _ same)
no_plain d text small is big (token.Piece e false) p same =
    let bytes : decimal e ++ [] ≡ text = cc in
    let one : e ≡ d = decimal_injective e d (omega (arith, p.1)) small (sym (append-nil (decimal e)) ∙ bytes ∙ sym is) in
    big (omega (arith, p.1))
no_plain d text small is big (token.Piece e true) p same =
    let bytes : decimal e ++ 116 ∷ [] ≡ text = cc in
    unlike d (decimal e) small (is ∙ sym bytes)

no_turned : (d : ℕ) (digits : List ℕ) → d < 2 ^ 64 → decimal d ≡ digits → (d ≤ MAX_NUMBERS → ⊥) → (t : Token) → IsToken t → token_text t ≡ 112 ∷ (digits ++ 116 ∷ []) → ⊥
no_turned d digits small is big (token.Cut X a) p same = omega (arith, first_byte 120 112 _ _ same)
no_turned d digits small is big (token.Cut Y a) p same = omega (arith, first_byte 121 112 _ _ same)
no_turned d digits small is big token.Rest p same = omega (arith, first_byte 114 112 _ _ same)
no_turned d digits small is big (token.Piece e false) p same =
    let bytes : decimal e ++ [] ≡ digits ++ 116 ∷ [] = cc in
    unlike e digits (omega (arith, p.1)) (sym (append-nil (decimal e)) ∙ bytes)
no_turned d digits small is big (token.Piece e true) p same =
    let bytes : decimal e ++ 116 ∷ [] ≡ digits ++ 116 ∷ [] = cc in
    let one : e ≡ d = decimal_injective e d (omega (arith, p.1)) small (append_cancel_right (decimal e) digits (116 ∷ []) bytes ∙ sym is) in
    big (omega (arith, p.1))

pub plain_piece : (r : Option Token) (d : ℕ) (text : List ℕ) → 1 ≤ d → d < 2 ^ 64 → decimal d ≡ text → SomeIff r (d ≤ MAX_NUMBERS) (token.Piece d false) → IsTokenOf r (112 ∷ text)
plain_piece None d text one small is h = no_plain d text small is h
plain_piece (Some t) d text one small is h =
    subst (λ (u : Token). IsToken u × (token_text u ≡ 112 ∷ text)) (sym h.1) ((one, h.0), ap (λ l. 112 ∷ l) (append-nil (decimal d) ∙ is))

pub turned_piece : (r : Option Token) (d : ℕ) (digits : List ℕ) → 1 ≤ d → d < 2 ^ 64 → decimal d ≡ digits → SomeIff r (d ≤ MAX_NUMBERS) (token.Piece d true) → IsTokenOf r (112 ∷ (digits ++ 116 ∷ []))
turned_piece None d digits one small is h = no_turned d digits small is h
turned_piece (Some t) d digits one small is h =
    subst (λ (u : Token). IsToken u × (token_text u ≡ 112 ∷ (digits ++ 116 ∷ []))) (sym h.1) ((one, h.0), ap (λ l. 112 ∷ (l ++ 116 ∷ [])) is)
