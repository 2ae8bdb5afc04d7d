-- Texts as they are printed: one character after another, and none of them a control character.
use Rattle.std.proofs.Common.{◌≡◌, ◌∙◌, ℕ, zero, suc, ◌+◌, ◌<◌, ◌^◌, Bool, true, false, List, [], ◌∷◌, ◌++◌, ◌==◌, not, ◌&&◌, IsAscii, IsUtf8, get_or, append-nil, refl, sym, ap, ap₂, subst, arith}
use Rattle.std.proofs.lemmas.Fmt.{digits_is_IsNumeral}
use Rattle.std.proofs.lemmas.Str.{NoCharPasses-nil, NoCharPasses-append, NoCharPasses-byte, chars_past_char, chars-nil, encodes-IsAscii}
use Rattle.std.specs.Prelude.{◌||◌, codes, if◌then◌else◌, length, string_bytes, String, Option, Some, Result, Ok, Err, IfOk, IfSome}
use Rattle.std.specs.Result.{result_ok}
use Rattle.std.specs.declared.alloc.Global.{Global}
use Rattle.std.specs.List.{flat_map, list_any}
use Rattle.std.specs.Char.{is_control, encode_utf8, digit_value}
use Rattle.std.proofs.lemmas.Bool.{and_parts, eqb-true}
use Rattle.std.specs.Fmt.{digits}
use Rattle.std.specs.Str.{NoCharPasses, NonePass, chars}
use Rattle.std.specs.Str.Parse.{AllDigits}
use Rattle.shop_advice.specs.Printing.{is_hidden, number_text, printed_char, printed}

-- of the rest of a text
pub printed_empty : (h : Bool) (text : List ℕ) → length text ≡ 0 → printed h text ≡ []
printed_empty h [] none = ap (flat_map (printed_char h)) chars-nil
printed_empty h (b ∷ bs) none = absurd (omega (arith, none))

pub printed_step : (h : Bool) (text rest : List ℕ) (c : ℕ) → IsUtf8 text → text ≡ encode_utf8 c ++ rest → printed h text ≡ printed_char h c ++ printed h rest
printed_step h text rest c utf8 parts = ap (flat_map (printed_char h)) (chars_past_char text rest c utf8 parts)

pub control_empty : (text : List ℕ) → length text ≡ 0 → list_any is_control (chars text) ≡ false
control_empty [] none = ap (list_any is_control) chars-nil
control_empty (b ∷ bs) none = absurd (omega (arith, none))

-- a hexadecimal digit is a letter or a decimal digit
hex_digit : (c : ℕ) → digit_value c < 16 → (47 < c) × (c < 123)
hex_digit c low = grind arith

plain_digit : (c : ℕ) → 47 < c → c < 123 → is_control c ≡ false
plain_digit c low high = grind arith

hidden_digit : (h : Bool) (c : ℕ) → is_control c ≡ false → is_hidden h c ≡ false
hidden_digit h c e = by_first (not (h && c == 10)) (is_control c) e
  where
    by_first : (a b : Bool) → b ≡ false → (a && b) ≡ false
    by_first true b e = e
    by_first false b e = refl

ascii_digits : (ds : List ℕ) → AllDigits 16 ds → IsAscii ds
ascii_digits [] all i = omega arith
ascii_digits (c ∷ cs) all zero = omega (arith, (hex_digit c all.0).1)
ascii_digits (c ∷ cs) all (suc i) = ascii_digits cs all.1 i

plain_digits : (h : Bool) (ds : List ℕ) → AllDigits 16 ds → NonePass (is_hidden h) ds
plain_digits h [] all = tt
plain_digits h (c ∷ cs) all =
    let own = hex_digit c all.0 in
    (hidden_digit h c (plain_digit c own.0 own.1), plain_digits h cs all.1)

-- no character of what is printed is hidden
module _ (h : Bool) where
  plain_number : (c : ℕ) → is_control c ≡ true → NoCharPasses (is_hidden h) (number_text c)
  unfolding encode_utf8
  plain_number c control =
      let all = (digits_is_IsNumeral 16 false (omega arith) (omega arith) c (small c control)).0.1 in
      NoCharPasses-append (is_hidden h) (codes "\\u{") (digits 16 false c ++ codes "}") (codes "\\u{", refl, opening h)
      (NoCharPasses-append (is_hidden h) (digits 16 false c) (codes "}") (digits 16 false c, encodes-IsAscii _ (ascii_digits _ all), plain_digits h _ all) (codes "}", refl, closing h))
    where
      small : (c : ℕ) → is_control c ≡ true → c < 16 ^ 64
      small c control = grind arith

      opening : (h : Bool) → NonePass (is_hidden h) (codes "\\u{")
      opening true = (refl, (refl, (refl, tt)))
      opening false = (refl, (refl, (refl, tt)))

      closing : (h : Bool) → NonePass (is_hidden h) (codes "}")
      closing true = (refl, tt)
      closing false = (refl, tt)

  plain_char : (c : ℕ) → NoCharPasses (is_hidden h) (printed_char h c)
  plain_char c = by_test (is_hidden h c) refl
    where
      by_test : (hidden : Bool) → is_hidden h c ≡ hidden → NoCharPasses (is_hidden h) (if hidden then number_text c else encode_utf8 c)
      by_test true e = plain_number c (and_parts (not (h && c == 10)) (is_control c) e).1
      by_test false e = (c ∷ [], append-nil _, (e, tt))

  plain_chars : (cs : List ℕ) → NoCharPasses (is_hidden h) (flat_map (printed_char h) cs)
  plain_chars [] = NoCharPasses-nil (is_hidden h)
  plain_chars (c ∷ cs) = NoCharPasses-append (is_hidden h) (printed_char h c) (flat_map (printed_char h) cs) (plain_char c) (plain_chars cs)

  pub plain_printed : (text printed_so : List ℕ) → printed_so ≡ printed h text → NoCharPasses (is_hidden h) printed_so
  plain_printed text printed_so e = subst (NoCharPasses (is_hidden h)) (sym e) (plain_chars (chars text))

-- nor does a text without a control character have a line feed
none_any : (test : ℕ → Bool) (bs : List ℕ) → ((i : ℕ) → i < length bs → test (get_or bs i 0) ≡ false) → list_any test bs ≡ false
none_any test [] each = refl
none_any test (b ∷ bs) each = ap₂ (λ x y. x || y) (each 0 (omega arith)) (none_any test bs (λ i within. each (suc i) (omega (arith, within))))

pub on_one_line : (bs : List ℕ) → NoCharPasses is_control bs → list_any (λ b. b == 10) bs ≡ false
on_one_line bs none = none_any (λ b. b == 10) bs (λ i within. by_test (get_or bs i 0) (λ low. NoCharPasses-byte is_control bs i none within low))
  where
    by_test : (b : ℕ) → (b < 128 → is_control b ≡ false) → (b == 10) ≡ false
    by_test b passed = by_equal (b == 10) refl
      where
        by_equal : (same : Bool) → (b == 10) ≡ same → (b == 10) ≡ false
        by_equal false e = e
        by_equal true e =
            let is : b ≡ 10 = eqb-true b 10 e in
            absurd (cc (passed (omega (arith, is)), ap is_control is))

pub some_on_one_line : {E : Type 0} (r : Result (String Global) E) (found : Option (String Global)) → found ≡ result_ok r → IfOk r (λ printed. NoCharPasses is_control (string_bytes printed))
    → IfSome found (λ printed. list_any (λ b. b == 10) (string_bytes printed) ≡ false)
some_on_one_line (Ok printed) found e none = rw e (on_one_line (string_bytes printed) none)
some_on_one_line (Err f) found e none = rw e tt
