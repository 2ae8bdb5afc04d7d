-- Lengths as text: millimetres with one decimal at most, read as tenths of a millimetre.
use Rattle.std.specs.Prelude.{ℕ, ◌≡◌, ◌+◌, ◌*◌, ◌/◌, ◌%◌, ◌<◌, ◌≤◌, ◌⊎◌, List, [], ◌∷◌, ◌++◌, length}
use Rattle.std.specs.Fmt.{decimal}
use Rattle.std.specs.Str.Parse.{AllDigits, digits_value}

-- one to six digits
abbrev pub IsWholeMillimetres : List ℕ → Type 0
IsWholeMillimetres digits = (1 ≤ length digits) × (length digits ≤ 6) × AllDigits 10 digits

-- The text says a length of n tenths: one to six digits of millimetres, after which a point and a digit of tenths may
-- stand.
abbrev pub IsLengthText : List ℕ → ℕ → Type 0
IsLengthText text n =
    (whole : List ℕ) × IsWholeMillimetres whole × (((text ≡ whole) × (n ≡ 10 * digits_value 10 whole))
    ⊎ ((tenth : ℕ) × (tenth < 10) × (text ≡ whole ++ 46 ∷ (48 + tenth) ∷ []) × (n ≡ 10 * digits_value 10 whole + tenth)))

-- how a length of n tenths is printed: with exactly one decimal
abbrev pub mm_text : ℕ → List ℕ
mm_text n = decimal (n / 10) ++ 46 ∷ decimal (n % 10)
