-- Numbers as text: decimal digits without leading zeros.
use Rattle.std.specs.Prelude.{ℕ, ◌≡◌, ◌<◌, ◌^◌, List, Option, Some, None}
use Rattle.std.specs.Fmt.{decimal}

-- the number of 32 bits that the text is, or that it is none
abbrev pub IsNumberOf : Option ℕ → List ℕ → Type 0
IsNumberOf None text = (n : ℕ) → n < 2 ^ 32 → decimal n ≡ text → ⊥
IsNumberOf (Some n) text = (n < 2 ^ 32) × (decimal n ≡ text)
