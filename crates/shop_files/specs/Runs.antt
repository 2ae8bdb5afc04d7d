-- The numbers of a text: its runs of digits, with their places.
use Rattle.std.specs.Prelude.{ℕ, suc, ◌&&◌, ◌==◌, Bool, nat_le, if◌then◌else◌, List, [], ◌∷◌}
use Rattle.std.specs.Str.Parse.{digits_value}

abbrev pub is_digit : ℕ → Bool
is_digit b = nat_le 48 b && nat_le b 57

-- digits that stand together, and the place of the first
pub record DigitRun : Type 0 where
  pub place : ℕ
  pub digits : List ℕ

abbrev pub value_of : DigitRun → ℕ
value_of run = digits_value 10 run.digits

-- the runs with a digit before them, at this place: it begins the first run where that stands right after it
abbrev pub with_digit : ℕ → ℕ → List DigitRun → List DigitRun
with_digit place b [] = record { place = place; digits = b ∷ [] } ∷ []
with_digit place b (run ∷ more) =
    if run.place == suc place then record { place = place; digits = b ∷ run.digits } ∷ more else record { place = place; digits = b ∷ [] } ∷ run ∷ more

-- the runs of a text whose first byte has this place
unfoldable pub runs_from : ℕ → List ℕ → List DigitRun
runs_from place [] = []
runs_from place (b ∷ bs) = if is_digit b then with_digit place b (runs_from (suc place) bs) else runs_from (suc place) bs

abbrev pub runs_of : List ℕ → List DigitRun
runs_of text = runs_from 0 text
