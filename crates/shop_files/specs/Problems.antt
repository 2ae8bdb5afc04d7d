-- Problem files: a count of pieces, a rectangle, and of each piece its sides, how many of it there may be, and its worth.
use Rattle.std.specs.Prelude.{ℕ, suc, ◌≡◌, ◌+◌, ◌*◌, ◌%◌, ◌<◌, ◌≤◌, ◌&&◌, ◌||◌, ◌==◌, Bool, true, false, nat_le, if◌then◌else◌, List, [], ◌∷◌, ◌++◌, map, length, get_or, drop, ◌⊎◌}
use Rattle.std.specs.List.{list_all, flat_map, AllByRecursion}
use Rattle.cut_measure.specs.Measures.{Size}
use Rattle.cut_measure.specs.declared.ranges.TheConstants.{MAX_WIDTH, MAX_HEIGHT, MAX_COUNT, MAX_WORTH}
use Rattle.shop_files.specs.declared.limits.TheConstants.{MAX_TEXT_LEN, MAX_PIECES}
use Rattle.shop_files.specs.Runs.{DigitRun, is_digit, value_of, runs_from, runs_of}
use Rattle.shop_files.specs.declared.problems.Piece.{Piece}
use Rattle.shop_files.specs.declared.problems.TextCause.{TextCause}
use Rattle.shop_files.specs.declared.problems.TextCause.TheVariants.{Long, Byte, Number, Short, NoMemory}

-- a digit, a space, a tab, a carriage return or a line feed
abbrev pub is_problem_byte : ℕ → Bool
is_problem_byte b = is_digit b || (b == 32 || (b == 9 || (b == 13 || b == 10)))

-- the greatest value of the number at an index: the count, the rectangle's sides, and of each piece its sides, its
-- greatest count and its worth
abbrev pub most_at : ℕ → ℕ
most_at i =
    if i == 0 then MAX_PIECES else if i == 1 then MAX_WIDTH else if i == 2 then MAX_HEIGHT
    else if i % 4 == 3 then MAX_WIDTH else if i % 4 == 0 then MAX_HEIGHT else if i % 4 == 1 then MAX_COUNT else MAX_WORTH

abbrev pub fits : ℕ → DigitRun → Bool
fits i run = nat_le 1 (value_of run) && nat_le (value_of run) (most_at i)

-- the runs, of which the first has this index, are in range
abbrev pub AllFit : ℕ → List DigitRun → Type 0
AllFit i [] = Unit {0}
AllFit i (run ∷ more) = (fits i run ≡ true) × AllFit (suc i) more

-- how many numbers a problem has: as many as its first one says, or else the first three
abbrev pub wanted : List DigitRun → ℕ
wanted [] = 3
wanted (run ∷ more) = if fits 0 run then 3 + 4 * value_of run else 3

-- the numbers of a problem, in order
abbrev pub piece_numbers : Piece → List ℕ
piece_numbers p = p.w ∷ p.h ∷ p.most ∷ p.worth ∷ []

abbrev pub numbers_of : Size → List Piece → List ℕ
numbers_of size pieces = length pieces ∷ size.w ∷ size.h ∷ flat_map piece_numbers pieces

-- the text spells the problem of a rectangle and these pieces
pub record IsProblem (text : List ℕ) (size : Size) (pieces : List Piece) : Type 0 where
  pub short : length text ≤ MAX_TEXT_LEN
  pub bytes : list_all is_problem_byte text ≡ true
  pub numbers : map value_of (runs_of text) ≡ numbers_of size pieces
  pub in_range : AllFit 0 (runs_of text)

-- a piece's numbers are in range
abbrev pub IsPiece : Piece → Type 0
IsPiece p = (1 ≤ p.w) × (p.w ≤ MAX_WIDTH) × (1 ≤ p.h) × (p.h ≤ MAX_HEIGHT) × (1 ≤ p.most) × (p.most ≤ MAX_COUNT) × (1 ≤ p.worth) × (p.worth ≤ MAX_WORTH)

-- a problem has 1 to 200 pieces, in range
abbrev pub ArePieces : List Piece → Type 0
ArePieces pieces = (1 ≤ length pieces) × (length pieces ≤ MAX_PIECES) × AllByRecursion IsPiece pieces

-- a number before the `most`th is out of range, the first of them at this place
abbrev pub IsBadNumber : ℕ → List DigitRun → ℕ → ℕ → Type 0
IsBadNumber i runs most place =
    (prefix : List DigitRun) × (run : DigitRun) × (more : List DigitRun) × (runs ≡ prefix ++ run ∷ more)
    × AllFit i prefix × (i + length prefix < most) × (fits (i + length prefix) run ≡ false) × (run.place ≡ place)

-- the runs are in range and fewer
abbrev pub AreFew : ℕ → List DigitRun → ℕ → Type 0
AreFew i runs most = AllFit i runs × (i + length runs < most)

-- so many numbers are in range, and one more follows, at this place
abbrev pub IsOneTooMany : List DigitRun → ℕ → ℕ → Type 0
IsOneTooMany runs most place =
    (prefix : List DigitRun) × (run : DigitRun) × (more : List DigitRun) × (runs ≡ prefix ++ run ∷ more)
    × AllFit 0 prefix × (length prefix ≡ most) × (run.place ≡ place)

-- each byte before this place is one of a problem's, and the one there isn't
abbrev pub IsBadByte : List ℕ → ℕ → Type 0
IsBadByte text place =
    (place < length text) × (is_problem_byte (get_or text place 0) ≡ false) × ((i : ℕ) → i < place → is_problem_byte (get_or text i 0) ≡ true)

-- the text is a list of numbers, of problem length
abbrev pub IsNumbers : List ℕ → Type 0
IsNumbers text = (length text ≤ MAX_TEXT_LEN) × (list_all is_problem_byte text ≡ true)

-- the first fault of a text, or that memory ran out
abbrev pub IsProblemFault : List ℕ → ℕ → TextCause → Type 0
IsProblemFault text offset Long =
    ((MAX_TEXT_LEN < length text) × (offset ≡ MAX_TEXT_LEN)) ⊎ (IsNumbers text × IsOneTooMany (runs_of text) (wanted (runs_of text)) offset)
IsProblemFault text offset Byte = (length text ≤ MAX_TEXT_LEN) × IsBadByte text offset
IsProblemFault text offset Number = IsNumbers text × IsBadNumber 0 (runs_of text) (wanted (runs_of text)) offset
IsProblemFault text offset Short = IsNumbers text × AreFew 0 (runs_of text) (wanted (runs_of text)) × (offset ≡ length text)
IsProblemFault text offset NoMemory = offset ≡ 0

-- the runs of a text from a place on
abbrev pub runs_at : List ℕ → ℕ → List DigitRun
runs_at text at = runs_from at (drop at text)

-- the runs from a place on are these, in range from an index on, and those from another place on
pub record ReadsRuns (i : ℕ) (text : List ℕ) (at : ℕ) (prefix : List DigitRun) (next : ℕ) : Type 0 where
  pub runs : runs_at text at ≡ prefix ++ runs_at text next
  pub fit : AllFit i prefix
  pub within : next ≤ length text

-- what is wrong with the runs from index i on, of a text of this length that has so many numbers
abbrev pub Stops : ℕ → List DigitRun → (len most : ℕ) → ℕ → TextCause → Type 0
Stops i runs len most offset Number = IsBadNumber i runs most offset
Stops i runs len most offset Short = AreFew i runs most × (offset ≡ len)
Stops i runs len most offset Long = ⊥
Stops i runs len most offset Byte = ⊥
Stops i runs len most offset NoMemory = ⊥

-- memory ran out, or that is wrong
abbrev pub StopsOrEnds : ℕ → List DigitRun → (len most : ℕ) → ℕ → TextCause → Type 0
StopsOrEnds i runs len most offset cause = ((cause ≡ NoMemory) × (offset ≡ 0)) ⊎ Stops i runs len most offset cause

-- a number was read
abbrev pub HasNumber : List ℕ → (at most : ℕ) → (value next : ℕ) → Type 0
HasNumber text at most value next = (run : DigitRun) × (value_of run ≡ value) × ((i : ℕ) → most_at i ≡ most → ReadsRuns i text at (run ∷ []) next)

-- a piece's numbers were read
abbrev pub HasPiece : List ℕ → (at : ℕ) → Piece → (next : ℕ) → Type 0
HasPiece text at piece next =
    (prefix : List DigitRun) × (map value_of prefix ≡ piece_numbers piece) × ((i : ℕ) → i % 4 ≡ 3 → ReadsRuns i text at prefix next)

-- so many pieces' numbers were read
abbrev pub HasPieces : List ℕ → (at count : ℕ) → List Piece → (next : ℕ) → Type 0
HasPieces text at count pieces next =
    (prefix : List DigitRun) × (map value_of prefix ≡ flat_map piece_numbers pieces) × (length pieces ≡ count) × (length prefix ≡ 4 * count) × ReadsRuns 3 text at prefix next
