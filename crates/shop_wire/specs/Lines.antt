-- The lines of an input, and what is kept of one while it is read.
use Rattle.std.specs.Prelude.{◌≡◌, ℕ, ◌+◌, ◌-◌, ◌==◌, List, [], ◌∷◌, take, drop, false, if◌then◌else◌, Option, Some, None, ⊤}
use Rattle.shop_wire.specs.declared.limits.TheConstants.{MAX_LINE_LEN}

-- a byte goes onto the first line of the rest
abbrev pub onto_first : ℕ → List (List ℕ) → List (List ℕ)
onto_first b [] = (b ∷ []) ∷ []
onto_first b (line ∷ lines) = (b ∷ line) ∷ lines

-- the lines of a text: each that ends in a line feed, and a last one without it that isn't empty
abbrev pub lines_of : List ℕ → List (List ℕ)
lines_of [] = []
lines_of (b ∷ bs) = if b == 10 then [] ∷ lines_of bs else onto_first b (lines_of bs)

-- bytes without a line feed
abbrev pub HasNoFeed : List ℕ → Type 0
HasNoFeed [] = ⊤
HasNoFeed (b ∷ bs) = ((b == 10) ≡ false) × HasNoFeed bs

-- these are the lines of the input, where it is reported
abbrev pub AreLines : Option (List ℕ) → List (List ℕ) → Type 0
AreLines None lines = ⊤
AreLines (Some input) lines = lines ≡ lines_of input

-- the longest line that is read
abbrev pub longest_line : ℕ
longest_line = MAX_LINE_LEN

-- of a line, one byte more than the longest has shows that it is too long
abbrev pub kept_of : List ℕ → List ℕ
kept_of line = take (longest_line + 1) line

-- what lies in a buffer and wasn't taken yet
abbrev pub pending : List ℕ → ℕ → ℕ → List ℕ
pending buffer start end = take (end - start) (drop start buffer)

-- a line is the first of what was left, where that is reported, and the rest of it is left now
abbrev pub GivesLine : Option (List ℕ) → Option (List ℕ) → List ℕ → Type 0
GivesLine None new line = ⊤
GivesLine (Some xs) None line = ⊥
GivesLine (Some xs) (Some ys) line = lines_of xs ≡ line ∷ lines_of ys
