-- Equality of parts as a test.
use Rattle.std.specs.Prelude.{ℕ, ◌&&◌, ◌==◌, List, [], ◌∷◌, Bool, true, false}
use Rattle.cut_measure.specs.Measures.{Size}
use Rattle.shop_records.specs.declared.records.Part.{Part}
use Rattle.shop_records.specs.declared.records.State.{State}
use Rattle.shop_records.specs.declared.records.StateWord.{StateWord}
use Rattle.shop_records.specs.declared.records.StateWord.TheVariants as word
use Rattle.shop_records.specs.Same.{same_name, same_code}
use Rattle.shop_records.specs.Columns.{state_word, state_of}

-- the words in their order
abbrev pub word_number : StateWord → ℕ
word_number word.Standing = 0
word_number word.Reserved = 1
word_number word.Cut = 2
word_number word.Piece = 3
word_number word.Kerf = 4
word_number word.Scrap = 5
word_number word.Returned = 6
word_number word.Undone = 7

abbrev pub same_state : State → State → Bool
same_state a b = (word_number (state_word a) == word_number (state_word b)) && (state_of a == state_of b)

abbrev pub same_size : Size → Size → Bool
same_size a b = (a.w == b.w) && (a.h == b.h)

-- of one name, material, batch and unit
abbrev pub same_origin : Part → Part → Bool
same_origin a b = same_name a.name b.name && same_code a.material b.material && same_code a.batch b.batch && same_name a.root b.root

-- at one place, with the same sides
abbrev pub same_place : Part → Part → Bool
same_place a b = (a.x == b.x) && (a.y == b.y) && same_size a.size b.size

-- all fields are equal
abbrev pub same_part : Part → Part → Bool
same_part a b = same_origin a b && same_place a b && same_state a.state b.state

-- the same parts in the same order
abbrev pub same_parts : List Part → List Part → Bool
same_parts [] [] = true
same_parts [] (b ∷ more) = false
same_parts (a ∷ others) [] = false
same_parts (a ∷ others) (b ∷ more) = same_part a b && same_parts others more
