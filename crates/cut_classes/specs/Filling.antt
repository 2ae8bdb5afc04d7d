-- How a table over classes is filled, row by row: a row for each class of widths, and in it a place for each of heights.
use Rattle.std.specs.Prelude.{◌≡◌, ℕ, ◌+◌, ◌≤◌, ◌<◌, Bool, true, false, IsTrue, List, [], length, map, slice_index, slice_index_or, Contains, Vec}
use Rattle.std.specs.declared.alloc.Global.{Global}
use Rattle.cut_wants.specs.declared.wants.Want.{Want}
use Rattle.cut_classes.specs.declared.pairs.Pair.{Pair}
use Rattle.cut_classes.specs.declared.ceiling.CeilingTable.{CeilingTable}
use Rattle.cut_classes.specs.declared.ceiling.CeilingTable.TheVariants.{Narrow, Wide}
use Rattle.cut_classes.specs.Classes.{ArePartsOf, Classes, FitsIn, IsCeiling, IsInClass, count, high_of}

-- any two lower classes with parts of the class are no higher than those of one of the pairs
pub record CoversParts (cs : Classes) (i : ℕ) (pairs : List Pair) : Type 0 where
  pub inside : (p : Pair) → Contains pairs p → (p.first < i) × (p.second < i)
  pub parts : (p : Pair) → Contains pairs p → ArePartsOf cs p.first p.second i
  pub covered : (a b : ℕ) → b ≤ a → a < i → ArePartsOf cs a b i → (p : Pair) × Contains pairs p × (a ≤ p.first) × (b ≤ p.second)

abbrev pub CoverParts : Classes → List (Vec Pair Global) → Type 0
CoverParts cs lists = (i : ℕ) (d : Vec Pair Global) → i < length lists → CoversParts cs i (slice_index_or lists i d).items

-- the rows of a table, as the worths of their numbers
abbrev pub rows_of : {T : Type 0} → (T → ℕ) → List (Vec T Global) → List (List ℕ)
rows_of {T = T} value rows = map (λ v. map value v.items) rows

-- the worth at the place i of the row j
abbrev pub worth_at : List (List ℕ) → ℕ → ℕ → ℕ
worth_at rows i j = slice_index (slice_index_or rows j []) i

abbrev pub worth_in : CeilingTable → ℕ → ℕ → ℕ
worth_in (Narrow rows) i j = worth_at (rows_of (λ v. v) rows.items) j i
worth_in (Wide rows) i j = worth_at (rows_of (λ v. v) rows.items) j i

-- Each want is worth less than the limit, and so is some ceiling everywhere. Here and below the classes of heights, along
-- which the places of a row stand, are named before those of widths.
pub record HasCeilingBelow (limit : ℕ) (wants : List Want) (kerf : ℕ) (down across : Classes) : Type 0 where
  pub worths : (x : Want) → Contains wants x → x.worth < limit
  pub worth : ℕ → ℕ → ℕ
  pub ceiling : IsCeiling wants kerf across down worth
  pub below : (i j : ℕ) → i < count down → j < count across → worth j i < limit

-- the row has this worth at the class of the length
abbrev pub HasAt : Classes → (l : ℕ) → ℕ → List ℕ → Type 0
HasAt cs l worth row = (i : ℕ) × IsInClass cs l i × (worth ≤ slice_index row i)

-- a want is worth no more at its class, where its width is in the class j and its height within the greatest
abbrev pub IsOffered : (down across : Classes) → (kerf : ℕ) → Want → Bool → List ℕ → ℕ → Type 0
IsOffered ys xs k x false row j = IsInClass xs (x.size.w + k) j → x.size.h + k ≤ ys.most → HasAt ys (x.size.h + k) x.worth row
IsOffered ys xs k x true row j = IsTrue x.may_turn → IsInClass xs (x.size.h + k) j → x.size.w + k ≤ ys.most → HasAt ys (x.size.w + k) x.worth row

-- no place is less than it was
abbrev pub IsRaised : (old new : List ℕ) → Type 0
IsRaised old new = (p : ℕ) → slice_index old p ≤ slice_index new p

-- a want was offered, as it stands or turned, to a row of class j across
pub record IsOfferedTo (down across : Classes) (kerf : ℕ) (x : Want) (turned : Bool) (j : ℕ) (old new : List ℕ) : Type 0 where
  pub kept : IsRaised old new
  pub offered : IsOffered down across kerf x turned new j
  pub found : (p : ℕ) → slice_index old p < slice_index new p
      → (p < count down) × FitsIn kerf x turned (high_of across j) (high_of down p) × (slice_index new p ≡ x.worth)

-- at no place is the row above any ceiling
abbrev pub IsBelowAll : List Want → (kerf : ℕ) → (down across : Classes) → List ℕ → ℕ → Type 0
IsBelowAll wants k ys xs row j = (other : ℕ → ℕ → ℕ) → IsCeiling wants k xs ys other → (i : ℕ) → i < count ys → slice_index row i ≤ other j i

-- a row of class j across has each want at its class, and is below all ceilings
pub record IsPieceRow (wants : List Want) (kerf : ℕ) (down across : Classes) (row : List ℕ) (j : ℕ) : Type 0 where
  pub len : length row ≡ count down
  pub offered : (x : Want) (turned : Bool) → Contains wants x → IsOffered down across kerf x turned row j
  pub below : IsBelowAll wants kerf down across row j

-- at each place no less than any two rows of parts
abbrev pub IsOverSums : (down across : Classes) → List (List ℕ) → List ℕ → ℕ → Type 0
IsOverSums ys xs rows row j =
    (i a b : ℕ) → i < count ys → a < j → b < j → ArePartsOf xs a b j → worth_at rows i a + worth_at rows i b ≤ slice_index row i

-- at the first n places no less than any two of parts in the row
abbrev pub IsOverParts : (down : Classes) → List ℕ → ℕ → Type 0
IsOverParts ys row n = (i a b : ℕ) → i < n → a < i → b < i → ArePartsOf ys a b i → slice_index row a + slice_index row b ≤ slice_index row i

-- a row of class j across is worth what the rows before it and itself make of it
pub record IsFilledRow (wants : List Want) (kerf : ℕ) (down across : Classes) (rows : List (List ℕ)) (row : List ℕ) (j : ℕ) : Type 0 where
  pub pieces : IsPieceRow wants kerf down across row j
  pub sums : IsOverSums down across rows row j
  pub parts : IsOverParts down row (count down)

-- each row so far is
abbrev pub AreFilledRows : List Want → (kerf : ℕ) → (down across : Classes) → List (List ℕ) → Type 0
AreFilledRows wants k ys xs rows = (j : ℕ) → j < length rows → IsFilledRow wants k ys xs rows (slice_index_or rows j []) j

-- the worths don't fall along the first places
abbrev pub DontFall : (ℕ → ℕ) → ℕ → Type 0
DontFall f n = (a b : ℕ) → a ≤ b → b < n → f a ≤ f b
