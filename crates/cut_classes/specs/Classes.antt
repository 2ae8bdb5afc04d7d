-- Lengths in classes, and tables over pairs of classes that no cutting of a sheet is worth more than. A length here is a
-- side with a kerf added: a cut at a place of a side leaves two parts whose lengths add up to that of the side.
use Rattle.std.specs.Prelude.{◌≡◌, ℕ, ◌+◌, ◌-◌, ◌≤◌, ◌<◌, Bool, true, false, IsTrue, List, length, nat_lt, if◌then◌else◌, slice_index, Contains}
use Rattle.cut_wants.specs.declared.wants.Want.{Want}

-- The points at which classes of lengths begin, the first of which is 0, and the greatest length of the last class.
pub record Classes : Type 0 where
  pub points : List ℕ
  pub most : ℕ

-- how many classes there are
abbrev pub count : Classes → ℕ
count cs = length cs.points

-- the least length of a class
abbrev pub low_of : Classes → ℕ → ℕ
low_of cs i = slice_index cs.points i

-- the greatest length of a class: one less than the least of the next
abbrev pub high_of : Classes → ℕ → ℕ
high_of cs i = if nat_lt (i + 1) (count cs) then low_of cs (i + 1) - 1 else cs.most

-- there is a class, and the first begins at 0
pub record BeginAtNone (cs : Classes) : Type 0 where
  pub some : 1 ≤ count cs
  pub none : low_of cs 0 ≡ 0

-- the length is in the class: no less than its least, and no more than its greatest
pub record IsInClass (cs : Classes) (l i : ℕ) : Type 0 where
  pub there : i < count cs
  pub low : low_of cs i ≤ l
  pub high : l ≤ high_of cs i
  pub within : l ≤ cs.most

-- the want and a kerf on each side have room in these lengths, turned where it may be
abbrev pub FitsIn : (kerf : ℕ) → Want → Bool → (across down : ℕ) → Type 0
FitsIn k x false w h = (x.size.w + k ≤ w) × (x.size.h + k ≤ h)
FitsIn k x true w h = IsTrue x.may_turn × (x.size.h + k ≤ w) × (x.size.w + k ≤ h)

-- two lengths of these classes are parts of one of the class i
abbrev pub ArePartsOf : Classes → (a b i : ℕ) → Type 0
ArePartsOf cs a b i = low_of cs a + low_of cs b ≤ high_of cs i

-- A worth for each pair of classes: no less than that of each want with room there, and no less than the sum of any two
-- whose lengths are parts of one there, across or down.
pub record IsCeiling (wants : List Want) (kerf : ℕ) (across down : Classes) (worth : ℕ → ℕ → ℕ) : Type 0 where
  pub pieces : (i j : ℕ) (x : Want) (turned : Bool) → i < count across → j < count down → Contains wants x
      → FitsIn kerf x turned (high_of across i) (high_of down j) → x.worth ≤ worth i j
  pub across_cuts : (i j a b : ℕ) → i < count across → j < count down → a < count across → b < count across
      → ArePartsOf across a b i → worth a j + worth b j ≤ worth i j
  pub down_cuts : (i j a b : ℕ) → i < count across → j < count down → a < count down → b < count down
      → ArePartsOf down a b j → worth i a + worth i b ≤ worth i j

-- a ceiling that no other is below at any place
pub record IsLeastCeiling (wants : List Want) (kerf : ℕ) (across down : Classes) (worth : ℕ → ℕ → ℕ) : Type 0 where
  pub ceiling : IsCeiling wants kerf across down worth
  pub least : (other : ℕ → ℕ → ℕ) → IsCeiling wants kerf across down other → (i j : ℕ) → i < count across → j < count down → worth i j ≤ other i j

-- the worth at the classes of a sheet's sides, a kerf added to each
pub record IsCeilingOf (kerf : ℕ) (across down : Classes) (worth : ℕ → ℕ → ℕ) (w h best : ℕ) : Type 0 where
  pub i : ℕ
  pub j : ℕ
  pub in_across : IsInClass across (w + kerf) i
  pub in_down : IsInClass down (h + kerf) j
  pub read : best ≡ worth i j
