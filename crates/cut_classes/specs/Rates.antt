-- What pieces are worth for each unit of area.
use Rattle.std.specs.Prelude.{◌≡◌, ℕ, ◌+◌, ◌-◌, ◌*◌, ◌≤◌, ◌<◌, Bool, true, false, IsTrue}
use Rattle.cut_wants.specs.declared.wants.Want.{Want}
use Rattle.cut_classes.specs.Classes.{Classes, IsInClass, count, high_of, low_of}

-- no class but the first is longer
abbrev pub IsSlack : ℕ → Classes → Type 0
IsSlack slack cs = (i : ℕ) → 1 ≤ i → i < count cs → high_of cs i ≤ low_of cs i + slack

-- the least length of a class, less a slack: of two classes with parts of a third it adds up to no more than that of the third
abbrev pub width : (slack : ℕ) → Classes → ℕ → ℕ
width slack cs i = low_of cs i - slack

-- it is that of the class of a length
abbrev pub IsSpanAt : (slack : ℕ) → Classes → (l span : ℕ) → Type 0
IsSpanAt slack cs l span = (i : ℕ) × IsInClass cs l i × (span ≡ width slack cs i)

-- at this rate a piece with these sides is worth no more than the area of its classes, less the slacks
abbrev pub IsRatedAt : (slack slack' : ℕ) → (across down : Classes) → (worth w h rate : ℕ) → Type 0
IsRatedAt s s' xs ys worth w h rate =
    w ≤ xs.most → h ≤ ys.most → (i : ℕ) × (j : ℕ) × IsInClass xs w i × IsInClass ys h j × (worth ≤ rate * (width s xs i * width s' ys j))

-- so is the want, as it stands or turned
abbrev pub IsRatedWant : (slack slack' : ℕ) → (across down : Classes) → (kerf : ℕ) → Want → Bool → (rate : ℕ) → Type 0
IsRatedWant s s' xs ys k x false rate = IsRatedAt s s' xs ys x.worth (x.size.w + k) (x.size.h + k) rate
IsRatedWant s s' xs ys k x true rate = IsTrue x.may_turn → IsRatedAt s s' xs ys x.worth (x.size.h + k) (x.size.w + k) rate
