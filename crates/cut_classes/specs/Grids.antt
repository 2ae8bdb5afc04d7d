-- Points of both axes of a sheet, and which wants a table over their classes counts.
use Rattle.std.specs.Prelude.{◌≡◌, ℕ, ◌+◌, ◌-◌, ◌^◌, ◌≤◌, ◌<◌, ◌&&◌, ◌||◌, not, nat_le, nat_lt, Bool, IsTrue, List, [], ◌∷◌, Contains, if◌then◌else◌}
use Rattle.cut_measure.specs.declared.ranges.TheConstants.{MAX_HEIGHT, MAX_KERF, MAX_WIDTH, MAX_WORTH}
use Rattle.cut_wants.specs.declared.wants.Want.{Want}
use Rattle.cut_classes.specs.declared.grid.Grid.{Grid}
use Rattle.cut_classes.specs.Classes.{Classes, count, high_of, low_of}

-- the classes that begin at these points
abbrev pub classes : List ℕ → ℕ → Classes
classes points most = record { points = points; most = most }

-- The points rise from 0, the last is no more than the greatest length, and none is further from the one before it, nor
-- the greatest length from the last, than the second from 0. So no length of a class has a part of the class beside one
-- of any but the first.
pub record AreUsable (cs : Classes) : Type 0 where
  pub some : 2 ≤ count cs
  pub none : low_of cs 0 ≡ 0
  pub rising : (i : ℕ) → i + 1 < count cs → low_of cs i < low_of cs (i + 1)
  pub reached : low_of cs (count cs - 1) ≤ cs.most
  pub near : (i : ℕ) → i < count cs → high_of cs i < low_of cs i + low_of cs 1

-- the classes of widths, and of heights
abbrev pub across_of : Grid → Classes
across_of grid = classes grid.across.items grid.most_across

abbrev pub down_of : Grid → Classes
down_of grid = classes grid.down.items grid.most_down

-- both axes have classes that a table can be filled over, none of them longer than a unit and a kerf
pub record IsUsableGrid (grid : Grid) : Type 0 where
  pub across : AreUsable (across_of grid)
  pub down : AreUsable (down_of grid)
  pub wide : grid.most_across ≤ MAX_WIDTH + MAX_KERF
  pub high : grid.most_down ≤ MAX_HEIGHT + MAX_KERF
  pub few : count (across_of grid) ≤ 2 ^ 16
  pub few_down : count (down_of grid) ≤ 2 ^ 16

-- a piece of this width and height, a kerf added to each, is longer than the greatest lengths, or has no side in a first class
abbrev pub is_above : (across down : Classes) → (w h : ℕ) → Bool
is_above xs ys w h = nat_lt xs.most w || nat_lt ys.most h || (nat_le (low_of xs 1) w && nat_le (low_of ys 1) h)

-- A table counts a want unless it has room where a side of it is in a first class, as it stands or turned.
abbrev pub is_counted : (kerf : ℕ) → (across down : Classes) → Want → Bool
is_counted k xs ys x =
    nat_le x.worth MAX_WORTH && is_above xs ys (x.size.w + k) (x.size.h + k) && (not x.may_turn || is_above xs ys (x.size.h + k) (x.size.w + k))

abbrev pub counted : (kerf : ℕ) → (across down : Classes) → List Want → List Want
counted k xs ys [] = []
counted k xs ys (x ∷ wants) = if is_counted k xs ys x then x ∷ counted k xs ys wants else counted k xs ys wants

-- a table counts each of the wants
abbrev pub AreCounted : List Want → (kerf : ℕ) → (across down : Classes) → Type 0
AreCounted wants k xs ys = (x : Want) → Contains wants x → IsTrue (is_counted k xs ys x)
