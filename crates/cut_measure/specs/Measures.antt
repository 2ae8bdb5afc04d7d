-- Sizes in tenths of a millimetre, the cells of a rectangle, and what a cut may leave as a remnant.
use Rattle.std.specs.Prelude.{ℕ, suc, zero, ◌&&◌, ◌==◌, ◌++◌, Bool, nat_le, List, [], ◌∷◌, map, if◌then◌else◌, min, max, Option, Some, None}
use Rattle.std.specs.List.{flat_map}
use Rattle.cut_measure.specs.declared.ranges.TheConstants.{MAX_HEIGHT, MAX_KERF, MAX_WIDTH}
use Rattle.cut_measure.specs.declared.sizes.Kind.{Kind}
use Rattle.cut_measure.specs.declared.sizes.Kind.TheVariants.{Bar, Sheet}

-- the sides of a rectangle
pub record Size : Type 0 where
  pub w : ℕ
  pub h : ℕ

-- which sides a unit of this kind may have
abbrev pub is_size : Kind → ℕ → ℕ → Bool
is_size Bar w h = nat_le 1 w && nat_le w MAX_WIDTH && h == 1
is_size Sheet w h = nat_le 1 w && nat_le w MAX_WIDTH && nat_le 1 h && nat_le h MAX_HEIGHT

-- the size of these sides, where they are those of a unit of the kind
abbrev pub size_of : Kind → ℕ → ℕ → Option Size
size_of kind w h = if is_size kind w h then Some (record { w = w; h = h }) else None

-- the numbers below n, in order
abbrev pub below : ℕ → List ℕ
below zero = []
below (suc n) = below n ++ n ∷ []

-- the places (x, y) of a rectangle's cells, row by row
unfoldable pub cells_of : Size → List (ℕ × ℕ)
cells_of size = flat_map (λ y. map (λ x. (x, y)) (below size.w)) (below size.h)

-- how the saw cuts a material, and which rests are kept
pub record CutParams : Type 0 where
  pub kerf : ℕ
  pub min_long : ℕ
  pub min_short : ℕ

abbrev pub are_params : Kind → ℕ → ℕ → ℕ → Bool
are_params Bar kerf min_long min_short = nat_le kerf MAX_KERF && min_short == 1 && nat_le 1 min_long && nat_le min_long MAX_WIDTH
are_params Sheet kerf min_long min_short = nat_le kerf MAX_KERF && nat_le 1 min_short && nat_le min_short min_long && nat_le min_long MAX_WIDTH

abbrev pub params_of : Kind → ℕ → ℕ → ℕ → Option CutParams
params_of kind kerf min_long min_short =
    if are_params kind kerf min_long min_short then Some (record { kerf = kerf; min_long = min_long; min_short = min_short }) else None

-- a rest of this size is a remnant, and else scrap
abbrev pub is_kept : CutParams → Size → Bool
is_kept params size = nat_le params.min_long (max size.w size.h) && nat_le params.min_short (min size.w size.h)
