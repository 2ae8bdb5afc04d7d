-- Examples: a sheet of 10 by 8 under a kerf of 1, cut by x4 y3 p1 p2 r.
use Rattle.std.proofs.Common.{◌≡◌, true, false, [], ◌∷◌, refl, arith}
use Rattle.cut_measure.specs.declared.sizes.Axis.TheVariants.{X, Y}
use Rattle.cut_tree.specs.declared.lay.Owner.TheVariants as owner
use Rattle.cut_tree.specs.Tree.{Tree, Piece, Rest, Trim, Cut, IsShaped}
use Rattle.cut_tree.specs.Cells.{location_of, all_made}
use Rattle.cut_tree.specs.Stops.{outcome_after}
use Rattle.cut_tree.specs.declared.halts.Halt.TheVariants.{First}
use Rattle.cut_tree.specs.Counting.{Test, cells_of_unit}
use Rattle.cut_tree.specs.Stepping.{step_at}
use Rattle.cut_tree.specs.Bars.{bar_tree, bar_length}
use Rattle.cut_tree.specs.declared.token.Token.TheVariants as token

sheet : Tree
sheet = Cut X 4 (Cut Y 3 (Piece 1 false) (Piece 2 false)) Rest

shaped : IsShaped sheet 10 8 1
unfolding sheet
shaped = (omega arith, omega arith, (omega arith, omega arith, tt, tt), tt)

is_piece : Test
is_piece n (owner.Piece d) w h = true
is_piece n owner.Rest w h = false
is_piece n owner.Kerf w h = false
is_piece n owner.Uncut w h = false
is_piece n owner.Lost w h = false

is_kerf : Test
is_kerf n (owner.Piece d) w h = false
is_kerf n owner.Rest w h = false
is_kerf n owner.Kerf w h = true
is_kerf n owner.Uncut w h = false
is_kerf n owner.Lost w h = false

-- pieces 28, kerf 12
pieces_all : cells_of_unit is_piece sheet 10 8 1 all_made ≡ 28
unfolding sheet is_piece location_of
pieces_all = refl

kerf_all : cells_of_unit is_kerf sheet 10 8 1 all_made ≡ 12
unfolding sheet is_kerf location_of
kerf_all = refl

-- after one cut: kerf 8, no pieces
kerf_one : cells_of_unit is_kerf sheet 10 8 1 (outcome_after (First 1 false)) ≡ 8
unfolding sheet is_kerf location_of
kerf_one = refl

pieces_one : cells_of_unit is_piece sheet 10 8 1 (outcome_after (First 1 true)) ≡ 0
unfolding sheet is_piece location_of
pieces_one = refl

-- the part below the first cut is lost where the second one went wrong
lost_cell : location_of sheet 10 8 1 (outcome_after (First 1 true)) 0 0 3 7 ≡ record { node = 1; owner = owner.Lost; w = 4; h = 8; x = 3; y = 7 }
unfolding sheet location_of
lost_cell = refl

rest_cell : location_of sheet 10 8 1 (outcome_after (First 1 true)) 0 0 9 2 ≡ record { node = 4; owner = owner.Rest; w = 5; h = 8; x = 4; y = 2 }
unfolding sheet location_of
rest_cell = refl

-- a bar of 98 under a kerf of 3, cut by x30 p1 x30 p1 x30 p1: the last cut leaves the saw 2
bar : Tree
bar = Cut X 30 (Piece 1 false) (Cut X 30 (Piece 1 false) (Trim X 30 (Piece 1 false)))

bar_shaped : IsShaped bar 98 1 3
unfolding bar
bar_shaped = (omega arith, omega arith, tt, (omega arith, omega arith, tt, (omega arith, omega arith, omega arith, tt)))

bar_kerf : cells_of_unit is_kerf bar 98 1 3 all_made ≡ 8
unfolding bar is_kerf location_of
bar_kerf = refl

-- where the sheet's nodes lie: the second piece, and the rest
second_piece : step_at sheet 0 0 10 8 1 3 3 ≡ record { node = 3; x = 0; y = 4; w = 4; h = 4; what = token.Piece 2 false }
unfolding sheet
second_piece = refl

rest_after : step_at sheet 0 0 10 8 1 4 4 ≡ record { node = 4; x = 5; y = 0; w = 5; h = 8; what = token.Rest }
unfolding sheet
rest_after = refl

-- bars of 100 under a kerf of 3: 60 and 37 fill one, 60 and 38 are too long, and of nothing all is left
full_bar : bar_tree ((1, 60) ∷ (2, 37) ∷ []) 100 3 ≡ Cut X 60 (Piece 1 false) (Piece 2 false)
full_bar = refl

full_length : bar_length ((1, 60) ∷ (2, 37) ∷ []) 3 ≡ 100
full_length = refl

long_length : bar_length ((1, 60) ∷ (2, 38) ∷ []) 3 ≡ 101
long_length = refl

empty_bar : bar_tree [] 100 3 ≡ Rest
empty_bar = refl
