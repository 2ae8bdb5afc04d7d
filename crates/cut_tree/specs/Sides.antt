-- The sides of a rectangle that is cut.
use Rattle.std.specs.Prelude.{ℕ}
use Rattle.cut_measure.specs.declared.sizes.Axis.{Axis}
use Rattle.cut_measure.specs.declared.sizes.Axis.TheVariants.{X, Y}
use Rattle.cut_tree.specs.declared.token.Sides.{Sides}

-- the side that a cut along an axis divides
abbrev pub side_along : Sides → Axis → ℕ
side_along s X = s.w
side_along s Y = s.h

-- the sides of a part of that length
abbrev pub part_sides : Sides → Axis → ℕ → Sides
part_sides s X n = record s { w = n }
part_sides s Y n = record s { h = n }
