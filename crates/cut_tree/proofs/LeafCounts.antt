-- The piece leaves of a tree, counted in its list of leaves.
use Rattle.std.proofs.Common.{◌≡◌, ℕ, ◌+◌, ◌-◌, ◌++◌, List, refl, arith}
use Rattle.std.specs.Prelude.{◌==◌, count_by, if◌then◌else◌}
use Rattle.std.proofs.lemmas.List.Sums.{sum_by-append}
use Rattle.cut_measure.specs.declared.sizes.Axis.TheVariants.{X, Y}
use Rattle.cut_tree.specs.declared.leaves.Leaf.{Leaf}
use Rattle.cut_tree.specs.Tree.{Tree, Piece, Rest, Trim, Cut, count_of}
use Rattle.cut_tree.specs.Leaves.{leaves_of}

two_lists : (d : ℕ) (xs ys : List Leaf) → count_by (λ l. l.demand == d) (xs ++ ys) ≡ count_by (λ l. l.demand == d) xs + count_by (λ l. l.demand == d) ys
two_lists d xs ys = sum_by-append (λ l. if l.demand == d then 1 else 0) xs ys

pub counted : (t : Tree) (w h k d : ℕ) → count_of t d ≡ count_by (λ l. l.demand == d) (leaves_of t w h k)
counted (Piece e turned) w h k d = omega arith
counted Rest w h k d = refl
counted (Trim X a first) w h k d = counted first a h k d
counted (Trim Y a first) w h k d = counted first w a k d
counted (Cut X a first second) w h k d =
    let both = two_lists d (leaves_of first a h k) (leaves_of second (w - a - k) h k) in
    omega (arith, both, counted first a h k d, counted second (w - a - k) h k d)
counted (Cut Y a first second) w h k d =
    let both = two_lists d (leaves_of first w a k) (leaves_of second w (h - a - k) k) in
    omega (arith, both, counted first w a k d, counted second w (h - a - k) k d)
