-- The rows of a tree that are pieces of a demand.
use Rattle.std.proofs.Common.{◌≡◌, ℕ, zero, suc, ◌+◌, ◌-◌, ◌≤◌, ◌++◌, List, Bool, true, false, refl, ◌∙◌, arith}
use Rattle.std.specs.Prelude.{count_by, if◌then◌else◌}
use Rattle.std.proofs.lemmas.List.Sums.{sum_by-append}
use Rattle.cut_measure.specs.declared.sizes.Axis.{Axis}
use Rattle.cut_measure.specs.declared.sizes.Axis.TheVariants.{X, Y}
use Rattle.cut_tree.specs.declared.lay.Owner.TheVariants as owner
use Rattle.cut_tree.specs.declared.lay.Row.{Row}
use Rattle.cut_tree.specs.Tree.{Tree, Piece, Rest, Trim, Cut, node_count, cut_count, count_of}
use Rattle.cut_tree.specs.Cells.{Outcome, Made, LeftWhole, Spoiled, Split, all_made, is_split}
use Rattle.cut_tree.specs.Nodes.{rows_of, one_row, strip_row, split_rows, rows_by_outcome}
use Rattle.cut_tree.specs.Counting.{is_demand_piece}

abbrev pub pieces : ℕ → List Row → ℕ
pieces d rows = count_by (λ r. is_demand_piece d r.owner) rows

two_lists : (d : ℕ) (xs ys : List Row) → pieces d (xs ++ ys) ≡ pieces d xs + pieces d ys
two_lists d xs ys = sum_by-append (λ r. if is_demand_piece d r.owner then 1 else 0) xs ys

no_strip : (d k n x y w h : ℕ) → pieces d (strip_row k n x y w h) ≡ 0
no_strip d zero n x y w h = refl
no_strip d (suc k) n x y w h = refl

-- after a strip
after_strip : (d k n x y w h : ℕ) (rows : List Row) → pieces d (strip_row k n x y w h ++ rows) ≡ pieces d rows
after_strip d k n x y w h rows = omega (arith, two_lists d (strip_row k n x y w h) rows, no_strip d k n x y w h)

two_after : (d k n x y w h : ℕ) (first second : List Row) → pieces d (strip_row k n x y w h ++ first ++ second) ≡ pieces d first + pieces d second
two_after d k n x y w h first second =
    omega (arith, two_lists d (strip_row k n x y w h ++ first) second, after_strip d k n x y w h first)

-- one for each piece leaf where all cuts are made
pub all_pieces : (t : Tree) (x y w h k n c d : ℕ) → pieces d (rows_of t x y w h k all_made n c) ≡ count_of t d
all_pieces (Piece e turned) x y w h k n c d = omega arith
all_pieces Rest x y w h k n c d = refl
all_pieces (Trim X a f) x y w h k n c d =
    after_strip d k n (x + a) y (w - a) h (rows_of f x y a h k all_made (n + 1) (c + 1)) ∙ all_pieces f x y a h k (n + 1) (c + 1) d
all_pieces (Trim Y a f) x y w h k n c d =
    after_strip d k n x (y + a) w (h - a) (rows_of f x y w a k all_made (n + 1) (c + 1)) ∙ all_pieces f x y w a k (n + 1) (c + 1) d
all_pieces (Cut X a f s) x y w h k n c d =
    let split = two_after d k n (x + a) y k h (rows_of f x y a h k all_made (n + 1) (c + 1)) (rows_of s (x + a + k) y (w - a - k) h k all_made (n + 1 + node_count f) (c + 1 + cut_count f)) in
    omega (
      arith,
      split,
      all_pieces f x y a h k (n + 1) (c + 1) d,
      all_pieces s (x + a + k) y (w - a - k) h k (n + 1 + node_count f) (c + 1 + cut_count f) d,
    )
all_pieces (Cut Y a f s) x y w h k n c d =
    let split = two_after d k n x (y + a) w k (rows_of f x y w a k all_made (n + 1) (c + 1)) (rows_of s x (y + a + k) w (h - a - k) k all_made (n + 1 + node_count f) (c + 1 + cut_count f)) in
    omega (
      arith,
      split,
      all_pieces f x y w a k (n + 1) (c + 1) d,
      all_pieces s x (y + a + k) w (h - a - k) k (n + 1 + node_count f) (c + 1 + cut_count f) d,
    )

no_split : (axis : Axis) (n x y w h rest d : ℕ) → pieces d (split_rows axis n x y w h rest) ≡ 0
no_split X n x y w h rest d = by (is_split rest w)
  where
    by : (b : Bool) → pieces d (if b then one_row n x y (w - rest) h owner.Lost ++ one_row (n + 1) (x + (w - rest)) y rest h owner.Rest else one_row n x y w h owner.Lost) ≡ 0
    by true = refl
    by false = refl
no_split Y n x y w h rest d = by (is_split rest h)
  where
    by : (b : Bool) → pieces d (if b then one_row n x y w (h - rest) owner.Lost ++ one_row (n + 1) x (y + (h - rest)) w rest owner.Rest else one_row n x y w h owner.Lost) ≡ 0
    by true = refl
    by false = refl

by_cases : (axis : Axis) (v : Outcome) (made : List Row) (n x y w h d m : ℕ) → pieces d made ≤ m → pieces d (rows_by_outcome axis v made n x y w h) ≤ m
by_cases axis Made made n x y w h d m few = few
by_cases axis LeftWhole made n x y w h d m few = omega arith
by_cases axis Spoiled made n x y w h d m few = omega arith
by_cases axis (Split rest) made n x y w h d m few = let none = no_split axis n x y w h rest d in omega (arith, none)

-- no more than the piece leaves, whatever became of the cuts
pub few_pieces : (t : Tree) (x y w h k : ℕ) (outcome : ℕ → Outcome) (n c d : ℕ) → pieces d (rows_of t x y w h k outcome n c) ≤ count_of t d
few_pieces (Piece e turned) x y w h k outcome n c d = omega arith
few_pieces Rest x y w h k outcome n c d = omega arith
few_pieces (Trim X a f) x y w h k outcome n c d =
    by_cases X (outcome c) _ n x y w h d (count_of f d)
    (let split = after_strip d k n (x + a) y (w - a) h (rows_of f x y a h k outcome (n + 1) (c + 1)) in omega (arith, split, few_pieces f x y a h k outcome (n + 1) (c + 1) d))
few_pieces (Trim Y a f) x y w h k outcome n c d =
    by_cases Y (outcome c) _ n x y w h d (count_of f d)
    (let split = after_strip d k n x (y + a) w (h - a) (rows_of f x y w a k outcome (n + 1) (c + 1)) in omega (arith, split, few_pieces f x y w a k outcome (n + 1) (c + 1) d))
few_pieces (Cut X a f s) x y w h k outcome n c d =
    by_cases X (outcome c) _ n x y w h d (count_of f d + count_of s d)
    (let split = two_after d k n (x + a) y k h (rows_of f x y a h k outcome (n + 1) (c + 1)) (rows_of s (x + a + k) y (w - a - k) h k outcome (n + 1 + node_count f) (c + 1 + cut_count f)) in
    omega (
      arith,
      split,
      few_pieces f x y a h k outcome (n + 1) (c + 1) d,
      few_pieces s (x + a + k) y (w - a - k) h k outcome (n + 1 + node_count f) (c + 1 + cut_count f) d,
    ))
few_pieces (Cut Y a f s) x y w h k outcome n c d =
    by_cases Y (outcome c) _ n x y w h d (count_of f d + count_of s d)
    (let split = two_after d k n x (y + a) w k (rows_of f x y w a k outcome (n + 1) (c + 1)) (rows_of s x (y + a + k) w (h - a - k) k outcome (n + 1 + node_count f) (c + 1 + cut_count f)) in
    omega (
      arith,
      split,
      few_pieces f x y w a k outcome (n + 1) (c + 1) d,
      few_pieces s x (y + a + k) w (h - a - k) k outcome (n + 1 + node_count f) (c + 1 + cut_count f) d,
    ))
