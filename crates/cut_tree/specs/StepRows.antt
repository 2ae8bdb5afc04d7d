-- The steps of a tree, node by node.
use Rattle.std.specs.Prelude.{ℕ, ◌+◌, ◌-◌, List, [], ◌∷◌, ◌++◌}
use Rattle.cut_measure.specs.declared.sizes.Axis.TheVariants.{X, Y}
use Rattle.cut_tree.specs.declared.token.Token.{Token}
use Rattle.cut_tree.specs.declared.token.Token.TheVariants as token
use Rattle.cut_tree.specs.declared.steps.Step.{Step}
use Rattle.cut_tree.specs.Tree.{Tree, Piece, Rest, Trim, Cut, node_count}

abbrev pub one_step : ℕ → (x y w h : ℕ) → Token → List Step
one_step n x y w h what = record { node = n; x = x; y = y; w = w; h = h; what = what } ∷ []

-- the steps of a tree on the rectangle at (x, y) of w by h, its first node being number n
abbrev pub steps_of : Tree → (x y w h kerf n : ℕ) → List Step
steps_of (Piece demand turned) x y w h k n = one_step n x y w h (token.Piece demand turned)
steps_of Rest x y w h k n = one_step n x y w h token.Rest
steps_of (Trim X a first) x y w h k n = one_step n x y w h (token.Cut X a) ++ steps_of first x y a h k (n + 1)
steps_of (Trim Y a first) x y w h k n = one_step n x y w h (token.Cut Y a) ++ steps_of first x y w a k (n + 1)
steps_of (Cut X a first second) x y w h k n =
    one_step n x y w h (token.Cut X a) ++ steps_of first x y a h k (n + 1)
    ++ steps_of second (x + a + k) y (w - a - k) h k (n + 1 + node_count first)
steps_of (Cut Y a first second) x y w h k n =
    one_step n x y w h (token.Cut Y a) ++ steps_of first x y w a k (n + 1)
    ++ steps_of second x (y + a + k) w (h - a - k) k (n + 1 + node_count first)
