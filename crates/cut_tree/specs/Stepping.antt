-- The whole rectangle of each node of a tree.
use Rattle.std.specs.Prelude.{ℕ, zero, suc, ◌≡◌, ◌+◌, ◌-◌, ◌<◌, nat_lt, if◌then◌else◌, List, length, slice_get, Some}
use Rattle.cut_measure.specs.declared.sizes.Axis.TheVariants.{X, Y}
use Rattle.cut_tree.specs.declared.token.Token.{Token}
use Rattle.cut_tree.specs.declared.token.Token.TheVariants as token
use Rattle.cut_tree.specs.declared.steps.Step.{Step}
use Rattle.cut_tree.specs.Tree.{Tree, Piece, Rest, Trim, Cut, node_count}

-- what a tree is at its first node
abbrev pub first_token : Tree → Token
first_token (Piece demand turned) = token.Piece demand turned
first_token Rest = token.Rest
first_token (Trim axis place first) = token.Cut axis place
first_token (Cut axis place first second) = token.Cut axis place

-- Follows a node's number n down a tree on the rectangle at (x, y) of w by h: 0 is the tree's first node, whose rectangle
-- is this one; then come the nodes of the first part, and then those of the second. m is the number that the node has.
abbrev pub step_at : Tree → (x y w h kerf : ℕ) → (n m : ℕ) → Step
step_at t x y w h k zero m = record { node = m; x = x; y = y; w = w; h = h; what = first_token t }
step_at (Piece demand turned) x y w h k (suc n) m = record { node = m; x = x; y = y; w = w; h = h; what = token.Piece demand turned }
step_at Rest x y w h k (suc n) m = record { node = m; x = x; y = y; w = w; h = h; what = token.Rest }
step_at (Trim X a first) x y w h k (suc n) m = step_at first x y a h k n m
step_at (Trim Y a first) x y w h k (suc n) m = step_at first x y w a k n m
step_at (Cut X a first second) x y w h k (suc n) m =
    if nat_lt n (node_count first) then step_at first x y a h k n m
    else step_at second (x + a + k) y (w - a - k) h k (n - node_count first) m
step_at (Cut Y a first second) x y w h k (suc n) m =
    if nat_lt n (node_count first) then step_at first x y w a k n m
    else step_at second x (y + a + k) w (h - a - k) k (n - node_count first) m

-- one step for each node of the tree, in the order of the nodes' numbers
pub record AreSteps (tree : Tree) (w h kerf : ℕ) (steps : List Step) : Type 0 where
  pub count : length steps ≡ node_count tree
  pub each : (n : ℕ) → n < node_count tree → slice_get steps n ≡ Some (step_at tree 0 0 w h kerf n n)
