-- What holds of the pieces that a tree cuts holds of the leaves that it lists.
use Rattle.std.proofs.Common.{ℕ, Bool, ◌-◌, []}
use Rattle.std.specs.Prelude.{All}
use Rattle.std.proofs.lemmas.List.Elements.{All-append, All-cons, All-nil}
use Rattle.cut_measure.specs.declared.sizes.Axis.TheVariants.{X, Y}
use Rattle.cut_tree.specs.declared.leaves.Leaf.{Leaf}
use Rattle.cut_tree.specs.Tree.{Tree, Piece, Rest, Trim, Cut, CutsInto}
use Rattle.cut_tree.specs.Leaves.{leaves_of}

module _ (leaf : ℕ → Bool → ℕ → ℕ → Type 0) where
  -- the leaf is one of those
  abbrev pub OfLeaf : Leaf → Type 0
  OfLeaf l = leaf l.demand l.turned l.w l.h

  pub all_listed : (t : Tree) (w h k : ℕ) → CutsInto leaf t w h k → All OfLeaf (leaves_of t w h k)
  all_listed (Piece d turned) w h k is = All-cons OfLeaf (record { demand = d; turned = turned; w = w; h = h }) [] is (All-nil OfLeaf)
  all_listed Rest w h k is = All-nil OfLeaf
  all_listed (Trim X a first) w h k is = all_listed first a h k is.3
  all_listed (Trim Y a first) w h k is = all_listed first w a k is.3
  all_listed (Cut X a first second) w h k is =
      All-append OfLeaf (leaves_of first a h k) (leaves_of second (w - a - k) h k) (all_listed first a h k is.2) (all_listed second (w - a - k) h k is.3)
  all_listed (Cut Y a first second) w h k is =
      All-append OfLeaf (leaves_of first w a k) (leaves_of second w (h - a - k) k) (all_listed first w a k is.2) (all_listed second w (h - a - k) k is.3)
