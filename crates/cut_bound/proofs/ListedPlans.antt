-- A tree that follows the rule of cuts is legal where the leaves that it lists are wanted.
use Rattle.std.proofs.Common.{◌≡◌, ℕ, Bool, ◌-◌, ◌↔◌, List, [], ◌∷◌, ◌++◌, length, refl, ap, sym, subst, ◌∙◌, arith}
use Rattle.std.specs.Prelude.{All}
use Rattle.std.proofs.lemmas.List.{length-append}
use Rattle.std.proofs.lemmas.List.Elements.{All-cons, All-head, All-nil, All-tail}
use Rattle.cut_measure.specs.declared.sizes.Axis.TheVariants.{X, Y}
use Rattle.cut_tree.specs.declared.leaves.Leaf.{Leaf}
use Rattle.cut_tree.specs.Tree.{Tree, Piece, Rest, Trim, Cut, CutsInto, IsShaped}
use Rattle.cut_tree.specs.Leaves.{leaves_of}
use Rattle.cut_measure.specs.Measures.{Size}
use Rattle.cut_tree.specs.Patterns.{Pattern, IsPlan}
use Rattle.cut_tree.proofs.ListedLeaves.{all_listed}
use Rattle.cut_wants.specs.declared.wants.Want.{Want}
use Rattle.cut_wants.specs.Legal.{IsWantedPiece, leaf_count}
use Rattle.cut_bound.specs.Planned.{ArePieces, IsPlanFor}

pub All-left : {A : Type 0} (P : A → Type 0) (xs ys : List A) → All P (xs ++ ys) → All P xs
All-left P [] ys all = All-nil P
All-left P (x ∷ xs) ys all = All-cons P x xs (All-head P x (xs ++ ys) all) (All-left P xs ys (All-tail P x (xs ++ ys) all))

pub All-right : {A : Type 0} (P : A → Type 0) (xs ys : List A) → All P (xs ++ ys) → All P ys
All-right P [] ys all = all
All-right P (x ∷ xs) ys all = All-right P xs ys (All-tail P x (xs ++ ys) all)

module _ (leaf : ℕ → Bool → ℕ → ℕ → Type 0) where
  -- the leaf is one of those
  abbrev pub OfLeaf : Leaf → Type 0
  OfLeaf l = leaf l.demand l.turned l.w l.h

  pub all_cut : (t : Tree) (w h k : ℕ) → IsShaped t w h k → All OfLeaf (leaves_of t w h k) → CutsInto leaf t w h k
  all_cut (Piece d turned) w h k is all = All-head OfLeaf (record { demand = d; turned = turned; w = w; h = h }) [] all
  all_cut Rest w h k is all = tt
  all_cut (Trim X a first) w h k is all = (is.0, is.1, is.2, all_cut first a h k is.3 all)
  all_cut (Trim Y a first) w h k is all = (is.0, is.1, is.2, all_cut first w a k is.3 all)
  all_cut (Cut X a first second) w h k is all =
      let xs = leaves_of first a h k in
      let ys = leaves_of second (w - a - k) h k in
      (is.0, is.1, all_cut first a h k is.2 (All-left OfLeaf xs ys all), all_cut second (w - a - k) h k is.3 (All-right OfLeaf xs ys all))
  all_cut (Cut Y a first second) w h k is all =
      let xs = leaves_of first w a k in
      let ys = leaves_of second w (h - a - k) k in
      (is.0, is.1, all_cut first w a k is.2 (All-left OfLeaf xs ys all), all_cut second w (h - a - k) k is.3 (All-right OfLeaf xs ys all))

pub leaves_counted : (t : Tree) (w h k : ℕ) → leaf_count t ≡ length (leaves_of t w h k)
leaves_counted (Piece d turned) w h k = refl
leaves_counted Rest w h k = refl
leaves_counted (Trim X a first) w h k = leaves_counted first a h k
leaves_counted (Trim Y a first) w h k = leaves_counted first w a k
leaves_counted (Cut X a first second) w h k =
    omega (arith, length-append (leaves_of first a h k) (leaves_of second (w - a - k) h k), leaves_counted first a h k, leaves_counted second (w - a - k) h k)
leaves_counted (Cut Y a first second) w h k =
    omega (arith, length-append (leaves_of first w a k) (leaves_of second w (h - a - k) k), leaves_counted first w a k, leaves_counted second w (h - a - k) k)

-- a plan for a size is one that is made for it, and lists wanted leaves
pub plan_by_leaves : (wants : List Want) (k : ℕ) (size : Size) (plan : Pattern) (leaves : List Leaf) → IsPlan plan → (plan.w ≡ size.w) × (plan.h ≡ size.h) × (plan.kerf ≡ k)
    → leaves ≡ leaves_of plan.tree plan.w plan.h plan.kerf → ArePieces wants leaves ↔ IsPlanFor wants k size plan
plan_by_leaves wants k size plan leaves kept made listed =
    let here : leaves ≡ leaves_of plan.tree size.w size.h k =
    listed ∙ ap (λ w. leaves_of plan.tree w plan.h plan.kerf) made.0 ∙ ap (λ h. leaves_of plan.tree size.w h plan.kerf) made.1 ∙ ap (leaves_of plan.tree size.w size.h) made.2 in
    let shaped : IsShaped plan.tree size.w size.h k =
    subst (IsShaped plan.tree size.w size.h) made.2 (subst (λ h. IsShaped plan.tree size.w h plan.kerf) made.1 (subst (λ w. IsShaped plan.tree w plan.h plan.kerf) made.0 kept.shaped)) in
    let P = λ (l : Leaf). IsWantedPiece wants l.demand l.turned l.w l.h in (
      λ are. record {
        wide = made.0;
        high = made.1;
        sawn = made.2;
        legal = all_cut (IsWantedPiece wants) plan.tree size.w size.h k shaped (subst (All P) here are.wanted);
        some_piece = omega (arith, are.some, ap length here, leaves_counted plan.tree size.w size.h k);
        few_cuts = kept.few_cuts;
      },
      λ is. record {
        some = omega (arith, is.some_piece, ap length here, leaves_counted plan.tree size.w size.h k);
        wanted = subst (All P) (sym here) (all_listed (IsWantedPiece wants) plan.tree size.w size.h k is.legal);
      },
    )
