-- The tree of one piece on a unit that it fits is a plan.
use Rattle.std.proofs.Common.{◌≡◌, ℕ, ◌+◌, ◌≤◌, Bool, true, false, List, Some, refl, ap, sym, subst, ◌∙◌, inl, inr, arith}
use Rattle.std.specs.Prelude.{◌&&◌, ◌||◌, Contains, IsTrue, nat_le, if◌then◌else◌}
use Rattle.std.proofs.lemmas.Bool.{and_parts, leb-true}
use Rattle.std.proofs.lemmas.Bool.Decides.{eqb_tells, leb_tells}
use Rattle.cut_measure.specs.declared.ranges.TheConstants.{MAX_HEIGHT, MAX_KERF, MAX_WIDTH}
use Rattle.cut_measure.specs.declared.sizes.Axis.TheVariants.{X, Y}
use Rattle.cut_measure.specs.Measures.{Size}
use Rattle.cut_tree.specs.Tree.{Tree, Piece, Rest, Trim, Cut, CutsInto, IsShaped, cut_count, leaf_sum}
use Rattle.cut_tree.specs.Patterns.{HasDemands, IsPlan}
use Rattle.cut_wants.specs.declared.wants.Want.{Want}
use Rattle.cut_wants.specs.Legal.{IsWantedPiece, Legal}
use Rattle.cut_plan.specs.Faults.{is_fitting}
use Rattle.cut_bound.specs.Stages.{stage_count, stages_below}
use Rattle.cut_plan.specs.Proposals.{HasDemandNumber}
use Rattle.cut_order.specs.Singles.{cornered, cut_off, is_upright, single}

module _ (leaf : ℕ → Bool → ℕ → ℕ → Type 0) where
  off_x : (a w h k : ℕ) (t : Tree) → 1 ≤ a → a ≤ w → CutsInto leaf t a h k → CutsInto leaf (cut_off X a w k t) w h k
  off_x a w h k t some inside is =
      elim (eqb_tells a w) [
        | inl (test, same) ↦ rw test (subst (λ n. CutsInto leaf t n h k) same is)
        | inr (test, other) ↦ elim (leb_tells w (a + k)) [
          | inl (near, le) ↦ rw (test, near) (some, omega (arith, inside, other), le, is)
          | inr (far, lt) ↦ rw (test, far) (some, lt, is, tt)
        ]
      ]

  off_y : (a w h k : ℕ) (t : Tree) → 1 ≤ a → a ≤ h → CutsInto leaf t w a k → CutsInto leaf (cut_off Y a h k t) w h k
  off_y a w h k t some inside is =
      elim (eqb_tells a h) [
        | inl (test, same) ↦ rw test (subst (λ n. CutsInto leaf t w n k) same is)
        | inr (test, other) ↦ elim (leb_tells h (a + k)) [
          | inl (near, le) ↦ rw (test, near) (some, omega (arith, inside, other), le, is)
          | inr (far, lt) ↦ rw (test, far) (some, lt, is, tt)
        ]
      ]

  pub cornered_cuts : (d : ℕ) (turned : Bool) (w h k : ℕ) (size : Size) → 1 ≤ w → 1 ≤ h → w ≤ size.w → h ≤ size.h → leaf d turned w h → CutsInto leaf (cornered d turned w h k size) size.w size.h k
  cornered_cuts d turned w h k size wide tall in_w in_h is =
      off_x w size.w size.h k (cut_off Y h size.h k (Piece d turned)) wide in_w (off_y h w size.h k (Piece d turned) tall in_h is)

-- what holds of a tree that is cut off where it holds of the tree, with one cut more and a rest
module _ (P : Tree → Type 0) where
  off_x_keeps : (a w k : ℕ) (t : Tree) → P t → P (Trim X a t) → P (Cut X a t Rest) → P (cut_off X a w k t)
  off_x_keeps a w k t is trim cut =
      elim (eqb_tells a w) [
        | inl (test, same) ↦ rw test is
        | inr (test, other) ↦ elim (leb_tells w (a + k)) [
          | inl (near, le) ↦ rw (test, near) trim
          | inr (far, lt) ↦ rw (test, far) cut
        ]
      ]

  off_y_keeps : (a h k : ℕ) (t : Tree) → P t → P (Trim Y a t) → P (Cut Y a t Rest) → P (cut_off Y a h k t)
  off_y_keeps a h k t is trim cut =
      elim (eqb_tells a h) [
        | inl (test, same) ↦ rw test is
        | inr (test, other) ↦ elim (leb_tells h (a + k)) [
          | inl (near, le) ↦ rw (test, near) trim
          | inr (far, lt) ↦ rw (test, far) cut
        ]
      ]

cornered_sum : (f : ℕ → ℕ) (d : ℕ) (turned : Bool) (w h k : ℕ) (size : Size) → leaf_sum f (cornered d turned w h k size) ≡ f d
cornered_sum f d turned w h k size =
    let column = cut_off Y h size.h k (Piece d turned) in
    let below : leaf_sum f column ≡ f d = off_y_keeps (λ t. leaf_sum f t ≡ f d) h size.h k (Piece d turned) refl refl (omega arith) in
    off_x_keeps (λ t. leaf_sum f t ≡ f d) w size.w k column below below (omega (arith, below))

cornered_cut_count : (d : ℕ) (turned : Bool) (w h k : ℕ) (size : Size) → cut_count (cornered d turned w h k size) ≤ 2
cornered_cut_count d turned w h k size =
    let column = cut_off Y h size.h k (Piece d turned) in
    let below : cut_count column ≤ 1 = off_y_keeps (λ t. cut_count t ≤ 1) h size.h k (Piece d turned) (omega arith) (omega arith) (omega arith) in
    off_x_keeps (λ t. cut_count t ≤ 2) w size.w k column (omega (arith, below)) (omega (arith, below)) (omega (arith, below))

cornered_stages : (d : ℕ) (turned : Bool) (w h k : ℕ) (size : Size) → stage_count (cornered d turned w h k size) ≤ 2
cornered_stages d turned w h k size =
    let column = cut_off Y h size.h k (Piece d turned) in
    let alone : stage_count column ≤ 1 = off_y_keeps (λ t. stage_count t ≤ 1) h size.h k (Piece d turned) (omega arith) (omega arith) (omega arith) in
    let below : stages_below (Some X) 1 column ≤ 2 = off_y_keeps (λ t. stages_below (Some X) 1 t ≤ 2) h size.h k (Piece d turned) (omega arith) (omega arith) (omega arith) in
    off_x_keeps (λ t. stage_count t ≤ 2) w size.w k column (omega (arith, alone)) (omega (arith, below)) (omega (arith, below))

cornered_demands : (d : ℕ) (turned : Bool) (w h k : ℕ) (size : Size) → HasDemands (Piece d turned) → HasDemands (cornered d turned w h k size)
cornered_demands d turned w h k size is =
    let column = cut_off Y h size.h k (Piece d turned) in
    let below : HasDemands column = off_y_keeps HasDemands h size.h k (Piece d turned) is is (is, tt) in
    off_x_keeps HasDemands w size.w k column below below (below, tt)

-- a tree that is the single one, by what holds of each cornered piece
single_by : (P : Tree → Type 0) (k : ℕ) (size : Size) (x : Want) → IsTrue (is_fitting size x) → (x.size.w ≤ size.w → x.size.h ≤ size.h → P (cornered x.demand false x.size.w x.size.h k size))
    → (IsTrue x.may_turn → x.size.h ≤ size.w → x.size.w ≤ size.h → P (cornered x.demand true x.size.h x.size.w k size)) → P (single k size x)
single_by P k size x fits upright turned = by (is_upright size x) refl fits
  where
    by : (b : Bool) → is_upright size x ≡ b → (b || (x.may_turn && nat_le x.size.h size.w && nat_le x.size.w size.h)) ≡ true
        → P (if b then cornered x.demand false x.size.w x.size.h k size else cornered x.demand true x.size.h x.size.w k size)
    by true e f =
        let both = and_parts (nat_le x.size.w size.w) (nat_le x.size.h size.h) e in
        upright (leb-true x.size.w size.w both.0) (leb-true x.size.h size.h both.1)
    by false e f =
        let all = and_parts (x.may_turn && nat_le x.size.h size.w) (nat_le x.size.w size.h) f in
        let two = and_parts x.may_turn (nat_le x.size.h size.w) all.0 in
        turned two.0 (leb-true x.size.h size.w two.1) (leb-true x.size.w size.h all.1)

pub single_sum : (f : ℕ → ℕ) (k : ℕ) (size : Size) (x : Want) → IsTrue (is_fitting size x) → leaf_sum f (single k size x) ≡ f x.demand
single_sum f k size x fits =
    single_by (λ t. leaf_sum f t ≡ f x.demand) k size x fits (λ a b. cornered_sum f x.demand false x.size.w x.size.h k size) (λ t a b. cornered_sum f x.demand true x.size.h x.size.w k size)

pub single_legal : (wants : List Want) (k : ℕ) (size : Size) (x : Want) → Contains wants x → 1 ≤ x.size.w → 1 ≤ x.size.h → IsTrue (is_fitting size x) → Legal wants k (single k size x) size.w size.h
single_legal wants k size x has wide tall fits =
    single_by (λ t. Legal wants k t size.w size.h) k size x fits
    (λ a b. cornered_cuts (IsWantedPiece wants) x.demand false x.size.w x.size.h k size wide tall a b (x, has, refl, (refl, refl)))
    (λ t a b. cornered_cuts (IsWantedPiece wants) x.demand true x.size.h x.size.w k size tall wide a b (x, has, refl, (t, refl, refl)))

pub single_few_cuts : (k : ℕ) (size : Size) (x : Want) → IsTrue (is_fitting size x) → cut_count (single k size x) ≤ 2
single_few_cuts k size x fits =
    single_by (λ t. cut_count t ≤ 2) k size x fits (λ a b. cornered_cut_count x.demand false x.size.w x.size.h k size) (λ t a b. cornered_cut_count x.demand true x.size.h x.size.w k size)

pub single_few_stages : (k : ℕ) (size : Size) (x : Want) → IsTrue (is_fitting size x) → stage_count (single k size x) ≤ 2
single_few_stages k size x fits =
    single_by (λ t. stage_count t ≤ 2) k size x fits (λ a b. cornered_stages x.demand false x.size.w x.size.h k size) (λ t a b. cornered_stages x.demand true x.size.h x.size.w k size)

-- such a plan
pub single_plan : (k : ℕ) (size : Size) (x : Want) (t : Tree) → t ≡ single k size x → IsTrue (is_fitting size x) → HasDemandNumber x → 1 ≤ x.size.w → 1 ≤ x.size.h → k ≤ MAX_KERF → 1 ≤ size.w
    → size.w ≤ MAX_WIDTH → 1 ≤ size.h → size.h ≤ MAX_HEIGHT → IsPlan (record { tree = t; w = size.w; h = size.h; kerf = k })
single_plan k size x t is fits number wide tall narrow some_w most_w some_h most_h =
    subst (λ (s : Tree). IsPlan (record { tree = s; w = size.w; h = size.h; kerf = k })) (sym is)
    (record {
      shaped =
          single_by (λ t. IsShaped t size.w size.h k) k size x fits (λ a b. cornered_cuts (λ _ _ _ _. Unit {0}) x.demand false x.size.w x.size.h k size wide tall a b tt)
          (λ t a b. cornered_cuts (λ _ _ _ _. Unit {0}) x.demand true x.size.h x.size.w k size tall wide a b tt);
      few_cuts = omega (arith, single_few_cuts k size x fits);
      demands = single_by HasDemands k size x fits (λ a b. cornered_demands x.demand false x.size.w x.size.h k size number) (λ t a b. cornered_demands x.demand true x.size.h x.size.w k size number);
      some_width = some_w;
      width_in_range = most_w;
      some_height = some_h;
      height_in_range = most_h;
      narrow = narrow;
    })

-- the tree that is made of the piece's sides
pub upright_is : (k : ℕ) (size : Size) (x : Want) (w h : ℕ) (t : Tree) → w ≡ x.size.w → h ≡ x.size.h → is_upright size x ≡ true → t ≡ cornered x.demand false w h k size → t ≡ single k size x
upright_is k size x w h t is_w is_h upright made =
    made ∙ ap (λ n. cornered x.demand false n h k size) is_w ∙ ap (λ n. cornered x.demand false x.size.w n k size) is_h
    ∙ ap (λ b. if b then cornered x.demand false x.size.w x.size.h k size else cornered x.demand true x.size.h x.size.w k size) (sym upright)

pub turned_is : (k : ℕ) (size : Size) (x : Want) (w h : ℕ) (t : Tree) → w ≡ x.size.w → h ≡ x.size.h → is_upright size x ≡ false → t ≡ cornered x.demand true h w k size → t ≡ single k size x
turned_is k size x w h t is_w is_h turned made =
    made ∙ ap (λ n. cornered x.demand true n w k size) is_h ∙ ap (λ n. cornered x.demand true x.size.h n k size) is_w
    ∙ ap (λ b. if b then cornered x.demand false x.size.w x.size.h k size else cornered x.demand true x.size.h x.size.w k size) (sym turned)
