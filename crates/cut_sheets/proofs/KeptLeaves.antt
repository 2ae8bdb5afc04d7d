-- The leaves that are kept of a best tree, joined.
use Rattle.std.proofs.Common.{◌≡◌, ℕ, ◌+◌, ◌-◌, ◌<◌, ◌≤◌, ◌⊎◌, Bool, true, false, List, [], ◌∷◌, ◌++◌, length, get_or, min, sym, refl, ap, ◌∙◌, subst, inl, inr, arith, Some, cond, eqb}
use Rattle.std.specs.Prelude.{slice_get, slice_set}
use Rattle.std.proofs.lemmas.Bool.{cases_lt}
use Rattle.std.proofs.lemmas.Bool.Decides.{eqb_tells}
use Rattle.cut_measure.specs.declared.sizes.Axis.{Axis}
use Rattle.cut_measure.specs.declared.sizes.Axis.TheVariants.{X, Y}
use Rattle.cut_tree.specs.Tree.{Tree, Rest, Piece, Trim, Cut, CutsInto, leaf_sum}
use Rattle.cut_wants.specs.declared.wants.Want.{Want}
use Rattle.cut_tree.specs.Nodes.{tree_of}
use Rattle.cut_wants.specs.Legal.{HasSides, HaveOwnDemands, leaf_count}
use Rattle.cut_wants.specs.Best.{IsBestOf}
use Rattle.cut_sheets.specs.Table.{CountsLeaves, IsPieceAt, IsCutX, IsCutY}
use Rattle.cut_tree.specs.declared.token.TheConstants.{MAX_CUTS}
use Rattle.cut_sheets.specs.declared.keep.Part.{Part}
use Rattle.cut_sheets.specs.Kept.{FitsInto, IsInside, IsPruned, joined, rejoined, KeepsLeaves, KeepsPiece, KeepsFirst}
use Rattle.cut_sheets.proofs.BestWorths.{contains_get, own_at, leaves_none, leaves_piece, leaves_x, leaves_y, counts_one}

pub wider_inside : (wants : List Want) (t : Tree) (w h w' h' : ℕ) → CutsInto (IsInside wants) t w h 0 → w ≤ w' → h ≤ h' → CutsInto (IsInside wants) t w' h' 0
wider_inside wants Rest w h w' h' l ws hs = tt
wider_inside wants (Piece d false) w h w' h' l ws hs = (l.0, l.1, l.2, (omega (arith, l.3), omega (arith, l.3)))
wider_inside wants (Piece d true) w h w' h' l ws hs = (l.0, l.1, l.2, (l.3.0, omega (arith, l.3), omega (arith, l.3)))
wider_inside wants (Trim X a t) w h w' h' l ws hs = absurd (omega (arith, l.1, l.2))
wider_inside wants (Trim Y a t) w h w' h' l ws hs = absurd (omega (arith, l.1, l.2))
wider_inside wants (Cut X a t u) w h w' h' l ws hs =
    (l.0, omega (arith, l.1), wider_inside wants t a h a h' l.2 (omega arith) hs, wider_inside wants u (w - a - 0) h (w' - a - 0) h' l.3 (omega arith) hs)
wider_inside wants (Cut Y a t u) w h w' h' l ws hs =
    (l.0, omega (arith, l.1), wider_inside wants t w a w' a l.2 ws (omega arith), wider_inside wants u w (h - a - 0) w' (h' - a - 0) l.3 ws (omega arith))

pub joined_sum : (f : ℕ → ℕ) (axis : Axis) (a : ℕ) (t u : Tree) → leaf_sum f (joined axis a t u) ≡ leaf_sum f t + leaf_sum f u
joined_sum f axis a Rest u = omega arith
joined_sum f axis a (Piece d b) Rest = omega arith
joined_sum f axis a (Trim x p t) Rest = omega arith
joined_sum f axis a (Cut x p t v) Rest = omega arith
joined_sum f axis a (Piece d b) (Piece e c) = refl
joined_sum f axis a (Piece d b) (Trim y q u) = refl
joined_sum f axis a (Piece d b) (Cut y q u v) = refl
joined_sum f axis a (Trim x p t) (Piece e c) = refl
joined_sum f axis a (Trim x p t) (Trim y q u) = refl
joined_sum f axis a (Trim x p t) (Cut y q u v) = refl
joined_sum f axis a (Cut x p t t') (Piece e c) = refl
joined_sum f axis a (Cut x p t t') (Trim y q u) = refl
joined_sum f axis a (Cut x p t t') (Cut y q u v) = refl

joined_pruned : (axis : Axis) (a : ℕ) (t u : Tree) → IsPruned t → IsPruned u → IsPruned (joined axis a t u)
joined_pruned axis a Rest u p q = q
joined_pruned axis a (Piece d b) Rest p q = p
joined_pruned axis a (Trim x l t) Rest p q = p
joined_pruned axis a (Cut x l t v) Rest p q = p
joined_pruned axis a (Piece d b) (Piece e c) p q = (p, q)
joined_pruned axis a (Piece d b) (Trim y r u) p q = (p, q)
joined_pruned axis a (Piece d b) (Cut y r u v) p q = (p, q)
joined_pruned axis a (Trim x l t) (Piece e c) p q = (p, q)
joined_pruned axis a (Trim x l t) (Trim y r u) p q = (p, q)
joined_pruned axis a (Trim x l t) (Cut y r u v) p q = (p, q)
joined_pruned axis a (Cut x l t t') (Piece e c) p q = (p, q)
joined_pruned axis a (Cut x l t t') (Trim y r u) p q = (p, q)
joined_pruned axis a (Cut x l t t') (Cut y r u v) p q = (p, q)

-- the sides of the whole, the first part and the second part
joined_inside : (wants : List Want) (axis : Axis) (a : ℕ) (t u : Tree) (w h w1 h1 w2 h2 : ℕ) → w1 ≤ w → h1 ≤ h → w2 ≤ w → h2 ≤ h
    → CutsInto (IsInside wants) t w1 h1 0 → CutsInto (IsInside wants) u w2 h2 0 → CutsInto (IsInside wants) (Cut axis a t u) w h 0
    → CutsInto (IsInside wants) (joined axis a t u) w h 0
joined_inside wants axis a Rest u w h w1 h1 w2 h2 a1 b1 a2 b2 l m c = wider_inside wants u w2 h2 w h m a2 b2
joined_inside wants axis a (Piece d b) Rest w h w1 h1 w2 h2 a1 b1 a2 b2 l m c = wider_inside wants (Piece d b) w1 h1 w h l a1 b1
joined_inside wants axis a (Trim x p t) Rest w h w1 h1 w2 h2 a1 b1 a2 b2 l m c = wider_inside wants (Trim x p t) w1 h1 w h l a1 b1
joined_inside wants axis a (Cut x p t v) Rest w h w1 h1 w2 h2 a1 b1 a2 b2 l m c = wider_inside wants (Cut x p t v) w1 h1 w h l a1 b1
joined_inside wants axis a (Piece d b) (Piece e r) w h w1 h1 w2 h2 a1 b1 a2 b2 l m c = c
joined_inside wants axis a (Piece d b) (Trim y q u) w h w1 h1 w2 h2 a1 b1 a2 b2 l m c = c
joined_inside wants axis a (Piece d b) (Cut y q u v) w h w1 h1 w2 h2 a1 b1 a2 b2 l m c = c
joined_inside wants axis a (Trim x p t) (Piece e r) w h w1 h1 w2 h2 a1 b1 a2 b2 l m c = c
joined_inside wants axis a (Trim x p t) (Trim y q u) w h w1 h1 w2 h2 a1 b1 a2 b2 l m c = c
joined_inside wants axis a (Trim x p t) (Cut y q u v) w h w1 h1 w2 h2 a1 b1 a2 b2 l m c = c
joined_inside wants axis a (Cut x p t t') (Piece e r) w h w1 h1 w2 h2 a1 b1 a2 b2 l m c = c
joined_inside wants axis a (Cut x p t t') (Trim y q u) w h w1 h1 w2 h2 a1 b1 a2 b2 l m c = c
joined_inside wants axis a (Cut x p t t') (Cut y q u v) w h w1 h1 w2 h2 a1 b1 a2 b2 l m c = c

keeps_none : (wants : List Want) (w h best : ℕ) (old : List ℕ) → IsBestOf wants 0 w h best → best ≡ 0 → KeepsLeaves wants w h old old Rest
keeps_none wants w h best old b z = record { leaves = leaves_none wants w h best old b z; few = λ i x has. omega arith; inside = tt; pruned = tt }

keeps_joined : (wants : List Want) (axis : Axis) (a w h w1 h1 w2 h2 : ℕ) (old mid new : List ℕ) (t u : Tree) → w1 ≤ w → h1 ≤ h → w2 ≤ w → h2 ≤ h
    → CountsLeaves wants w h old new → KeepsLeaves wants w1 h1 old mid t → KeepsLeaves wants w2 h2 mid new u → CutsInto (IsInside wants) (Cut axis a t u) w h 0
    → KeepsLeaves wants w h old new (joined axis a t u)
keeps_joined wants axis a w h w1 h1 w2 h2 old mid new t u a1 b1 a2 b2 leaves p q c = record {
  leaves = leaves;
  few = λ i x has. omega (arith, p.few i x has, q.few i x has, joined_sum (λ d. cond (eqb d x.demand) 1 0) axis a t u);
  inside = joined_inside wants axis a t u w h w1 h1 w2 h2 a1 b1 a2 b2 p.inside q.inside c;
  pruned = joined_pruned axis a t u p.pruned q.pruned;
}

keeps_x : (wants : List Want) (w h best a : ℕ) (old mid new : List ℕ) (t u : Tree) → IsBestOf wants 0 w h best → IsCutX wants w h best a
    → KeepsLeaves wants a h old mid t → KeepsLeaves wants (w - a) h mid new u → KeepsLeaves wants w h old new (joined X a t u)
keeps_x wants w h best a old mid new t u b c p q =
    let there : w - a ≡ w - a - 0 = omega arith in
    keeps_joined wants X a w h a h (w - a) h old mid new t u (omega (arith, c.inside)) (omega arith) (omega arith) (omega arith)
    (leaves_x wants w h best a old mid new b c p.leaves q.leaves) p q
    (c.some, omega (arith, c.inside), p.inside, subst (λ m. CutsInto (IsInside wants) u m h 0) there q.inside)

keeps_y : (wants : List Want) (w h best a : ℕ) (old mid new : List ℕ) (t u : Tree) → IsBestOf wants 0 w h best → IsCutY wants w h best a
    → KeepsLeaves wants w a old mid t → KeepsLeaves wants w (h - a) mid new u → KeepsLeaves wants w h old new (joined Y a t u)
keeps_y wants w h best a old mid new t u b c p q =
    let there : h - a ≡ h - a - 0 = omega arith in
    keeps_joined wants Y a w h w a w (h - a) old mid new t u (omega arith) (omega (arith, c.inside)) (omega arith) (omega arith)
    (leaves_y wants w h best a old mid new b c p.leaves q.leaves) p q
    (c.some, omega (arith, c.inside), p.inside, subst (λ m. CutsInto (IsInside wants) u w m 0) there q.inside)

span_of_sides : (x : Want) (turned : Bool) (w h : ℕ) → HasSides x turned w h → FitsInto x turned w h
span_of_sides x false w h s = (omega (arith, s.0), omega (arith, s.1))
span_of_sides x true w h s = (s.0, omega (arith, s.1), omega (arith, s.2))

-- a leaf that is kept, or not
keeps_piece : (wants : List Want) (w h best i : ℕ) (turned : Bool) (old : List ℕ) (kept : Tree) → HaveOwnDemands wants → length old ≡ length wants → IsBestOf wants 0 w h best
    → (p : IsPieceAt wants w h best i turned)
    → ((get_or old i 0 < p.want.left) × (kept ≡ Piece p.want.demand turned)) ⊎ ((p.want.left ≤ get_or old i 0) × (kept ≡ Rest))
    → KeepsLeaves wants w h old (slice_set old i (get_or old i 0 + 1)) kept
keeps_piece wants w h best i turned old kept own len b p way =
    elim way [
      | inl k ↦ subst (λ t. KeepsLeaves wants w h old (slice_set old i (get_or old i 0 + 1)) t) (sym k.1) (record {
        leaves = leaves;
        few = λ j y hj. elim (eqb_tells p.want.demand y.demand) [
          | inl (t, e) ↦
              let j_i : j ≡ i = sym (own_at wants i j p.want y own p.here hj e) in
              let y_x : y ≡ p.want = same_want j y hj j_i in
              let grown = counts_one wants i p.want old own len p.here j y hj in
              rw t (omega (arith, rw t at grown, k.0, ap (λ n. get_or old n 0) j_i, ap (λ (z : Want). z.left) y_x))
          | inr (t, n) ↦
              let grown = counts_one wants i p.want old own len p.here j y hj in
              rw t (omega (arith, rw t at grown))
        ];
        inside = (p.want, contains_get wants i p.want p.here, refl, span_of_sides p.want turned w h p.sides);
        pruned = tt;
      })
      | inr k ↦ subst (λ t. KeepsLeaves wants w h old (slice_set old i (get_or old i 0 + 1)) t) (sym k.1) (record {
        leaves = leaves;
        few = λ j y hj. elim (eqb_tells p.want.demand y.demand) [
          | inl (t, e) ↦
              let j_i : j ≡ i = sym (own_at wants i j p.want y own p.here hj e) in
              let y_x : y ≡ p.want = same_want j y hj j_i in
              let grown = counts_one wants i p.want old own len p.here j y hj in
              omega (arith, rw t at grown, k.0, ap (λ n. get_or old n 0) j_i, ap (λ (z : Want). z.left) y_x)
          | inr (t, n) ↦
              let grown = counts_one wants i p.want old own len p.here j y hj in
              omega (arith, rw t at grown)
        ];
        inside = tt;
        pruned = tt;
      })
    ]
  where
    leaves : CountsLeaves wants w h old (slice_set old i (get_or old i 0 + 1))
    leaves = leaves_piece wants w h best i turned old own len b p

    same_want : (j : ℕ) (y : Want) → slice_get wants j ≡ Some y → j ≡ i → y ≡ p.want
    same_want j y hj e = let q : Some y ≡ Some p.want = sym hj ∙ ap (slice_get wants) e ∙ p.here in cc

-- ---- the first ones of those that are kept

joined_same : (axis : Axis) (a : ℕ) (t t' u u' : Tree) → t ≡ t' → u ≡ u' → joined axis a t u ≡ joined axis a t' u'
joined_same axis a t t' u u' p q = ap (λ v. joined axis a v u) p ∙ ap (λ v. joined axis a t' v) q

pub first_none : (wants : List Want) (w h best n : ℕ) (old : List ℕ) → IsBestOf wants 0 w h best → best ≡ 0 → KeepsFirst wants w h old old n n Rest
first_none wants w h best n old b z = record {
  all = Rest;
  keeps = keeps_none wants w h best old b z;
  counted = omega arith;
  whole = λ _. refl;
  few = omega arith;
  pruned = tt;
}

-- a piece that is one of the first, or not
first_leaf : (d : ℕ) (r : Bool) (n m : ℕ) (t : Tree) → KeepsPiece d r n m t → (leaf_count t + min n (MAX_CUTS + 1) ≡ min m (MAX_CUTS + 1)) × IsPruned t
first_leaf d r n m t k =
    elim (cases_lt MAX_CUTS n) [
      | inl lt ↦ subst (λ v. (leaf_count v + min n (MAX_CUTS + 1) ≡ min m (MAX_CUTS + 1)) × IsPruned v) (sym (k.past lt)) (omega (arith, lt, k.counted), tt)
      | inr ge ↦ subst (λ v. (leaf_count v + min n (MAX_CUTS + 1) ≡ min m (MAX_CUTS + 1)) × IsPruned v) (sym (k.first ge)) (omega (arith, ge, k.counted), tt)
    ]

pub first_piece : (wants : List Want) (w h best i : ℕ) (turned : Bool) (old : List ℕ) (n m : ℕ) (tree : Tree) → HaveOwnDemands wants → length old ≡ length wants → IsBestOf wants 0 w h best
    → (p : IsPieceAt wants w h best i turned)
    → ((get_or old i 0 < p.want.left) × KeepsPiece p.want.demand turned n m tree) ⊎ ((p.want.left ≤ get_or old i 0) × (m ≡ n) × (tree ≡ Rest))
    → KeepsFirst wants w h old (slice_set old i (get_or old i 0 + 1)) n m tree
first_piece wants w h best i turned old n m tree own len b p way =
    elim way [
      | inl k ↦
          let leaf = first_leaf p.want.demand turned n m tree k.1 in
          record {
            all = Piece p.want.demand turned;
            keeps = keeps_piece wants w h best i turned old (Piece p.want.demand turned) own len b p (inl (k.0, refl));
            counted = omega (arith, k.1.counted);
            whole = λ le. k.1.first (omega (arith, le, k.1.counted));
            few = leaf.0;
            pruned = leaf.1;
          }
      | inr k ↦ record {
        all = Rest;
        keeps = keeps_piece wants w h best i turned old Rest own len b p (inr (k.0, refl));
        counted = omega (arith, k.1);
        whole = λ le. k.2;
        few = subst (λ v. leaf_count v + min n (MAX_CUTS + 1) ≡ min m (MAX_CUTS + 1)) (sym k.2) (omega (arith, k.1));
        pruned = subst IsPruned (sym k.2) tt;
      }
    ]

pub first_x : (wants : List Want) (w h best a : ℕ) (old mid new : List ℕ) (n m o : ℕ) (t u : Tree) → IsBestOf wants 0 w h best → IsCutX wants w h best a
    → KeepsFirst wants a h old mid n m t → KeepsFirst wants (w - a) h mid new m o u → KeepsFirst wants w h old new n o (joined X a t u)
first_x wants w h best a old mid new n m o t u b c p q = record {
  all = joined X a p.all q.all;
  keeps = keeps_x wants w h best a old mid new p.all q.all b c p.keeps q.keeps;
  counted = omega (arith, p.counted, q.counted, joined_sum (λ _. 1) X a p.all q.all);
  whole = λ le. joined_same X a t p.all u q.all (p.whole (omega (arith, le, p.counted, q.counted))) (q.whole le);
  few = omega (arith, p.few, q.few, joined_sum (λ _. 1) X a t u);
  pruned = joined_pruned X a t u p.pruned q.pruned;
}

pub first_y : (wants : List Want) (w h best a : ℕ) (old mid new : List ℕ) (n m o : ℕ) (t u : Tree) → IsBestOf wants 0 w h best → IsCutY wants w h best a
    → KeepsFirst wants w a old mid n m t → KeepsFirst wants w (h - a) mid new m o u → KeepsFirst wants w h old new n o (joined Y a t u)
first_y wants w h best a old mid new n m o t u b c p q = record {
  all = joined Y a p.all q.all;
  keeps = keeps_y wants w h best a old mid new p.all q.all b c p.keeps q.keeps;
  counted = omega (arith, p.counted, q.counted, joined_sum (λ _. 1) Y a p.all q.all);
  whole = λ le. joined_same Y a t p.all u q.all (p.whole (omega (arith, le, p.counted, q.counted))) (q.whole le);
  few = omega (arith, p.few, q.few, joined_sum (λ _. 1) Y a t u);
  pruned = joined_pruned Y a t u p.pruned q.pruned;
}

-- ---- parts of cuts, whose second parts are to come

pub rejoined_push : (parts : List Part) (p : Part) (t : Tree) → rejoined (parts ++ (p ∷ [])) t ≡ rejoined parts (joined p.axis p.place (tree_of p.first) t)
rejoined_push [] p t = refl
rejoined_push (q ∷ parts) p t = ap (joined q.axis q.place (tree_of q.first)) (rejoined_push parts p t)

-- what the rectangle that is left gives is, with the parts before it, what the whole gives
pub record LeadsTo (wants : List Want) (w h : ℕ) (old : List ℕ) (n p q : ℕ) (mid : List ℕ) (m : ℕ) (parts : List Part) : Type 0 where
  pub whole : (new : List ℕ) (o : ℕ) (t : Tree) → KeepsFirst wants p q mid new m o t → KeepsFirst wants w h old new n o (rejoined parts t)

pub leads_first : (wants : List Want) (w h : ℕ) (old : List ℕ) (n : ℕ) → LeadsTo wants w h old n w h old n []
leads_first wants w h old n = record { whole = λ new o t k. k }

pub leads_x : (wants : List Want) (w h : ℕ) (old : List ℕ) (n p q : ℕ) (mid : List ℕ) (m : ℕ) (parts : List Part) (best a : ℕ) (after : List ℕ) (o : ℕ) (part : Part)
    → LeadsTo wants w h old n p q mid m parts → IsBestOf wants 0 p q best → IsCutX wants p q best a → part.axis ≡ X → part.place ≡ a
    → KeepsFirst wants a q mid after m o (tree_of part.first) → LeadsTo wants w h old n (p - a) q after o (parts ++ (part ∷ []))
leads_x wants w h old n p q mid m parts best a after o part l b c axis place k = record {
  whole = λ new r t s.
      subst (KeepsFirst wants w h old new n r)
      (ap (λ x. rejoined parts (joined x a (tree_of part.first) t)) (sym axis) ∙ ap (λ x. rejoined parts (joined part.axis x (tree_of part.first) t)) (sym place) ∙ sym (rejoined_push parts part t))
      (l.whole new r (joined X a (tree_of part.first) t) (first_x wants p q best a mid after new m o r (tree_of part.first) t b c k s));
}

pub leads_y : (wants : List Want) (w h : ℕ) (old : List ℕ) (n p q : ℕ) (mid : List ℕ) (m : ℕ) (parts : List Part) (best a : ℕ) (after : List ℕ) (o : ℕ) (part : Part)
    → LeadsTo wants w h old n p q mid m parts → IsBestOf wants 0 p q best → IsCutY wants p q best a → part.axis ≡ Y → part.place ≡ a
    → KeepsFirst wants p a mid after m o (tree_of part.first) → LeadsTo wants w h old n p (q - a) after o (parts ++ (part ∷ []))
leads_y wants w h old n p q mid m parts best a after o part l b c axis place k = record {
  whole = λ new r t s.
      subst (KeepsFirst wants w h old new n r)
      (ap (λ x. rejoined parts (joined x a (tree_of part.first) t)) (sym axis) ∙ ap (λ x. rejoined parts (joined part.axis x (tree_of part.first) t)) (sym place) ∙ sym (rejoined_push parts part t))
      (l.whole new r (joined Y a (tree_of part.first) t) (first_y wants p q best a mid after new m o r (tree_of part.first) t b c k s));
}
