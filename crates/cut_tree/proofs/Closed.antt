-- Cuts above others, and lists that have every cut above those that they have.
use Rattle.std.proofs.Common.{◌≡◌, ◌+◌, ◌<◌, ◌≤◌, ◌↔◌, ◌∙◌, ℕ, Bool, true, false, IsTrue, List, Option, refl, sym, subst, inl, inr, arith}
use Rattle.std.proofs.lemmas.Bool.{false_from_ne_true, true≢false}
use Rattle.cut_measure.specs.declared.sizes.Axis.{Axis}
use Rattle.cut_tree.specs.Tree.{Tree, Piece, Rest, Trim, Cut, cut_count}
use Rattle.cut_tree.specs.Above.{IsAbove}
use Rattle.cut_tree.specs.Stops.{is_among, is_tried, AreClosed}

-- a cut above another has a lower number, and both are the tree's
pub above_range : (t : Tree) (n c d : ℕ) → IsAbove t n c d → (n ≤ c) × (c < d) × (d < n + cut_count t)
above_range (Piece e turned) n c d above = absurd above
above_range Rest n c d above = absurd above
above_range (Trim axis a first) n c d (inl p) = (omega (arith, p.0), omega (arith, p.0, p.1), omega (arith, p.2))
above_range (Trim axis a first) n c d (inr q) =
    let r = above_range first (n + 1) c d q in (omega (arith, r.0), r.1, omega (arith, r.2))
above_range (Cut axis a first second) n c d (inl p) = (omega (arith, p.0), omega (arith, p.0, p.1), omega (arith, p.2))
above_range (Cut axis a first second) n c d (inr (inl q)) =
    let r = above_range first (n + 1) c d q in (omega (arith, r.0), r.1, omega (arith, r.2))
above_range (Cut axis a first second) n c d (inr (inr q)) =
    let r = above_range second (n + 1 + cut_count first) c d q in (omega (arith, r.0), r.1, omega (arith, r.2))

-- the first cut is above all others
pub first_above : (t : Tree) (n d : ℕ) → n + 1 ≤ d → d < n + cut_count t → IsAbove t n n d
first_above (Piece e turned) n d after within = absurd (omega (arith, after, within))
first_above Rest n d after within = absurd (omega (arith, after, within))
first_above (Trim axis a first) n d after within = inl (refl, omega (arith, after), omega (arith, within))
first_above (Cut axis a first second) n d after within = inl (refl, omega (arith, after), omega (arith, within))

module _ (cuts : List ℕ) (lost : Option ℕ) where
  -- where the first cut wasn't made, none of the others was tried
  pub untried : (t : Tree) (n end : ℕ) (b : Bool) → is_among cuts n ≡ false → end ≡ n + cut_count t
      → (IsTrue b ↔ ((d : ℕ) → n + 1 ≤ d → d < end → is_tried cuts lost d ≡ false)) → IsTrue b ↔ AreClosed t n cuts lost
  untried t n end b unmade is none = (
    (λ so c d above tried.
        let r = above_range t n c d above in
        let from : n + 1 ≤ d = omega (arith, r.0, r.1) in
        let to : d < end = omega (arith, r.2, is) in
        absurd (true≢false (sym tried ∙ none.0 so d from to))),
    (λ closed. none.1 (λ d from to. false_from_ne_true (is_tried cuts lost d) (λ tried.
        let to : d < n + cut_count t = omega (arith, to, is) in
        true≢false (sym (closed n d (first_above t n d from to) tried) ∙ unmade)))),
  )

  -- where it was made, its parts are left to ask
  pub made_trim : (axis : Axis) (a : ℕ) (first : Tree) (n : ℕ) (b : Bool) → is_among cuts n ≡ true
      → (IsTrue b ↔ AreClosed first (n + 1) cuts lost) → IsTrue b ↔ AreClosed (Trim axis a first) n cuts lost
  made_trim axis a first n b made f = (
    (λ so c d above tried. at so c d above tried),
    (λ closed. f.1 (λ c d q tried. closed c d (inr q) tried)),
  )
    where
      at : IsTrue b → AreClosed (Trim axis a first) n cuts lost
      at so c d (inl p) tried = subst (λ x. is_among cuts x ≡ true) (sym p.0) made
      at so c d (inr q) tried = f.0 so c d q tried

  module _ (axis : Axis) (a : ℕ) (first second : Tree) (n : ℕ) where
    both : is_among cuts n ≡ true → AreClosed first (n + 1) cuts lost → AreClosed second (n + 1 + cut_count first) cuts lost → AreClosed (Cut axis a first second) n cuts lost
    both made f s c d (inl p) tried = subst (λ x. is_among cuts x ≡ true) (sym p.0) made
    both made f s c d (inr (inl q)) tried = f c d q tried
    both made f s c d (inr (inr q)) tried = s c d q tried

    -- the first part is as it has to be, and the second is left to ask
    pub made_cut : (b : Bool) → is_among cuts n ≡ true → AreClosed first (n + 1) cuts lost
        → (IsTrue b ↔ AreClosed second (n + 1 + cut_count first) cuts lost) → IsTrue b ↔ AreClosed (Cut axis a first second) n cuts lost
    made_cut b made f s = (λ so. both made f (s.0 so), λ closed. s.1 (λ c d q tried. closed c d (inr (inr q)) tried))

    -- the first part isn't as it has to be
    pub not_first : (b : Bool) → b ≡ false → (IsTrue b ↔ AreClosed first (n + 1) cuts lost) → IsTrue b ↔ AreClosed (Cut axis a first second) n cuts lost
    not_first b is f = (λ so. absurd (true≢false (sym so ∙ is)), λ closed. f.1 (λ c d q tried. closed c d (inr (inl q)) tried))
