-- The trees of bars: which pieces have room, how many cuts they take, and what stands at the leaves.
use Rattle.std.proofs.Common.{◌≡◌, ℕ, suc, ◌+◌, ◌-◌, ◌*◌, ◌≤◌, ◌<◌, Bool, false, List, [], ◌∷◌, length, refl, ap, subst, sym, ◌∙◌, inl, inr, arith}
use Rattle.std.specs.Prelude.{All, sum_by, ◌⊎◌, nat_le, ◌==◌}
use Rattle.std.proofs.lemmas.Bool.{eqb-true, eqb-false, leb-true, leb-false}
use Rattle.std.proofs.lemmas.List.Sums.{sum_by-cons}
use Rattle.std.proofs.lemmas.Bool.{cond_both}
use Rattle.cut_tree.specs.declared.token.TheConstants.{MAX_CUTS}
use Rattle.cut_measure.specs.declared.sizes.Axis.TheVariants.{X}
use Rattle.cut_tree.specs.Tree.{Tree, Piece, Trim, Cut, CutsInto, cut_count, leaf_sum}
use Rattle.cut_tree.specs.Patterns.{HasDemands}
use Rattle.cut_tree.specs.Bars.{IsBarPiece, bar_length, bar_tree}

-- what the pieces take where each takes a kerf too
abbrev pub spent : ℕ → List (ℕ × ℕ) → ℕ
spent k pieces = sum_by (λ p. p.1 + k) pieces

pub spent-cons : (k : ℕ) (p : ℕ × ℕ) (ps : List (ℕ × ℕ)) → spent k (p ∷ ps) ≡ p.1 + k + spent k ps
spent-cons k p ps = sum_by-cons (λ q. q.1 + k) p ps

one_kerf_more : (l s k n t : ℕ) → t ≡ s + n * k → l + k + t ≡ l + s + suc n * k
one_kerf_more l s k n t e = omega arith

spent-lengths : (k : ℕ) (ps : List (ℕ × ℕ)) → spent k ps ≡ sum_by (λ p. p.1) ps + length ps * k
spent-lengths k [] = omega arith
spent-lengths k (p ∷ ps) =
    spent-cons k p ps ∙ one_kerf_more p.1 (sum_by (λ q. q.1) ps) k (length ps) (spent k ps) (spent-lengths k ps)
    ∙ ap (λ s. s + suc (length ps) * k) (sym (sum_by-cons (λ q. q.1) p ps))

one_kerf_less : (s k n : ℕ) → s + suc n * k ≡ s + (suc n - 1) * k + k
one_kerf_less s k n = let e : suc n - 1 ≡ n = omega arith in ap (λ m. s + m) (let p : suc n * k ≡ n * k + k = omega arith in p ∙ ap (λ m. m * k + k) (sym e)) ∙ (let q : s + ((suc n - 1) * k + k) ≡ s + (suc n - 1) * k + k = omega arith in q)

spent-bar_length : (k : ℕ) (p : ℕ × ℕ) (ps : List (ℕ × ℕ)) → spent k (p ∷ ps) ≡ bar_length (p ∷ ps) k + k
spent-bar_length k p ps = spent-lengths k (p ∷ ps) ∙ one_kerf_less (sum_by (λ q. q.1) (p ∷ ps)) k (length ps)

pub fits_bar : (ps : List (ℕ × ℕ)) (w k : ℕ) → spent k ps ≤ w + k → bar_length ps k ≤ w
fits_bar [] w k h = omega arith
fits_bar (p ∷ ps) w k h = omega (arith, spent-bar_length k p ps, h)

pub over_bar : (ps : List (ℕ × ℕ)) (w k : ℕ) → w + k < spent k ps → w < bar_length ps k
over_bar [] w k h = absurd (omega (arith, h))
over_bar (p ∷ ps) w k h = omega (arith, spent-bar_length k p ps, h)

pub fits_spent : (ps : List (ℕ × ℕ)) (w k : ℕ) → bar_length ps k ≤ w → spent k ps ≤ w + k
fits_spent [] w k h = omega arith
fits_spent (p ∷ ps) w k h = omega (arith, spent-bar_length k p ps, h)

pub head_of_all : (P : ℕ × ℕ → Type 0) (p : ℕ × ℕ) (ps : List (ℕ × ℕ)) → All P (p ∷ ps) → P p
head_of_all P p ps all = all 0 p (omega arith)

pub rest_of_all : (P : ℕ × ℕ → Type 0) (p : ℕ × ℕ) (ps : List (ℕ × ℕ)) → All P (p ∷ ps) → All P ps
rest_of_all P p ps all = λ i d l. all (suc i) d (omega arith)

-- where less than a piece and its kerf is left, no piece is
none_left : (ps : List (ℕ × ℕ)) (k m : ℕ) → All (λ p. 1 ≤ p.1) ps → spent k ps ≤ m → m ≤ k → ps ≡ []
none_left [] k m all h small = refl
none_left (p ∷ ps) k m all h small = absurd (let one : 1 ≤ p.1 = all 0 p (omega arith) in omega (arith, spent-cons k p ps, one, h, small))

-- the tree of one piece more is one of three
bar_cases : (P : Tree → Type 0) (p : ℕ × ℕ) (ps : List (ℕ × ℕ)) (w k : ℕ) → All (λ q. 1 ≤ q.1) (p ∷ ps) → spent k (p ∷ ps) ≤ w + k →
    (p.1 ≡ w → ps ≡ [] → P (Piece p.0 false)) →
    (p.1 < w → w ≤ p.1 + k → ps ≡ [] → P (Trim X p.1 (Piece p.0 false))) →
    (p.1 + k < w → All (λ q. 1 ≤ q.1) ps → spent k ps ≤ w - p.1 - k + k → P (Cut X p.1 (Piece p.0 false) (bar_tree ps (w - p.1 - k) k))) →
    P (bar_tree (p ∷ ps) w k)
bar_cases P p ps w k all fits whole trim cut =
    let more : All (λ q. 1 ≤ q.1) ps = λ i d l. all (suc i) d (omega arith) in
    let sum : spent k (p ∷ ps) ≡ p.1 + k + spent k ps = spent-cons k p ps in
    cond_both (p.1 == w) _ _ P
    (λ e. let same : p.1 ≡ w = eqb-true p.1 w e in whole same (none_left ps k 0 more (omega (arith, sum, fits, same)) (omega arith)))
    (λ e.
    let other : p.1 ≡ w → ⊥ = eqb-false p.1 w e in
    cond_both (nat_le w (p.1 + k)) _ _ P
    (λ f. let near : w ≤ p.1 + k = leb-true w (p.1 + k) f in trim (omega (arith, sum, fits, other)) near (none_left ps k (w - p.1) more (omega (arith, sum, fits)) (omega arith)))
    (λ f. let far : p.1 + k < w = leb-false w (p.1 + k) f in cut far more (omega (arith, sum, fits))))

-- the sum over the leaves is the sum over the list
pub leaf_sum-bar_tree : (f : ℕ → ℕ) (ps : List (ℕ × ℕ)) (w k : ℕ) → All (λ q. 1 ≤ q.1) ps → spent k ps ≤ w + k → leaf_sum f (bar_tree ps w k) ≡ sum_by (λ p. f p.0) ps
leaf_sum-bar_tree f [] w k all fits = refl
leaf_sum-bar_tree f (p ∷ ps) w k all fits =
    let sum : sum_by (λ q. f q.0) (p ∷ ps) ≡ f p.0 + sum_by (λ q. f q.0) ps = sum_by-cons (λ q. f q.0) p ps in
    bar_cases (λ t. leaf_sum f t ≡ sum_by (λ q. f q.0) (p ∷ ps)) p ps w k all fits
    (λ same none. let e : sum_by (λ q. f q.0) ps ≡ 0 = ap (sum_by (λ q. f q.0)) none in omega (arith, sum, e))
    (λ short near none. let e : sum_by (λ q. f q.0) ps ≡ 0 = ap (sum_by (λ q. f q.0)) none in omega (arith, sum, e))
    (λ far more left. omega (arith, sum, leaf_sum-bar_tree f ps (w - p.1 - k) k more left))

-- a cut for each piece, but for a last one that fills its part
pub cut_count-bar_tree : (ps : List (ℕ × ℕ)) (w k : ℕ) → 1 ≤ w → All (λ q. 1 ≤ q.1) ps → spent k ps ≤ w + k →
    ((spent k ps ≡ w + k) × (cut_count (bar_tree ps w k) + 1 ≡ length ps)) ⊎ ((spent k ps < w + k) × (cut_count (bar_tree ps w k) ≡ length ps))
cut_count-bar_tree [] w k some all fits = inr (omega arith, refl)
cut_count-bar_tree (p ∷ ps) w k some all fits =
    let sum : spent k (p ∷ ps) ≡ p.1 + k + spent k ps = spent-cons k p ps in
    bar_cases (λ t. ((spent k (p ∷ ps) ≡ w + k) × (cut_count t + 1 ≡ length (p ∷ ps))) ⊎ ((spent k (p ∷ ps) < w + k) × (cut_count t ≡ length (p ∷ ps)))) p ps w k all fits
    (λ same none.
    let e : spent k ps ≡ 0 = ap (spent k) none in let l : length ps ≡ 0 = ap length none in
    inl (omega (arith, sum, e, same), omega (arith, l)))
    (λ short near none.
    let e : spent k ps ≡ 0 = ap (spent k) none in let l : length ps ≡ 0 = ap length none in
    inr (omega (arith, sum, e, short), omega (arith, l)))
    (λ far more left.
    elim (cut_count-bar_tree ps (w - p.1 - k) k (omega arith) more left) [
      | inl c ↦ inl (omega (arith, sum, c.0, far), omega (arith, c.1))
      | inr c ↦ inr (omega (arith, sum, c.0, far), omega (arith, c.1))
    ])

-- the tree cuts the bar, and its leaves are the list's pieces
pub CutsInto-bar_tree : (leaf : ℕ → Bool → ℕ → ℕ → Type 0) (ps : List (ℕ × ℕ)) (w h k : ℕ) → All (λ q. 1 ≤ q.1) ps → All (λ q. leaf q.0 false q.1 h) ps → spent k ps ≤ w + k →
    CutsInto leaf (bar_tree ps w k) w h k
CutsInto-bar_tree leaf [] w h k all legal fits = tt
CutsInto-bar_tree leaf (p ∷ ps) w h k all legal fits =
    let one : 1 ≤ p.1 = all 0 p (omega arith) in
    let here : leaf p.0 false p.1 h = legal 0 p (omega arith) in
    bar_cases (λ t. CutsInto leaf t w h k) p ps w k all fits
    (λ same none. subst (λ (n : ℕ). leaf p.0 false n h) same here)
    (λ short near none. (one, short, near, here))
    (λ far more left. (one, far, here, CutsInto-bar_tree leaf ps (w - p.1 - k) h k more (λ i d l. legal (suc i) d (omega arith)) left))

pub HasDemands-bar_tree : (ps : List (ℕ × ℕ)) (w k : ℕ) → All IsBarPiece ps → spent k ps ≤ w + k → HasDemands (bar_tree ps w k)
HasDemands-bar_tree [] w k all fits = tt
HasDemands-bar_tree (p ∷ ps) w k all fits =
    let here : IsBarPiece p = head_of_all IsBarPiece p ps all in
    bar_cases HasDemands p ps w k (λ i d l. (all i d l).2) fits
    (λ same none. (here.0, here.1))
    (λ short near none. (here.0, here.1))
    (λ far more left. ((here.0, here.1), HasDemands-bar_tree ps (w - p.1 - k) k (rest_of_all IsBarPiece p ps all) left))

-- The cuts are at most 255 exactly where the pieces are at most 255, or 256 that leave nothing of the room.
pub cuts_by_span : (ps : List (ℕ × ℕ)) (w k span most : ℕ) → 1 ≤ w → All (λ q. 1 ≤ q.1) ps → spent k ps ≤ w + k → span ≡ w + k - spent k ps →
    ((span ≡ 0) × (most ≡ 256)) ⊎ ((span ≡ 0 → ⊥) × (most ≡ MAX_CUTS)) →
    (length ps ≤ most → cut_count (bar_tree ps w k) ≤ MAX_CUTS) × (most < length ps → MAX_CUTS < cut_count (bar_tree ps w k))
cuts_by_span ps w k span most some all fits left limit =
    elim (cut_count-bar_tree ps w k some all fits) [
      | inl c ↦
          elim limit [
            | inl l ↦ (λ h. omega (arith, c.0, c.1, l.1, h), λ h. omega (arith, c.0, c.1, l.1, h))
            | inr l ↦ absurd (l.0 (omega (arith, left, c.0)))
          ]
      | inr c ↦
          elim limit [
            | inl l ↦ absurd (omega (arith, left, c.0, l.0))
            | inr l ↦ (λ h. omega (arith, c.1, l.1, h), λ h. omega (arith, c.1, l.1, h))
          ]
    ]
