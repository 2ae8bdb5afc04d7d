-- What a bar is worth at most: read from the spans that counts reach, and no legal tree is worth more.
use Rattle.std.proofs.Common.{◌≡◌, ℕ, ◌+◌, ◌-◌, ◌≤◌, true, false, List, [], ◌∷◌, sym, refl, ap, subst, ◌∙◌, inl, inr, arith}
use Rattle.std.specs.Prelude.{Contains}
use Rattle.std.proofs.lemmas.Bool.{false≢true}
use Rattle.cut_measure.specs.declared.sizes.Axis.TheVariants.{X, Y}
use Rattle.cut_measure.specs.Measures.{Size}
use Rattle.cut_tree.specs.Tree.{Tree, Rest, Piece, Trim, Cut, leaf_sum}
use Rattle.cut_wants.specs.declared.wants.Want.{Want}
use Rattle.cut_wants.specs.Legal.{Legal, HaveOwnDemands, IsWithinCounts, of_demand}
use Rattle.cut_wants.proofs.LeafSums.{Contains-head, Contains-tail, of_demand_found, weigh-count}
use Rattle.cut_bars.specs.declared.reach.Entry.{Entry}
use Rattle.cut_bars.specs.Counts.{AreCounts, AreUprightOfHeightOne, span_taken, worth_of_counts}
use Rattle.cut_bars.specs.Reached.{AreReached}
use Rattle.cut_bars.proofs.BarCounts.{tree_counts, tree_total}
use Rattle.cut_bound.specs.Bounds.{IsGreatest, IsMost}
use Rattle.cut_bound.specs.UnitBounds.{IsBarBound}

no_counts : (xs : List Want) (k : ℕ) → (ns : List ℕ) × AreCounts xs ns × (span_taken k xs ns ≡ 0) × (worth_of_counts xs ns ≡ 0)
no_counts [] k = ([], tt, refl, refl)
no_counts (x ∷ xs) k =
    let r = no_counts xs k in
    (0 ∷ r.0, (omega arith, r.1), omega (arith, r.2), omega (arith, r.3))

-- the greatest worth within a bar and a kerf is that of best counts
pub bar_rating : (wants : List Want) (k whole w best : ℕ) (entries : List Entry) → AreReached k wants whole (Contains entries) → w + k ≤ whole
    → IsGreatest (λ e. e.span ≤ w + k) (λ e. e.worth) entries best → IsBarBound wants k w best
bar_rating wants k whole w best entries reach inside g =
    elim g.reached [
      | inl none ↦
          let z = no_counts wants k in
          record {
            counts = z.0;
            best_counts = record { within = z.1; fit = omega (arith, z.2); most = λ others few fit. omega (arith, most others few fit) };
            worth = omega (arith, z.3);
          }
      | inr (i, e, lt, is, (fits, same)) ↦
          let at = (reach.only e (i, lt, is)).1 in
          record {
            counts = at.counts;
            best_counts = record { within = at.within; fit = omega (arith, at.takes); most = λ others few fit. omega (arith, most others few fit, at.value) };
            worth = omega (arith, at.value);
          }
    ]
  where
    below : (e : Entry) → Contains entries e → e.span ≤ w + k → e.worth ≤ best
    below e has = subst (λ (d : Entry). d.span ≤ w + k → d.worth ≤ best) has.2 (g.most has.0 e has.1)

    most : (others : List ℕ) → AreCounts wants others → span_taken k wants others ≤ w + k → worth_of_counts wants others ≤ best
    most others few fit =
        let e = reach.each others few (omega arith) in
        let at = (reach.only e.0 e.1).1 in
        omega (arith, at.most others few (sym e.2), at.value, below e.0 e.1 (omega (arith, e.2)))

-- the pieces of a bar, each with a kerf, take at most the bar and a kerf
tree_span : (wants : List Want) (k : ℕ) (t : Tree) (w : ℕ) → HaveOwnDemands wants → AreUprightOfHeightOne wants → Legal wants k t w 1 → leaf_sum (of_demand (λ x. x.size.w + k) wants) t ≤ w + k
tree_span wants k Rest w own flat l = omega arith
tree_span wants k (Piece d false) w own flat p =
    let span = ap (of_demand (λ x. x.size.w + k) wants) (sym p.2) ∙ of_demand_found (λ x. x.size.w + k) wants p.0 own p.1 in
    omega (arith, span, p.3.0)
tree_span wants k (Piece d true) w own flat p = absurd (false≢true (sym (flat p.0 p.1).upright ∙ p.3.0))
tree_span wants k (Trim X a t) w own flat l = omega (arith, tree_span wants k t a own flat l.3, l.1)
tree_span wants k (Trim Y a t) w own flat l = absurd (omega (arith, l.0, l.1))
tree_span wants k (Cut X a t u) w own flat l = omega (arith, tree_span wants k t a own flat l.2, tree_span wants k u (w - a - k) own flat l.3, l.1)
tree_span wants k (Cut Y a t u) w own flat l = absurd (omega (arith, l.0, l.1))

tree_few : (wants xs : List Want) (t : Tree) → HaveOwnDemands wants → IsWithinCounts wants t → ((x : Want) → Contains xs x → Contains wants x) → AreCounts xs (tree_counts xs t)
tree_few wants [] t own within sub = tt
tree_few wants (x ∷ xs) t own within sub = (
  omega (arith, within x.demand, of_demand_found (λ x. x.left) wants x own (sub x (Contains-head x xs))),
  tree_few wants xs t own within (λ y h. sub y (Contains-tail x xs y h)),
)

pub bar_most : (wants : List Want) (k : ℕ) (size : Size) (best : ℕ) → HaveOwnDemands wants → AreUprightOfHeightOne wants → size.h ≡ 1 → IsBarBound wants k size.w best → IsMost wants k size best
bar_most wants k size best own upright flat rate = λ t legal within.
    let span = tree_total (λ x. x.size.w + k) wants t ∙ weigh-count (λ x. x.size.w + k) wants t own in
    let value = tree_total (λ x. x.worth) wants t ∙ weigh-count (λ x. x.worth) wants t own in
    let fit = tree_span wants k t size.w own upright (subst (λ h. Legal wants k t size.w h) flat legal) in
    let most = rate.best_counts.most (tree_counts wants t) (tree_few wants wants t own within (λ x h. h)) (omega (arith, span, fit)) in
    omega (arith, most, value, rate.worth)
