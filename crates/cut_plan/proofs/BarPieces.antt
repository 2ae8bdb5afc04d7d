-- The pieces of counts, and the tree of a bar that they make.
use Rattle.std.proofs.Common.{◌≡◌, ℕ, ◌+◌, ◌<◌, ◌≤◌, false, List, [], ◌∷◌, length, replicate, sym, refl, ap, ◌∙◌, subst, inl, inr, arith}
use Rattle.std.specs.Prelude.{Contains, All, sum_by}
use Rattle.std.proofs.lemmas.List.Elements.{All-append, All-contains, All-replicate}
use Rattle.std.proofs.lemmas.List.Folds.{sum_by-replicate}
use Rattle.std.proofs.lemmas.List.Sums.{sum_by-append, sum_by-cons}
use Rattle.cut_tree.specs.declared.token.TheConstants.{MAX_CUTS}
use Rattle.cut_measure.specs.Measures.{Size}
use Rattle.cut_tree.specs.Tree.{leaf_sum, cut_count}
use Rattle.cut_tree.specs.Patterns.{Pattern}
use Rattle.cut_tree.specs.Bars.{IsBarPiece, bar_tree, bar_length}
use Rattle.cut_tree.proofs.BarTrees.{spent, spent-cons, fits_bar, leaf_sum-bar_tree, cut_count-bar_tree, CutsInto-bar_tree}
use Rattle.cut_wants.specs.declared.wants.Want.{Want}
use Rattle.cut_wants.specs.Legal.{Legal, IsWantedPiece, HaveOwnDemands, worth_of, leaf_count}
use Rattle.cut_bars.specs.Counts.{total_of, worth_of_counts, AreBestCounts, AreUprightOfHeightOne, HaveLength}
use Rattle.cut_wants.proofs.LeafSums.{Contains-head, Contains-tail}
use Rattle.cut_bars.proofs.BarCounts.{bar_wants, counts_best, counted_within, counted_value}
use Rattle.cut_plan.specs.declared.bars.Pieces.{Pieces}
use Rattle.cut_plan.specs.Proposals.{pieces_of, AreDemands, HasDemandNumber, AreBestPieces, IsBarPlan, IsBarProposal, HasManyPieces}

-- what holds of each want's demand and length holds of the pieces
all_pieces : (P : ℕ × ℕ → Type 0) (xs : List Want) (ns : List ℕ) → ((x : Want) → Contains xs x → P (x.demand, x.size.w)) → All P (pieces_of xs ns)
all_pieces P [] ns each = λ i d lt. absurd (omega arith)
all_pieces P (x ∷ xs) [] each = λ i d lt. absurd (omega arith)
all_pieces P (x ∷ xs) (a ∷ ns) each =
    All-append P (replicate a (x.demand, x.size.w)) (pieces_of xs ns) (All-replicate P a (x.demand, x.size.w) (each x (Contains-head x xs)))
    (all_pieces P xs ns (λ y h. each y (Contains-tail x xs y h)))

sum_pieces : (f : ℕ × ℕ → ℕ) (xs : List Want) (ns : List ℕ) → sum_by f (pieces_of xs ns) ≡ total_of (λ x. f (x.demand, x.size.w)) xs ns
sum_pieces f [] ns = refl
sum_pieces f (x ∷ xs) [] = refl
sum_pieces f (x ∷ xs) (a ∷ ns) =
    omega (arith, sum_by-append f (replicate a (x.demand, x.size.w)) (pieces_of xs ns), sum_by-replicate f a (x.demand, x.size.w), sum_pieces f xs ns)

length_sum : (ps : List (ℕ × ℕ)) → sum_by (λ p. 1) ps ≡ length ps
length_sum [] = refl
length_sum (p ∷ ps) = omega (arith, sum_by-cons (λ (q : ℕ × ℕ). 1) p ps, length_sum ps)

pub bar_pieces : (wants : List Want) (ns : List ℕ) (pieces : List (ℕ × ℕ)) → pieces ≡ pieces_of wants ns → AreDemands wants → HaveLength wants → All IsBarPiece pieces
bar_pieces wants ns pieces list demands some =
    subst (λ ps. All IsBarPiece ps) (sym list) (all_pieces IsBarPiece wants ns (λ x has. (let d = All-contains HasDemandNumber wants x demands has in (d.0, d.1, some x has))))

pub has_span : (wants : List Want) (k w : ℕ) (ns : List ℕ) → AreBestCounts k wants (w + k) ns → spent k (pieces_of wants ns) ≤ w + k
has_span wants k w ns best = omega (arith, sum_pieces (λ p. p.1 + k) wants ns, best.fit)

lengths : (wants : List Want) (ns : List ℕ) → HaveLength wants → All (λ q. 1 ≤ q.1) (pieces_of wants ns)
lengths wants ns some = all_pieces (λ q. 1 ≤ q.1) wants ns some

-- the tree of best counts is a bar's plan, worth what the counts are
pub best_tree : (size : Size) (k : ℕ) (wants : List Want) (ns : List ℕ) → HaveOwnDemands wants → AreUprightOfHeightOne wants → size.h ≡ 1 → HaveLength wants → AreBestCounts k wants (size.w + k) ns
    → IsBarPlan size k wants (bar_tree (pieces_of wants ns) size.w k) × (worth_of wants (bar_tree (pieces_of wants ns) size.w k) ≡ worth_of_counts wants ns)
best_tree size k wants ns own flat high some best =
    let sums : (f : ℕ → ℕ) → leaf_sum f (bar_tree (pieces_of wants ns) size.w k) ≡ total_of (λ x. f x.demand) wants ns =
    λ f. leaf_sum-bar_tree f (pieces_of wants ns) size.w k (lengths wants ns some) (has_span wants k size.w ns best) ∙ sum_pieces (λ p. f p.0) wants ns in
    let worth = counted_value wants ns (bar_tree (pieces_of wants ns) size.w k) own sums in (
      record {
        counts = ns;
        few = best.within;
        same = refl;
        legal = rw high (CutsInto-bar_tree (IsWantedPiece wants) (pieces_of wants ns) size.w 1 k (lengths wants ns some)
            (all_pieces (λ q. IsWantedPiece wants q.0 false q.1 1) wants ns (λ x has. (x, has, refl, (refl, (flat x has).flat)))) (has_span wants k size.w ns best));
        within = counted_within wants ns (bar_tree (pieces_of wants ns) size.w k) own best.within sums;
        best = λ u legal within. rw worth ((counts_best wants k size.w ns own (bar_wants wants some flat) best).most u (subst (λ h. Legal wants k u size.w h) high legal, within));
      },
      worth,
    )

-- a tree of over 255 cuts has over 255 pieces
pub many_leaves : (wants : List Want) (k w : ℕ) (ns : List ℕ) → 1 ≤ w → HaveLength wants → AreBestCounts k wants (w + k) ns → MAX_CUTS < cut_count (bar_tree (pieces_of wants ns) w k)
    → MAX_CUTS < leaf_count (bar_tree (pieces_of wants ns) w k)
many_leaves wants k w ns one some best many =
    let all = lengths wants ns some in
    let span = has_span wants k w ns best in
    let leaves : leaf_count (bar_tree (pieces_of wants ns) w k) ≡ length (pieces_of wants ns) =
    leaf_sum-bar_tree (λ _. 1) (pieces_of wants ns) w k all span ∙ length_sum (pieces_of wants ns) in
    elim (cut_count-bar_tree (pieces_of wants ns) w k one all span) [
      | inl c ↦ omega (arith, c.1, leaves)
      | inr c ↦ omega (arith, c.1, leaves)
    ]

some_bar : (ps : List (ℕ × ℕ)) (w k : ℕ) → All (λ q. 1 ≤ q.1) ps → spent k ps ≤ w + k → MAX_CUTS < cut_count (bar_tree ps w k) → 1 ≤ w
some_bar [] w k all fits many = absurd (omega arith)
some_bar (p ∷ ps) w k all fits many = let one : 1 ≤ p.1 = all 0 p (omega arith) in omega (arith, spent-cons k p ps, one, fits)

-- the plan of best pieces is proposed
pub is_proposal : (size : Size) (k : ℕ) (wants : List Want) (pieces : Pieces) (plan : Pattern) → HaveOwnDemands wants → AreUprightOfHeightOne wants → size.h ≡ 1 → AreBestPieces size k wants pieces
    → plan.tree ≡ bar_tree pieces.pieces.items size.w k → (plan.w ≡ size.w) × (plan.h ≡ size.h) × (plan.kerf ≡ k)
    → IsBarProposal size k wants (record { plan = plan; worth = pieces.worth })
is_proposal size k wants pieces plan own flat high b tree unit =
    let made = best_tree size k wants b.counts own flat high b.some b.best in
    let same : plan.tree ≡ bar_tree (pieces_of wants b.counts) size.w k = tree ∙ ap (λ ps. bar_tree ps size.w k) b.list in
    record {
      planned = rw same made.0;
      unit = unit;
      worth = rw same (b.worth ∙ sym made.1);
    }

pub too_many : (size : Size) (k : ℕ) (wants : List Want) (pieces : Pieces) → HaveOwnDemands wants → AreUprightOfHeightOne wants → size.h ≡ 1 → AreBestPieces size k wants pieces
    → MAX_CUTS < cut_count (bar_tree pieces.pieces.items size.w k) → HasManyPieces size k wants
too_many size k wants pieces own flat high b cuts =
    let many = subst (λ ps. MAX_CUTS < cut_count (bar_tree ps size.w k)) b.list cuts in
    let one = some_bar (pieces_of wants b.counts) size.w k (lengths wants b.counts b.some) (has_span wants k size.w b.counts b.best) many in
    record {
      tree = bar_tree (pieces_of wants b.counts) size.w k;
      planned = (best_tree size k wants b.counts own flat high b.some b.best).0;
      many = many_leaves wants k size.w b.counts one b.some b.best many;
      many_cuts = many;
    }

-- the pieces of best counts aren't too long
pub not_long : (size : Size) (k : ℕ) (wants : List Want) (pieces : Pieces) → AreBestPieces size k wants pieces → bar_length pieces.pieces.items k ≤ size.w
not_long size k wants pieces b =
    subst (λ ps. bar_length ps k ≤ size.w) (sym b.list) (fits_bar (pieces_of wants b.counts) size.w k (has_span wants k size.w b.counts b.best))
