-- A sheet's plan: what is known of the kept leaves of a best tree, and of the tree that they are laid out to.
use Rattle.std.proofs.Common.{◌≡◌, ◌≢◌, ℕ, zero, suc, ◌+◌, ◌-◌, ◌*◌, ◌<◌, ◌≤◌, ◌⊎◌, true, false, List, [], ◌∷◌, length, get_or, min, sym, subst, refl, ap, ◌∙◌, inl, inr, arith, Some, cond, eqb}
use Rattle.std.specs.Prelude.{All, Contains, sum_by, slice_get}
use Rattle.std.specs.List.{list_all}
use Rattle.std.proofs.Math.Nat.{mod-one}
use Rattle.std.proofs.lemmas.Nat.{mul-le}
use Rattle.std.proofs.lemmas.Bool.{ne_eqb}
use Rattle.std.proofs.lemmas.Bool.Decides.{eqb_tells}
use Rattle.std.proofs.lemmas.List.Elements.{All-contains}
use Rattle.std.proofs.lemmas.List.Sums.{sum_by-cons}
use Rattle.cut_tree.specs.declared.token.TheConstants.{MAX_CUTS}
use Rattle.cut_sheets.specs.declared.sheet.TheConstants.{MAX_STEPS}
use Rattle.cut_measure.specs.declared.sizes.Axis.TheVariants.{X, Y}
use Rattle.cut_measure.specs.Measures.{Size}
use Rattle.cut_tree.specs.Tree.{Tree, Rest, Piece, Trim, Cut, IsShaped, leaf_sum, count_of, cut_count}
use Rattle.cut_tree.specs.Patterns.{HasDemands}
use Rattle.cut_wants.specs.declared.wants.Want.{Want}
use Rattle.cut_wants.specs.Legal.{Legal, of_demand, worth_of, IsWithinCounts, HaveOwnDemands, leaf_count}
use Rattle.cut_sheets.specs.Rounded.{steps_down, want_up, wants_up, wants_down, is_exact}
use Rattle.cut_wants.specs.Best.{IsBestOf}
use Rattle.cut_bars.specs.Counts.{AreCounts, worth_of_counts}
use Rattle.cut_sheets.specs.Kept.{KeepsLeaves, IsKept, Places}
use Rattle.cut_sheets.specs.Table.{HaveSides}
use Rattle.cut_sheets.specs.declared.keep.Kept.{Kept}
use Rattle.cut_sheets.proofs.PlacedLeaves.{kept_places, laid_out, leaf_count-le_cuts}
use Rattle.cut_wants.proofs.LeafSums.{Contains-cases, Contains-head, Contains-tail, of_demand_found, weigh, weigh-count}
use Rattle.cut_bars.proofs.BarCounts.{tree_counts, tree_total}
use Rattle.cut_sheets.proofs.BestWorths.{in_get}
use Rattle.cut_sheets.proofs.SheetSteps.{down_worth, leaf_sum-same, exact_wants, steps_inside}
use Rattle.cut_plan.specs.Proposals.{AreDemands, HasDemandNumber}
use Rattle.cut_plan.specs.Sheets.{AreBestLeaves, AreFirstLeaves, kept_counts, dropped_of, IsSheetPlan, IsCeiling, HasManyKept}

best_leaves : (wants : List Want) (p q : ℕ) (old new : List ℕ) (kept : Tree) → KeepsLeaves wants p q old new kept → length new ≡ length wants → ((i : ℕ) → get_or old i 0 ≡ 0) → p ≤ MAX_STEPS → q ≤ MAX_STEPS
    → ((i : ℕ) → i < length new → get_or new i 0 ≤ get_or old i 0 + p * q) → AreBestLeaves wants p q new kept
best_leaves wants p q old new kept k len zeros pp qq grown = record {
  tree = k.leaves.tree;
  legal = k.leaves.legal;
  best = k.leaves.best;
  len = len;
  exact = λ i x has. omega (arith, k.leaves.counts i x has, zeros i);
  few = λ i x has. omega (arith, k.few i x has, zeros i);
  small = λ i lt. omega (arith, grown i lt, zeros i, mul-le p q MAX_STEPS MAX_STEPS pp qq);
  inside = k.inside;
  pruned = k.pruned;
}

-- the same of the first ones of those that are kept
pub first_leaves : (wants : List Want) (p q : ℕ) (old new : List ℕ) (kept : Kept) → IsKept wants p q old new kept → length new ≡ length wants → ((i : ℕ) → get_or old i 0 ≡ 0)
    → p ≤ MAX_STEPS → q ≤ MAX_STEPS → ((i : ℕ) → i < length new → get_or new i 0 ≤ get_or old i 0 + p * q) → AreFirstLeaves wants p q new kept
first_leaves wants p q old new kept k len zeros pp qq grown = record {
  all = k.all;
  best_leaves = best_leaves wants p q old new k.all k.keeps len zeros pp qq grown;
  whole = k.whole;
  more = λ e. (k.more e).0;
}

contains_get : (xs : List Want) (x : Want) → Contains xs x → (i : ℕ) × (slice_get xs i ≡ Some x)
contains_get [] x has = absurd (omega (arith, has.1))
contains_get (y ∷ ys) x has =
    elim (Contains-cases y ys x has) [
      | inl e ↦ (0, ap Some e)
      | inr h ↦ let r = contains_get ys x h in (suc r.0, r.1)
    ]

-- the same by place in the wants rounded up
get_up : (k s : ℕ) (xs : List Want) (i : ℕ) (x : Want) → slice_get xs i ≡ Some x → slice_get (wants_up k s xs) i ≡ Some (want_up k s x)
get_up k s [] i x h = absurd (cc)
get_up k s (y ∷ ys) zero x h = let e : y ≡ x = cc in ap (λ z. Some (want_up k s z)) e
get_up k s (y ∷ ys) (suc i) x h = get_up k s ys i x h

-- lists of counts that are the minima of what a function of the demand says and what is left
kept_is : (g : ℕ → ℕ) (xs : List Want) (ns : List ℕ) (t : Tree) → length ns ≡ length xs
    → ((i : ℕ) (x : Want) → slice_get xs i ≡ Some x → (get_or ns i 0 ≡ g x.demand) × (count_of t x.demand ≡ min (get_or ns i 0) x.left)) → kept_counts xs ns ≡ tree_counts xs t
kept_is g [] ns t len each = refl
kept_is g (x ∷ xs) [] t len each = absurd (omega arith)
kept_is g (x ∷ xs) (n ∷ ns) t len each =
    let here : min n x.left ≡ count_of t x.demand = sym (each 0 x refl).1 in
    ap (λ m. m ∷ kept_counts xs ns) here ∙ ap (λ l. count_of t x.demand ∷ l) (kept_is g xs ns t (omega arith) (λ i y h. each (suc i) y h))

dropped_is : (g : ℕ → ℕ) (xs : List Want) (ns : List ℕ) → length ns ≡ length xs → ((i : ℕ) (x : Want) → slice_get xs i ≡ Some x → get_or ns i 0 ≡ g x.demand)
    → dropped_of xs ns ≡ sum_by (λ x. g x.demand - x.left) xs
dropped_is g [] ns len each = refl
dropped_is g (x ∷ xs) [] len each = absurd (omega arith)
dropped_is g (x ∷ xs) (n ∷ ns) len each =
    let here : n ≡ g x.demand = each 0 x refl in
    ap (λ m. (m - x.left) + dropped_of xs ns) here
    ∙ ap (λ m. (g x.demand - x.left) + m) (dropped_is g xs ns (omega arith) (λ i y h. each (suc i) y h))
    ∙ sym (sum_by-cons (λ (y : Want). g y.demand - y.left) x xs)

pub dropped_small : (xs : List Want) (ns : List ℕ) → ((i : ℕ) → i < length ns → get_or ns i 0 ≤ 250000) → dropped_of xs ns ≤ length xs * 250000
dropped_small [] ns each = omega arith
dropped_small (x ∷ xs) [] each = omega arith
dropped_small (x ∷ xs) (n ∷ ns) each =
    let here : n ≤ 250000 = each 0 (omega arith) in
    omega (arith, dropped_small xs ns (λ i lt. each (suc i) (omega arith)))

pub kept_left : (xs : List Want) (ns : List ℕ) → length ns ≡ length xs → AreCounts xs (kept_counts xs ns)
kept_left [] ns len = tt
kept_left (x ∷ xs) [] len = absurd (omega arith)
kept_left (x ∷ xs) (n ∷ ns) len = (omega arith, kept_left xs ns (omega arith))

-- the sum over wants of the leaves of each is that of all leaves of a legal tree
ones : (wants : List Want) (k : ℕ) (t : Tree) (w h : ℕ) → HaveOwnDemands wants → Legal wants k t w h → leaf_sum (of_demand (λ _. 1) wants) t ≡ leaf_count t
ones wants k Rest w h own l = refl
ones wants k (Piece d b) w h own l = ap (of_demand (λ _. 1) wants) (sym l.2) ∙ of_demand_found (λ _. 1) wants l.0 own l.1
ones wants k (Trim X a t) w h own l = ones wants k t a h own l.3
ones wants k (Trim Y a t) w h own l = ones wants k t w a own l.3
ones wants k (Cut X a t u) w h own l = omega (arith, ones wants k t a h own l.2, ones wants k u (w - a - k) h own l.3)
ones wants k (Cut Y a t u) w h own l = omega (arith, ones wants k t w a own l.2, ones wants k u w (h - a - k) own l.3)

weigh_sum : (g : ℕ → ℕ) (h : Want → ℕ) (xs : List Want) → ((x : Want) → Contains xs x → g x.demand ≡ h x) → weigh (λ _. 1) g xs ≡ sum_by h xs
weigh_sum g h [] each = refl
weigh_sum g h (x ∷ xs) each =
    omega (arith, each x (Contains-head x xs), weigh_sum g h xs (λ y has. each y (Contains-tail x xs y has)), sum_by-cons h x xs)

-- a demand of no want has no leaf
absent : (wants : List Want) (k d : ℕ) (t : Tree) (w h : ℕ) → Legal wants k t w h → ((x : Want) → Contains wants x → x.demand ≢ d) → count_of t d ≡ 0
absent wants k d Rest w h l none = refl
absent wants k d (Piece e b) w h l none =
    let other : eqb e d ≡ false = ne_eqb e d (λ q. none l.0 l.1 (l.2 ∙ q)) in
    rw other refl
absent wants k d (Trim X a t) w h l none = absent wants k d t a h l.3 none
absent wants k d (Trim Y a t) w h l none = absent wants k d t w a l.3 none
absent wants k d (Cut X a t u) w h l none = omega (arith, absent wants k d t a h l.2 none, absent wants k d u (w - a - k) h l.3 none)
absent wants k d (Cut Y a t u) w h l none = omega (arith, absent wants k d t w a l.2 none, absent wants k d u w (h - a - k) l.3 none)

find_demand : (xs : List Want) (d : ℕ) → ((x : Want) × Contains xs x × (x.demand ≡ d)) ⊎ ((x : Want) → Contains xs x → x.demand ≢ d)
find_demand [] d = inr (λ x has. absurd (omega (arith, has.1)))
find_demand (y ∷ ys) d =
    elim (eqb_tells y.demand d) [
      | inl (t, e) ↦ inl (y, Contains-head y ys, e)
      | inr (t, n) ↦ elim (find_demand ys d) [
        | inl f ↦ inl (f.0, Contains-tail y ys f.0 f.1, f.2)
        | inr none ↦ inr (λ x has. elim (Contains-cases y ys x has) [
          | inl e ↦ λ q. n (ap (λ (z : Want). z.demand) e ∙ q)
          | inr h ↦ none x h
        ])
      ]
    ]

within : (wants : List Want) (k : ℕ) (t : Tree) (w h : ℕ) → HaveOwnDemands wants → Legal wants k t w h → ((x : Want) → Contains wants x → count_of t x.demand ≤ x.left) → IsWithinCounts wants t
within wants k t w h own l each = λ d.
    elim (find_demand wants d) [
      | inl f ↦
          let left = ap (of_demand (λ x. x.left) wants) (sym f.2) ∙ of_demand_found (λ x. x.left) wants f.0 own f.1 in
          omega (arith, each f.0 f.1, ap (count_of t) f.2, left)
      | inr none ↦ omega (arith, absent wants k d t w h l none)
    ]

pub demands_of : (wants : List Want) (k : ℕ) (t : Tree) (w h : ℕ) → AreDemands wants → Legal wants k t w h → HasDemands t
demands_of wants k Rest w h have l = tt
demands_of wants k (Piece d b) w h have l = let r = All-contains HasDemandNumber wants l.0 have l.1 in (omega (arith, r.0, l.2), omega (arith, r.1, l.2))
demands_of wants k (Trim X a t) w h have l = demands_of wants k t a h have l.3
demands_of wants k (Trim Y a t) w h have l = demands_of wants k t w a have l.3
demands_of wants k (Cut X a t u) w h have l = (demands_of wants k t a h have l.2, demands_of wants k u (w - a - k) h have l.3)
demands_of wants k (Cut Y a t u) w h have l = (demands_of wants k t w a have l.2, demands_of wants k u w (h - a - k) have l.3)

pub shaped_of : (wants : List Want) (k : ℕ) (t : Tree) (w h : ℕ) → Legal wants k t w h → IsShaped t w h k
shaped_of wants k Rest w h l = tt
shaped_of wants k (Piece d b) w h l = tt
shaped_of wants k (Trim X a t) w h l = (l.0, l.1, l.2, shaped_of wants k t a h l.3)
shaped_of wants k (Trim Y a t) w h l = (l.0, l.1, l.2, shaped_of wants k t w a l.3)
shaped_of wants k (Cut X a t u) w h l = (l.0, l.1, shaped_of wants k t a h l.2, shaped_of wants k u (w - a - k) h l.3)
shaped_of wants k (Cut Y a t u) w h l = (l.0, l.1, shaped_of wants k t w a l.2, shaped_of wants k u w (h - a - k) l.3)

-- what is laid out
pub laid : (size : Size) (k s : ℕ) (wants : List Want) (counts : List ℕ) (kept tree : Tree) (worth dropped : ℕ) → HaveOwnDemands wants
    → AreBestLeaves (wants_up k s wants) (steps_down k s size.w) (steps_down k s size.h) counts kept → Places wants k kept size.w size.h tree → length counts ≡ length wants
    → worth ≡ worth_of_counts wants (kept_counts wants counts) → dropped ≡ dropped_of wants counts → IsSheetPlan size k s wants tree worth dropped
laid size k s wants counts kept tree worth dropped own c p len is_worth is_dropped = record {
  up = c.tree;
  best_up = record { legal = c.legal; best = c.best };
  legal = p.legal;
  kept = each;
  within = within wants k tree size.w size.h own p.legal (λ x has. omega (arith, each x has));
  worth_is =
      is_worth
      ∙ ap (worth_of_counts wants) (kept_is (count_of c.tree) wants counts tree len (λ i x h. (exact i x h, minimum i x h)))
      ∙ tree_total (λ x. x.worth) wants tree
      ∙ weigh-count (λ x. x.worth) wants tree own;
  dropped_is = is_dropped ∙ dropped_is (count_of c.tree) wants counts len exact;
  few_cuts = omega (
    arith,
    p.few_cuts,
    p.sums (λ _. 1),
    ones wants k tree size.w size.h own p.legal,
    weigh-count (λ _. 1) wants tree own,
    weigh_sum (count_of tree) (λ x. min (count_of c.tree x.demand) x.left) wants each,
  );
}
  where
    exact : (i : ℕ) (x : Want) → slice_get wants i ≡ Some x → get_or counts i 0 ≡ count_of c.tree x.demand
    exact i x h = c.exact i (want_up k s x) (get_up k s wants i x h)

    minimum : (i : ℕ) (x : Want) → slice_get wants i ≡ Some x → count_of tree x.demand ≡ min (get_or counts i 0) x.left
    minimum i x h = p.sums (λ d. cond (eqb d x.demand) 1 0) ∙ c.few i (want_up k s x) (get_up k s wants i x h)

    each : (x : Want) → Contains wants x → count_of tree x.demand ≡ min (count_of c.tree x.demand) x.left
    each x has =
        let i = contains_get wants x has in
        minimum i.0 x i.1 ∙ ap (λ n. min n x.left) (exact i.0 x i.1)

-- what is laid out of more pieces than a plan has takes more cuts than it may have
pub many_kept : (size : Size) (k s : ℕ) (wants : List Want) (counts : List ℕ) (all : Tree) → HaveOwnDemands wants → HaveSides wants → 1 ≤ s
    → AreBestLeaves (wants_up k s wants) (steps_down k s size.w) (steps_down k s size.h) counts all → length counts ≡ length wants → MAX_CUTS + 1 < leaf_count all
    → HasManyKept size k s wants
many_kept size k s wants counts all own sides pos c len more =
    let places = kept_places wants k s all _ _ size.w size.h pos sides c.inside c.pruned (steps_inside k s size.w) (steps_inside k s size.h) in
    let out = laid_out wants k s all size.w size.h own sides c.pruned places in
    let plan = laid size k s wants counts all out.0 _ _ own c out.1 len refl refl in
    let many : MAX_CUTS < cut_count out.0 = omega (arith, leaf_count-le_cuts out.0, out.1.sums (λ _. 1), more) in
    record { tree = out.0; worth = _; dropped = _; laid = plan; many = omega (arith, many, plan.few_cuts); many_cuts = many }

pub zero_at : (xs : List ℕ) → All (λ a. a ≡ 0) xs → (i : ℕ) → get_or xs i 0 ≡ 0
zero_at [] zeros i = refl
zero_at (x ∷ xs) zeros zero = zeros 0 0 (omega arith)
zero_at (x ∷ xs) zeros (suc i) = zero_at xs (λ j d lt. zeros (suc j) d (omega arith)) i

sum_small : (g : Want → ℕ) (xs : List Want) → ((x : Want) → Contains xs x → g x ≤ 250000) → sum_by g xs ≤ length xs * 250000
sum_small g [] each = omega arith
sum_small g (x ∷ xs) each = omega (arith, each x (Contains-head x xs), sum_small g xs (λ y h. each y (Contains-tail x xs y h)), sum_by-cons g x xs)

-- the cuts of what is laid out are no more than a number can report
pub few_laid : (size : Size) (k s : ℕ) (wants : List Want) (counts : List ℕ) (kept tree : Tree) → HaveOwnDemands wants
    → AreBestLeaves (wants_up k s wants) (steps_down k s size.w) (steps_down k s size.h) counts kept → Places wants k kept size.w size.h tree → length counts ≡ length wants
    → cut_count tree ≤ 3 * (length wants * 250000)
few_laid size k s wants counts kept tree own c p len =
    let sum = weigh_sum (count_of tree) (λ x. count_of tree x.demand) wants (λ x has. refl) in
    omega (arith, p.few_cuts, p.sums (λ _. 1), ones wants k tree size.w size.h own p.legal, weigh-count (λ _. 1) wants tree own, sum, sum_small (λ x. count_of tree x.demand) wants each)
  where
    each : (x : Want) → Contains wants x → count_of tree x.demand ≤ 250000
    each x has =
        let i = contains_get wants x has in
        omega (
          arith,
          p.sums (λ d. cond (eqb d x.demand) 1 0),
          c.few i.0 (want_up k s x) (get_up k s wants i.0 x i.1),
          c.small i.0 (omega (arith, in_get wants i.0 x i.1)),
        )

-- ---- where nothing was dropped

none_dropped : (g : ℕ → ℕ) (xs : List Want) → sum_by (λ x. g x.demand - x.left) xs ≡ 0 → (x : Want) → Contains xs x → g x.demand ≤ x.left
none_dropped g [] none x has = absurd (omega (arith, has.1))
none_dropped g (y ∷ ys) none x has =
    let parts = sum_by-cons (λ (z : Want). g z.demand - z.left) y ys in
    elim (Contains-cases y ys x has) [
      | inl e ↦ subst (λ (z : Want). g z.demand ≤ z.left) e (omega (arith, parts))
      | inr h ↦ none_dropped g ys (omega (arith, parts)) x h
    ]

weigh_same : (f : Want → ℕ) (g h : ℕ → ℕ) (xs : List Want) → ((x : Want) → Contains xs x → g x.demand ≡ h x.demand) → weigh f g xs ≡ weigh f h xs
weigh_same f g h [] each = refl
weigh_same f g h (x ∷ xs) each =
    ap (λ n. f x * n + weigh f g xs) (each x (Contains-head x xs)) ∙ ap (λ n. f x * h x.demand + n) (weigh_same f g h xs (λ y has. each y (Contains-tail x xs y has)))

-- with step 1 rounding changes nothing
all_exact : (k : ℕ) (xs : List Want) → list_all (is_exact k 1) xs ≡ true
all_exact k [] = refl
all_exact k (x ∷ xs) = rw (mod-one (x.size.w + k), mod-one (x.size.h + k)) (all_exact k xs)

same_steps : (k : ℕ) (xs : List Want) → wants_up k 1 xs ≡ wants_down k 1 xs
same_steps k xs = exact_wants k 1 xs (omega arith) (all_exact k xs)

-- a whole best tree is worth what it is worth in steps
whole_worth : (size : Size) (k : ℕ) (wants : List Want) (tree : Tree) (worth : ℕ) → HaveOwnDemands wants → (l : IsSheetPlan size k 1 wants tree worth 0)
    → worth ≡ worth_of (wants_up k 1 wants) l.up
whole_worth size k wants tree worth own l =
    let few : (x : Want) → Contains wants x → count_of l.up x.demand ≤ x.left = none_dropped (count_of l.up) wants (sym l.dropped_is) in
    let one : (x : Want) → Contains wants x → count_of tree x.demand ≡ count_of l.up x.demand = λ x has. omega (arith, l.kept x has, few x has) in
    l.worth_is
    ∙ sym (weigh-count (λ x. x.worth) wants tree own)
    ∙ weigh_same (λ x. x.worth) (count_of tree) (count_of l.up) wants one
    ∙ weigh-count (λ x. x.worth) wants l.up own
    ∙ sym (leaf_sum-same (of_demand (λ x. x.worth) (wants_down k 1 wants)) (of_demand (λ x. x.worth) wants) l.up (down_worth k 1 wants))
    ∙ ap (λ xs. worth_of xs l.up) (sym (same_steps k wants))

pub whole_best : (size : Size) (k : ℕ) (wants : List Want) (tree : Tree) (worth ceiling : ℕ) → HaveOwnDemands wants → IsSheetPlan size k 1 wants tree worth 0
    → IsCeiling size k 1 wants ceiling → worth ≡ ceiling
whole_best size k wants tree worth ceiling own l c =
    let up = subst (λ xs. IsBestOf xs 0 (steps_down k 1 size.w) (steps_down k 1 size.h) worth) (same_steps k wants)
    (subst (IsBestOf (wants_up k 1 wants) 0 (steps_down k 1 size.w) (steps_down k 1 size.h)) (sym (whole_worth size k wants tree worth own l)) l.best_up.best) in
    omega (arith, c.best.most up.found.0 up.found.1, up.found.2, up.most c.best.found.0 c.best.found.1, c.best.found.2)
