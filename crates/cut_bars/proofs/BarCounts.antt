-- A tree of a bar and counts of pieces: each gives the other.
use Rattle.std.proofs.Common.{◌≡◌, ◌≢◌, ℕ, zero, suc, ◌+◌, ◌-◌, ◌*◌, ◌≤◌, true, false, cond, eqb, List, [], ◌∷◌, sym, refl, ap, ◌∙◌, inl, inr, arith}
use Rattle.std.specs.Prelude.{Contains}
use Rattle.std.proofs.lemmas.Bool.{cases_lt, ne_eqb, false≢true}
use Rattle.std.proofs.lemmas.Bool.Decides.{eqb_tells}
use Rattle.std.proofs.lemmas.Nat.{mul-le}
use Rattle.std.proofs.Math.Nat.{le_refl}
use Rattle.cut_wants.specs.declared.wants.Want.{Want}
use Rattle.cut_tree.specs.Tree.{Tree, leaf_sum, count_of, Rest, Piece, Trim, Cut}
use Rattle.cut_measure.specs.declared.sizes.Axis.TheVariants.{X, Y}
use Rattle.cut_wants.specs.Legal.{Legal, of_demand, worth_of, IsWithinCounts, HaveOwnDemands}
use Rattle.cut_wants.specs.Best.{IsBestWithin}
use Rattle.cut_bars.specs.Counts.{AreCounts, total_of, span_taken, worth_of_counts, AreBestCounts, AreUprightOfHeightOne, HaveLength}
use Rattle.cut_wants.proofs.LeafSums.{of_demand_found, Contains-head, Contains-tail, weigh, weigh-count}

-- a piece of a bar: of some length, flat, and not to be turned
pub record IsBarWant (x : Want) : Type 0 where
  pub some : 1 ≤ x.size.w
  pub flat : x.size.h ≡ 1
  pub upright : x.may_turn ≡ false

abbrev pub AreBarWants : List Want → Type 0
AreBarWants wants = (x : Want) → Contains wants x → IsBarWant x

pub bar_wants : (wants : List Want) → HaveLength wants → AreUprightOfHeightOne wants → AreBarWants wants
bar_wants wants some flat = λ x has. record { some = some x has; flat = (flat x has).flat; upright = (flat x has).upright }

leaf_span : (wants : List Want) (k d : ℕ) (w : ℕ) → HaveOwnDemands wants → (x : Want) → Contains wants x → x.demand ≡ d → x.size.w ≡ w → of_demand (λ x. x.size.w + k) wants d ≡ w + k
leaf_span wants k d w own x has e side =
    ap (λ d. of_demand (λ x. x.size.w + k) wants d) (sym e) ∙ of_demand_found (λ x. x.size.w + k) wants x own has ∙ ap (λ n. n + k) side

-- the pieces of a bar, each with a kerf, take at most the bar and a kerf
pub bar_span : (wants : List Want) (k : ℕ) (t : Tree) (w : ℕ) → HaveOwnDemands wants → AreBarWants wants → Legal wants k t w 1 → leaf_sum (of_demand (λ x. x.size.w + k) wants) t ≤ w + k
bar_span wants k Rest w own bar legal = omega arith
bar_span wants k (Piece d false) w own bar p = omega (arith, leaf_span wants k d w own p.0 p.1 p.2 p.3.0)
bar_span wants k (Piece d true) w own bar p = absurd (false≢true (sym (bar p.0 p.1).upright ∙ p.3.0))
bar_span wants k (Trim X a t) w own bar l = omega (arith, bar_span wants k t a own bar l.3, l.1)
bar_span wants k (Trim Y a t) w own bar l = absurd (omega (arith, l.0, l.1))
bar_span wants k (Cut X a t u) w own bar l = omega (arith, bar_span wants k t a own bar l.2, bar_span wants k u (w - a - k) own bar l.3, l.1)
bar_span wants k (Cut Y a t u) w own bar l = absurd (omega (arith, l.0, l.1))

abbrev pub tree_counts : List Want → Tree → List ℕ
tree_counts [] t = []
tree_counts (x ∷ xs) t = count_of t x.demand ∷ tree_counts xs t

pub tree_total : (f : Want → ℕ) (xs : List Want) (t : Tree) → total_of f xs (tree_counts xs t) ≡ weigh f (λ d. count_of t d) xs
unfolding tree_counts
tree_total f [] t = refl
tree_total f (x ∷ xs) t = ap (λ n. f x * count_of t x.demand + n) (tree_total f xs t)

tree_within : (wants xs : List Want) (t : Tree) → HaveOwnDemands wants → IsWithinCounts wants t → ((x : Want) → Contains xs x → Contains wants x) → AreCounts xs (tree_counts xs t)
unfolding tree_counts
tree_within wants [] t own within sub = tt
tree_within wants (x ∷ xs) t own within sub = (
  omega (arith, within x.demand, of_demand_found (λ x. x.left) wants x own (sub x (Contains-head x xs))),
  tree_within wants xs t own within (λ y h. sub y (Contains-tail x xs y h)),
)

-- no legal tree within the counts is worth more than the best counts
pub tree_le_counts : (wants : List Want) (k w : ℕ) (ns : List ℕ) → HaveOwnDemands wants → AreBarWants wants → AreBestCounts k wants (w + k) ns
    → (t : Tree) → Legal wants k t w 1 → IsWithinCounts wants t → worth_of wants t ≤ worth_of_counts wants ns
tree_le_counts wants k w ns own bar best t legal within =
    let span = tree_total (λ x. x.size.w + k) wants t ∙ weigh-count (λ x. x.size.w + k) wants t own in
    let value = tree_total (λ x. x.worth) wants t ∙ weigh-count (λ x. x.worth) wants t own in
    let most = best.most (tree_counts wants t) (tree_within wants wants t own within (λ x h. h)) (omega (arith, span, bar_span wants k t w own bar legal)) in
    omega (arith, most, value)

-- a tree of a bar, by what its leaves add up to
abbrev Piled : List Want → ℕ → ℕ → ((ℕ → ℕ) → ℕ) → Type 0
Piled wants k w g = (t : Tree) × Legal wants k t w 1 × ((f : ℕ → ℕ) → leaf_sum f t ≡ g f)

many : (wants : List Want) (k : ℕ) (x : Want) → Contains wants x → x.size.h ≡ 1 → 1 ≤ x.size.w → (r : ℕ) (g : (ℕ → ℕ) → ℕ) → ((w : ℕ) → r ≤ w + k → Piled wants k w g)
    → (r ≤ k → (f : ℕ → ℕ) → g f ≡ 0) → (a w : ℕ) → (x.size.w + k) * a + r ≤ w + k → Piled wants k w (λ f. f x.demand * a + g f)
many wants k x has flat some r g after none zero w fit =
    let b = after w (omega arith) in
    (b.0, b.1, λ f. omega (arith, b.2 f))
many wants k x has flat some r g after none (suc a) w fit =
    elim (cases_lt (x.size.w + k) w) [
      | inl lt ↦
          let b = many wants k x has flat some r g after none a (w - x.size.w - k) (omega arith) in
          (Cut X x.size.w (Piece x.demand false) b.0, (some, lt, (x, has, refl, (refl, flat)), b.1), λ f. omega (arith, b.2 f))
      | inr ge ↦ last ge
    ]
  where
    here : Legal wants k (Piece x.demand false) x.size.w 1
    here = (x, has, refl, (refl, flat))

    no_more : w ≤ x.size.w + k → a ≡ 0
    no_more ge = elim (cases_lt 0 a) [
      | inl pos ↦ absurd (omega (arith, mul-le (x.size.w + k) 1 (x.size.w + k) a (le_refl (x.size.w + k)) pos))
      | inr z ↦ omega arith
    ]

    sums : w ≤ x.size.w + k → (f : ℕ → ℕ) → f x.demand ≡ f x.demand * suc a + g f
    sums ge f =
        let e : a ≡ 0 = no_more ge in
        let small : r ≤ k = omega arith in
        omega (arith, ap (λ n. f x.demand * n) e, none small f)

    last : w ≤ x.size.w + k → Piled wants k w (λ f. f x.demand * suc a + g f)
    last ge = elim (cases_lt x.size.w w) [
      | inl lt ↦ (Trim X x.size.w (Piece x.demand false), (some, lt, ge, here), λ f. sums ge f)
      | inr ge' ↦
          let e : x.size.w ≡ w = omega arith in
          (Piece x.demand false, (x, has, refl, (e, flat)), λ f. sums ge f)
    ]

span_none : (k : ℕ) (xs : List Want) (ns : List ℕ) → AreBarWants xs → span_taken k xs ns ≤ k → (g : Want → ℕ) → total_of g xs ns ≡ 0
span_none k [] ns bar fit g = refl
span_none k (x ∷ xs) [] bar fit g = refl
span_none k (x ∷ xs) (zero ∷ ns) bar fit g = omega (arith, span_none k xs ns (λ y h. bar y (Contains-tail x xs y h)) (omega arith) g)
span_none k (x ∷ xs) (suc a ∷ ns) bar fit g =
    absurd (omega (arith, mul-le (x.size.w + k) 1 (x.size.w + k) (suc a) (le_refl (x.size.w + k)) (omega arith), (bar x (Contains-head x xs)).some))

pub counts_tree : (wants : List Want) (k : ℕ) → AreBarWants wants → (xs : List Want) (ns : List ℕ) → ((x : Want) → Contains xs x → Contains wants x)
    → (w : ℕ) → span_taken k xs ns ≤ w + k → Piled wants k w (λ f. total_of (λ x. f x.demand) xs ns)
counts_tree wants k bar [] ns sub w fit = (Rest, tt, λ f. refl)
counts_tree wants k bar (x ∷ xs) [] sub w fit = (Rest, tt, λ f. refl)
counts_tree wants k bar (x ∷ xs) (a ∷ ns) sub w fit =
    let has = sub x (Contains-head x xs) in
    many wants k x has (bar x has).flat (bar x has).some (span_taken k xs ns) (λ f. total_of (λ x. f x.demand) xs ns)
    (λ v h. counts_tree wants k bar xs ns (λ y h. sub y (Contains-tail x xs y h)) v h)
    (λ h f. span_none k xs ns (λ y h. bar y (sub y (Contains-tail x xs y h))) h (λ x. f x.demand)) a w fit

total_absent : (d : ℕ) (xs : List Want) (ns : List ℕ) → ((y : Want) → Contains xs y → y.demand ≢ d) → total_of (λ x. cond (eqb x.demand d) 1 0) xs ns ≡ 0
total_absent d [] ns away = refl
total_absent d (x ∷ xs) [] away = refl
total_absent d (x ∷ xs) (a ∷ ns) away =
    let other : eqb x.demand d ≡ false = ne_eqb x.demand d (away x (Contains-head x xs)) in
    rw other (omega (arith, total_absent d xs ns (λ y h. away y (Contains-tail x xs y h))))

pub total_within : (d : ℕ) (xs : List Want) (ns : List ℕ) → HaveOwnDemands xs → AreCounts xs ns → total_of (λ x. cond (eqb x.demand d) 1 0) xs ns ≤ of_demand (λ x. x.left) xs d
total_within d [] ns own is = omega arith
total_within d (x ∷ xs) [] own is = absurd is
total_within d (x ∷ xs) (a ∷ ns) own is =
    elim (eqb_tells x.demand d) [
      | inl (t, e) ↦ rw t (omega (arith, is.0, total_absent d xs ns (λ y h q. own.0 y h (q ∙ sym e))))
      | inr (t, n) ↦ rw t (omega (arith, total_within d xs ns own.1 is.1))
    ]

pub total_same : (f g : Want → ℕ) (xs : List Want) (ns : List ℕ) → ((x : Want) → Contains xs x → f x ≡ g x) → total_of f xs ns ≡ total_of g xs ns
total_same f g [] ns same = refl
total_same f g (x ∷ xs) [] same = refl
total_same f g (x ∷ xs) (a ∷ ns) same =
    omega (arith, ap (λ n. n * a) (same x (Contains-head x xs)), total_same f g xs ns (λ y h. same y (Contains-tail x xs y h)))

-- the best counts are worth the best legal tree within the counts
pub counts_best : (wants : List Want) (k w : ℕ) (ns : List ℕ) → HaveOwnDemands wants → AreBarWants wants → AreBestCounts k wants (w + k) ns → IsBestWithin wants k w 1 (worth_of_counts wants ns)
counts_best wants k w ns own bar best = record {
  found =
      let b = counts_tree wants k bar wants ns (λ x h. h) w best.fit in (
        b.0,
        (b.1, λ d. omega (arith, b.2 (λ e. cond (eqb e d) 1 0), total_within d wants ns own best.within)),
        b.2 (of_demand (λ x. x.worth) wants) ∙ total_same (λ x. of_demand (λ x. x.worth) wants x.demand) (λ x. x.worth) wants ns (λ x h. of_demand_found (λ x. x.worth) wants x own h),
      );
  most = λ t ok. tree_le_counts wants k w ns own bar best t ok.0 ok.1;
}

-- a tree with these counts of leaves is within the counts, and has their value
pub counted_within : (wants : List Want) (ns : List ℕ) (t : Tree) → HaveOwnDemands wants → AreCounts wants ns → ((f : ℕ → ℕ) → leaf_sum f t ≡ total_of (λ x. f x.demand) wants ns)
    → IsWithinCounts wants t
counted_within wants ns t own few sums = λ d. omega (arith, sums (λ e. cond (eqb e d) 1 0), total_within d wants ns own few)

pub counted_value : (wants : List Want) (ns : List ℕ) (t : Tree) → HaveOwnDemands wants → ((f : ℕ → ℕ) → leaf_sum f t ≡ total_of (λ x. f x.demand) wants ns) → worth_of wants t ≡ worth_of_counts wants ns
counted_value wants ns t own sums =
    sums (of_demand (λ x. x.worth) wants) ∙ total_same (λ x. of_demand (λ x. x.worth) wants x.demand) (λ x. x.worth) wants ns (λ x h. of_demand_found (λ x. x.worth) wants x own h)
