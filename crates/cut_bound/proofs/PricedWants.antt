-- What the tables need holds of wants at prices.
use Rattle.std.proofs.Common.{◌≡◌, ℕ, ◌⊎◌, ◌+◌, ◌<◌, ◌≤◌, Bool, true, false, List, [], ◌∷◌, ◌++◌, length, drop, get_or, sym, refl, ap, subst, ◌∙◌, inl, inr, arith}
use Rattle.std.specs.Prelude.{Contains, ◌&&◌, not, nat_le, nat_lt, if◌then◌else◌}
use Rattle.std.proofs.lemmas.Bool.{and_parts, leb-true, ltb-true, not-true}
use Rattle.std.proofs.lemmas.List.{append-nil, drop_all, drop_more}
use Rattle.cut_measure.specs.declared.ranges.TheConstants.{MAX_WORTH}
use Rattle.cut_measure.specs.declared.sizes.Kind.{Kind}
use Rattle.cut_wants.specs.declared.wants.Want.{Want}
use Rattle.cut_wants.specs.Legal.{HaveOwnDemands}
use Rattle.cut_wants.proofs.LeafSums.{Contains-cases, Contains-head, Contains-tail}
use Rattle.cut_bound.specs.Prices.{ArePicked, IsPickedWant, at_price, has_price, is_below_step, priced}

-- a want of the priced ones is one of the wants, at a price that it has
pub record IsPricedWant (kind : Kind) (k s : ℕ) (wants : List Want) (x : Want) : Type 0 where
  pub picked : IsPickedWant wants x
  pub price : has_price kind k s picked.want x.worth ≡ true

-- one of the wants after the first is one of all
priced_tail : (kind : Kind) (k s : ℕ) (y : Want) (ys : List Want) (x : Want) → IsPricedWant kind k s ys x → IsPricedWant kind k s (y ∷ ys) x
priced_tail kind k s y ys x r =
    record { picked = record { want = r.picked.want; there = Contains-tail y ys r.picked.want r.picked.there; same = r.picked.same }; price = r.price }

each_by : (kind : Kind) (k s : ℕ) (y : Want) (ys others : List Want) (n : ℕ) (x : Want) → ((z : Want) → Contains others z → IsPricedWant kind k s ys z)
    → (b : Bool) → has_price kind k s y n ≡ b → Contains (if b then at_price y n ∷ others else others) x → IsPricedWant kind k s (y ∷ ys) x
each_by kind k s y ys others n x below false e h = priced_tail kind k s y ys x (below x h)
each_by kind k s y ys others n x below true e h =
    elim (Contains-cases (at_price y n) others x h) [
      | inl same ↦ subst (IsPricedWant kind k s (y ∷ ys)) same (record { picked = record { want = y; there = Contains-head y ys; same = refl }; price = e })
      | inr h' ↦ priced_tail kind k s y ys x (below x h')
    ]

pub each_priced : (kind : Kind) (k s : ℕ) (xs : List Want) (ns : List ℕ) (x : Want) → Contains (priced kind k s xs ns) x → IsPricedWant kind k s xs x
each_priced kind k s [] ns x has = absurd (omega (arith, has.1))
each_priced kind k s (y ∷ ys) [] x has = absurd (omega (arith, has.1))
each_priced kind k s (y ∷ ys) (n ∷ ns) x has =
    each_by kind k s y ys (priced kind k s ys ns) n x (λ z h. each_priced kind k s ys ns z h) (has_price kind k s y n) refl has

pub priced_picked : (kind : Kind) (k s : ℕ) (xs : List Want) (ns : List ℕ) → ArePicked xs (priced kind k s xs ns)
priced_picked kind k s xs ns x has = (each_priced kind k s xs ns x has).picked

own_by : (x : Want) (xs others : List Want) (n : ℕ) → HaveOwnDemands (x ∷ xs) → ArePicked xs others → HaveOwnDemands others → (b : Bool) → HaveOwnDemands (if b then at_price x n ∷ others else others)
own_by x xs others n own are below false = below
own_by x xs others n own are below true = (
  λ y has q.
      let p = are y has in
      own.0 p.want p.there (sym (ap (λ (z : Want). z.demand) p.same) ∙ q),
  below,
)

pub priced_own : (kind : Kind) (k s : ℕ) (xs : List Want) (ns : List ℕ) → HaveOwnDemands xs → HaveOwnDemands (priced kind k s xs ns)
priced_own kind k s [] ns own = tt
priced_own kind k s (x ∷ xs) [] own = tt
priced_own kind k s (x ∷ xs) (n ∷ ns) own =
    own_by x xs (priced kind k s xs ns) n own (priced_picked kind k s xs ns) (priced_own kind k s xs ns own.1) (has_price kind k s x n)

few_by : (x : Want) (others : List Want) (n most : ℕ) (b : Bool) → length others ≤ most → length (if b then at_price x n ∷ others else others) ≤ most + 1
few_by x others n most false few = omega (arith, few)
few_by x others n most true few = omega (arith, few)

pub priced_few : (kind : Kind) (k s : ℕ) (xs : List Want) (ns : List ℕ) → length (priced kind k s xs ns) ≤ length xs
priced_few kind k s [] ns = omega arith
priced_few kind k s (x ∷ xs) [] = omega arith
priced_few kind k s (x ∷ xs) (n ∷ ns) = omega (arith, few_by x (priced kind k s xs ns) n (length xs) (has_price kind k s x n) (priced_few kind k s xs ns))

-- what it is that a number is a price
pub record IsPrice (kind : Kind) (k s : ℕ) (x : Want) (n : ℕ) : Type 0 where
  pub some : 1 ≤ n
  pub most : n ≤ MAX_WORTH
  pub stepped : is_below_step kind k s x ≡ false

pub is_price : (kind : Kind) (k s : ℕ) (x : Want) (n : ℕ) → has_price kind k s x n ≡ true → IsPrice kind k s x n
is_price kind k s x n e =
    let a = and_parts (nat_lt 0 n && nat_le n MAX_WORTH) (not (is_below_step kind k s x)) e in
    let b = and_parts (nat_lt 0 n) (nat_le n MAX_WORTH) a.0 in
    let some : 0 < n = ltb-true 0 n b.0 in
    let most : n ≤ MAX_WORTH = leb-true n MAX_WORTH b.1 in
    record { some = omega arith; most = most; stepped = not-true (is_below_step kind k s x) a.1 }

-- ---- one more want

pub priced_none : (kind : Kind) (k s : ℕ) (xs : List Want) → priced kind k s xs [] ≡ []
priced_none kind k s [] = refl
priced_none kind k s (x ∷ xs) = refl

pub priced_at : (kind : Kind) (k s : ℕ) (xs : List Want) (ns : List ℕ) (i : ℕ) (d : Want) (e : ℕ) → i < length xs → i < length ns
    → priced kind k s (drop i xs) (drop i ns)
    ≡ (if has_price kind k s (get_or xs i d) (get_or ns i e) then at_price (get_or xs i d) (get_or ns i e) ∷ priced kind k s (drop (i + 1) xs) (drop (i + 1) ns)
    else priced kind k s (drop (i + 1) xs) (drop (i + 1) ns))
priced_at kind k s xs ns i d e lt lt' = ap (λ ys. priced kind k s ys (drop i ns)) (drop_more xs i d lt) ∙ ap (λ ms. priced kind k s (get_or xs i d ∷ drop (i + 1) xs) ms) (drop_more ns i e lt')

-- at the end of either list nothing is left
pub priced_end : (kind : Kind) (k s : ℕ) (xs ys : List Want) (ns : List ℕ) (i : ℕ) → (length xs ≤ i) ⊎ (length ns ≤ i) → ys ++ priced kind k s (drop i xs) (drop i ns) ≡ priced kind k s xs ns
    → ys ≡ priced kind k s xs ns
priced_end kind k s xs ys ns i (inl all) whole =
    sym (append-nil ys) ∙ ap (λ (zs : List Want). ys ++ priced kind k s zs (drop i ns)) (sym (drop_all i xs all)) ∙ whole
priced_end kind k s xs ys ns i (inr all) whole =
    sym (append-nil ys) ∙ ap (λ (zs : List Want). ys ++ zs) (sym (priced_none kind k s (drop i xs))) ∙ ap (λ (ms : List ℕ). ys ++ priced kind k s (drop i xs) ms) (sym (drop_all i ns all)) ∙ whole
