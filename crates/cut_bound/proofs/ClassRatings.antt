-- Wants that a table over classes counts, and classes in which nothing is priced.
use Rattle.std.proofs.Common.{◌≡◌, ℕ, zero, suc, ◌+◌, ◌-◌, ◌*◌, ◌<◌, ◌≤◌, Bool, true, false, List, [], ◌∷◌, length, get_or, Option, Some, None, refl, sym, ap, subst, ◌∙◌, inl, inr, arith}
use Rattle.std.specs.Prelude.{Contains, if◌then◌else◌, nat_lt}
use Rattle.std.proofs.lemmas.List.Sums.{sum_by-cons}
use Rattle.cut_measure.specs.declared.sizes.Kind.{Kind}
use Rattle.cut_measure.specs.declared.sizes.Kind.TheVariants.{Bar, Sheet}
use Rattle.cut_measure.specs.Measures.{Size}
use Rattle.cut_wants.specs.declared.wants.Want.{Want}
use Rattle.cut_wants.specs.Legal.{HaveOwnDemands}
use Rattle.cut_wants.proofs.LeafSums.{Contains-cases, Contains-head, Contains-tail}
use Rattle.cut_sheets.specs.Bound.{worth_left}
use Rattle.cut_classes.specs.Classes.{Classes}
use Rattle.cut_classes.specs.Grids.{AreUsable, counted, is_counted}
use Rattle.cut_bound.specs.declared.stock.StockSize.{StockSize}
use Rattle.cut_bound.specs.Prices.{ArePicked, IsPickedWant}
use Rattle.cut_bound.specs.UnitBounds.{IsClassBound, wants_in_bound}

-- ---- counted wants

counted_by : (b : Bool) (x : Want) (others xs : List Want) (y : Want) → ((z : Want) → Contains others z → Contains xs z) → Contains (if b then x ∷ others else others) y → Contains (x ∷ xs) y
counted_by false x others xs y below has = Contains-tail x xs y (below y has)
counted_by true x others xs y below has = elim (Contains-cases x others y has) [
  | inl same ↦ subst (λ z. Contains (x ∷ xs) z) same (Contains-head x xs)
  | inr h ↦ Contains-tail x xs y (below y h)
]

counted_within : (k : ℕ) (xs ys : Classes) (wants : List Want) (x : Want) → Contains (counted k xs ys wants) x → Contains wants x
counted_within k xs ys [] x has = has
counted_within k xs ys (y ∷ wants) x has = counted_by (is_counted k xs ys y) y (counted k xs ys wants) wants x (λ z h. counted_within k xs ys wants z h) has

own_by : (b : Bool) (x : Want) (others : List Want) → ((y : Want) → Contains others y → y.demand ≡ x.demand → ⊥) → HaveOwnDemands others → HaveOwnDemands (if b then x ∷ others else others)
own_by false x others other own = own
own_by true x others other own = (other, own)

counted_own : (k : ℕ) (xs ys : Classes) (wants : List Want) → HaveOwnDemands wants → HaveOwnDemands (counted k xs ys wants)
counted_own k xs ys [] own = own
counted_own k xs ys (x ∷ wants) own =
    own_by (is_counted k xs ys x) x (counted k xs ys wants) (λ y has. own.0 y (counted_within k xs ys wants y has)) (counted_own k xs ys wants own.1)

less_by : (b : Bool) (x : Want) (others wants : List Want) → worth_left others ≤ worth_left wants → worth_left (if b then x ∷ others else others) ≤ worth_left (x ∷ wants)
less_by false x others wants le = omega (arith, le, sum_by-cons (λ (y : Want). y.worth * y.left) x wants)
less_by true x others wants le = omega (arith, le, sum_by-cons (λ (y : Want). y.worth * y.left) x wants, sum_by-cons (λ (y : Want). y.worth * y.left) x others)

pub counted_less : (k : ℕ) (xs ys : Classes) (wants : List Want) → worth_left (counted k xs ys wants) ≤ worth_left wants
counted_less k xs ys [] = omega arith
counted_less k xs ys (x ∷ wants) = less_by (is_counted k xs ys x) x (counted k xs ys wants) wants (counted_less k xs ys wants)

pub bounded_own : (kind : Kind) (k : ℕ) (step : Option ℕ) (xs ys : Classes) (wants : List Want) → HaveOwnDemands wants → HaveOwnDemands (wants_in_bound kind k step xs ys wants)
bounded_own Bar k step xs ys wants own = own
bounded_own Sheet k (Some s) xs ys wants own = own
bounded_own Sheet k None xs ys wants own = counted_own k xs ys wants own

picked_itself : (wants : List Want) → ArePicked wants wants
picked_itself wants x has = record { want = x; there = has; same = refl }

pub bounded_picked : (kind : Kind) (k : ℕ) (step : Option ℕ) (xs ys : Classes) (wants : List Want) → ArePicked wants (wants_in_bound kind k step xs ys wants)
bounded_picked Bar k step xs ys wants = picked_itself wants
bounded_picked Sheet k (Some s) xs ys wants = picked_itself wants
bounded_picked Sheet k None xs ys wants = λ x has. picked_itself wants x (counted_within k xs ys wants x has)

pub bounded_none : (kind : Kind) (k : ℕ) (step : Option ℕ) (xs ys : Classes) → wants_in_bound kind k step xs ys [] ≡ []
bounded_none Bar k step xs ys = refl
bounded_none Sheet k (Some s) xs ys = refl
bounded_none Sheet k None xs ys = refl

-- ---- classes that begin past all sizes

abbrev pub far : ℕ → List StockSize → ℕ
far k [] = 1
far k (z ∷ zs) = z.size.w + z.size.h + k + far k zs

pub far_some : (k : ℕ) (zs : List StockSize) → 1 ≤ far k zs
far_some k [] = omega arith
far_some k (z ∷ zs) = omega (arith, far_some k zs)

pub inside_far : (k : ℕ) (zs : List StockSize) (i : ℕ) (d : StockSize) → i < length zs → ((get_or zs i d).size.w + k < far k zs) × ((get_or zs i d).size.h + k < far k zs)
inside_far k [] i d lt = absurd (omega arith)
inside_far k (z ∷ zs) zero d lt = (omega (arith, far_some k zs), omega (arith, far_some k zs))
inside_far k (z ∷ zs) (suc i) d lt =
    let below = inside_far k zs i d (omega arith) in
    (omega (arith, below.0), omega (arith, below.1))

abbrev pub far_classes : ℕ → Classes
far_classes most = record { points = 0 ∷ most ∷ []; most = most }

pub far_usable : (most : ℕ) → 1 ≤ most → AreUsable (far_classes most)
far_usable most some = record {
  some = omega arith;
  none = refl;
  rising = rising;
  reached = omega arith;
  near = near;
}
  where
    rising : (i : ℕ) → i + 1 < 2 → get_or (0 ∷ most ∷ []) i 0 < get_or (0 ∷ most ∷ []) (i + 1) 0
    rising zero lt = omega (arith, some)
    rising (suc i) lt = absurd (omega (arith, lt))

    near : (i : ℕ) → i < 2 → (if nat_lt (i + 1) 2 then get_or (0 ∷ most ∷ []) (i + 1) 0 - 1 else most) < get_or (0 ∷ most ∷ []) i 0 + most
    near zero lt = omega (arith, some)
    near (suc zero) lt = omega (arith, some)
    near (suc (suc i)) lt = absurd (omega (arith, lt))

pub unrated_classes : (k most : ℕ) (size : Size) → size.w + k < most → size.h + k < most → IsClassBound [] k (far_classes most) (far_classes most) size 0
unrated_classes k most size wide high = record {
  table = λ i j. 0;
  least = record {
    ceiling = record {
      pieces = λ i j x turned il jl has span. absurd (omega (arith, has.1));
      across_cuts = λ i j a b il jl al bl parts. omega arith;
      down_cuts = λ i j a b il jl al bl parts. omega arith;
    };
    least = λ other is i j il jl. omega arith;
  };
  worth = record {
    i = 0;
    j = 0;
    in_across = record { there = omega arith; low = omega arith; high = omega (arith, wide); within = omega (arith, wide) };
    in_down = record { there = omega arith; low = omega arith; high = omega (arith, high); within = omega (arith, high) };
    read = refl;
  };
}
