-- Wants at prices, which are a list of numbers beside them.
use Rattle.std.specs.Prelude.{◌≡◌, ℕ, ◌&&◌, not, nat_le, nat_lt, Bool, false, List, [], ◌∷◌, Contains, Option, if◌then◌else◌, unwrap_or}
use Rattle.cut_measure.specs.declared.ranges.TheConstants.{MAX_WORTH}
use Rattle.cut_measure.specs.declared.sizes.Kind.{Kind}
use Rattle.cut_measure.specs.declared.sizes.Kind.TheVariants.{Bar, Sheet}
use Rattle.cut_wants.specs.declared.wants.Want.{Want}
use Rattle.cut_plan.specs.Faults.{is_short}
use Rattle.cut_bound.specs.declared.prices.Price.{Price}

-- the step, or 0 where there is none
abbrev pub step_of : Option ℕ → ℕ
step_of step = unwrap_or step 0

-- a side of a sheet's want and a kerf are shorter than the step, so that rounded down they would be nothing; of 0 none is
abbrev pub is_below_step : Kind → (kerf step : ℕ) → Want → Bool
is_below_step Bar k s x = false
is_below_step Sheet k s x = is_short k s x

-- the number is a price, 1 to 1000000000, and the want's sides are steps
abbrev pub has_price : Kind → (kerf step : ℕ) → Want → ℕ → Bool
has_price kind k s x number = nat_lt 0 number && nat_le number MAX_WORTH && not (is_below_step kind k s x)

-- the want, its price in place of its worth
abbrev pub at_price : Want → ℕ → Want
at_price x price = record x { worth = price }

-- the wants that have a price, each at its price
abbrev pub priced : Kind → (kerf step : ℕ) → List Want → (numbers : List ℕ) → List Want
priced kind k s [] ns = []
priced kind k s (x ∷ xs) [] = []
priced kind k s (x ∷ xs) (n ∷ ns) = if has_price kind k s x n then at_price x n ∷ priced kind k s xs ns else priced kind k s xs ns

-- the price of a want that has one
abbrev pub price_of : Want → Price
price_of x = record { demand = x.demand; worth = x.worth }

-- each of the picked wants is one of the wants, at whatever worth
pub record IsPickedWant (wants : List Want) (x : Want) : Type 0 where
  pub want : Want
  pub there : Contains wants want
  pub same : x ≡ at_price want x.worth

abbrev pub ArePicked : (wants picked : List Want) → Type 0
ArePicked wants picked = (x : Want) → Contains picked x → IsPickedWant wants x
