-- How many pieces of each want a bar gives, in the order of the wants.
use Rattle.std.specs.Prelude.{◌≡◌, ℕ, ◌+◌, ◌*◌, ◌^◌, ◌≤◌, List, [], ◌∷◌, Contains, false}
use Rattle.cut_wants.specs.declared.wants.Want.{Want}

-- a count for each want, at most what is left
abbrev pub AreCounts : List Want → List ℕ → Type 0
AreCounts [] [] = Unit {0}
AreCounts [] (a ∷ ns) = ⊥
AreCounts (x ∷ xs) [] = ⊥
AreCounts (x ∷ xs) (a ∷ ns) = (a ≤ x.left) × AreCounts xs ns

abbrev pub total_of : (Want → ℕ) → List Want → List ℕ → ℕ
total_of f [] ns = 0
total_of f (x ∷ xs) [] = 0
total_of f (x ∷ xs) (a ∷ ns) = f x * a + total_of f xs ns

-- what the pieces take, each with a kerf
abbrev pub span_taken : ℕ → List Want → List ℕ → ℕ
span_taken k wants counts = total_of (λ x. x.size.w + k) wants counts

abbrev pub worth_of_counts : List Want → List ℕ → ℕ
worth_of_counts wants counts = total_of (λ x. x.worth) wants counts

-- no counts that fit are worth more
pub record AreBestCounts (k : ℕ) (wants : List Want) (span : ℕ) (counts : List ℕ) : Type 0 where
  pub within : AreCounts wants counts
  pub fit : span_taken k wants counts ≤ span
  pub most : (others : List ℕ) → AreCounts wants others → span_taken k wants others ≤ span → worth_of_counts wants others ≤ worth_of_counts wants counts

-- a worth and a number in the bounds of a bar's table
pub record HasBoundedWorthAndLeft (x : Want) : Type 0 where
  pub worth : x.worth ≤ 2 ^ 30
  pub left : x.left ≤ 2 ^ 20

abbrev pub HaveBoundedWorthsAndLefts : List Want → Type 0
HaveBoundedWorthsAndLefts wants = (x : Want) → Contains wants x → HasBoundedWorthAndLeft x

-- each has some length
abbrev pub HaveLength : List Want → Type 0
HaveLength wants = (x : Want) → Contains wants x → 1 ≤ x.size.w

-- a piece of a bar: flat, and not to be turned
pub record IsUprightOfHeightOne (x : Want) : Type 0 where
  pub flat : x.size.h ≡ 1
  pub upright : x.may_turn ≡ false

abbrev pub AreUprightOfHeightOne : List Want → Type 0
AreUprightOfHeightOne wants = (x : Want) → Contains wants x → IsUprightOfHeightOne x
