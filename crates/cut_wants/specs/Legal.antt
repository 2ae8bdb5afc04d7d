-- Legal cuttings of one unit, their worth, and the counts of the wants.
use Rattle.std.specs.Prelude.{◌≡◌, ◌≢◌, ℕ, ◌≤◌, Bool, true, false, IsTrue, List, [], ◌∷◌, ◌==◌, if◌then◌else◌, Contains}
use Rattle.cut_tree.specs.Tree.{Tree, CutsInto, leaf_sum, count_of}
use Rattle.cut_wants.specs.declared.wants.Want.{Want}

-- the want has these sides, turned where it may be
abbrev pub HasSides : Want → Bool → ℕ → ℕ → Type 0
HasSides x false w h = (x.size.w ≡ w) × (x.size.h ≡ h)
HasSides x true w h = IsTrue x.may_turn × (x.size.h ≡ w) × (x.size.w ≡ h)

-- one of the wants has the demand's number and these sides
abbrev pub IsWantedPiece : List Want → ℕ → Bool → ℕ → ℕ → Type 0
IsWantedPiece wants demand turned w h = (x : Want) × Contains wants x × (x.demand ≡ demand) × HasSides x turned w h

-- the tree cuts a rectangle of w by h with a saw of width k, and each piece leaf has the sides of a want with its demand
abbrev pub Legal : List Want → (kerf : ℕ) → Tree → (w h : ℕ) → Type 0
Legal wants k tree w h = CutsInto (IsWantedPiece wants) tree w h k

-- a number of the want with this demand, 0 where there is none
abbrev pub of_demand : (Want → ℕ) → List Want → ℕ → ℕ
of_demand f [] demand = 0
of_demand f (x ∷ xs) demand = if x.demand == demand then f x else of_demand f xs demand

-- the worth of a tree: that of its piece leaves' wants, added up
abbrev pub worth_of : List Want → Tree → ℕ
worth_of wants tree = leaf_sum (of_demand (λ x. x.worth) wants) tree

-- at most `left` leaves of each want, and no others
abbrev pub IsWithinCounts : List Want → Tree → Type 0
IsWithinCounts wants tree = (demand : ℕ) → count_of tree demand ≤ of_demand (λ x. x.left) wants demand

-- no demand stands twice
abbrev pub HaveOwnDemands : List Want → Type 0
HaveOwnDemands [] = Unit {0}
HaveOwnDemands (x ∷ xs) = ((y : Want) → Contains xs y → y.demand ≢ x.demand) × HaveOwnDemands xs

-- how many piece leaves a tree has
abbrev pub leaf_count : Tree → ℕ
leaf_count tree = leaf_sum (λ _. 1) tree
