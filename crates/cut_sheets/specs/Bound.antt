-- Lists of cut units that make what is left of each want.
use Rattle.std.specs.Prelude.{◌≡◌, ℕ, ◌+◌, ◌*◌, List, [], ◌∷◌, sum_by}
use Rattle.cut_wants.specs.declared.wants.Want.{Want}
use Rattle.cut_tree.specs.Tree.{Tree, count_of}
use Rattle.cut_wants.specs.Legal.{Legal, of_demand}

abbrev pub AllLegal : List Want → ℕ → ℕ → ℕ → List Tree → Type 0
AllLegal wants k w h [] = Unit {0}
AllLegal wants k w h (t ∷ ts) = Legal wants k t w h × AllLegal wants k w h ts

-- how many leaves of a demand the trees have together
abbrev pub total_count : List Tree → ℕ → ℕ
total_count [] d = 0
total_count (t ∷ ts) d = count_of t d + total_count ts d

pub record Meets (wants : List Want) (k w h : ℕ) (trees : List Tree) : Type 0 where
  pub legal : AllLegal wants k w h trees
  pub exact : (d : ℕ) → total_count trees d ≡ of_demand (λ x. x.left) wants d

-- what all that is left is worth
abbrev pub worth_left : List Want → ℕ
worth_left wants = sum_by (λ x. x.worth * x.left) wants
