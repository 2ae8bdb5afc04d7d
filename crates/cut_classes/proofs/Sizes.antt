-- The greatest side of sizes, found one by one.
use Rattle.std.proofs.Common.{◌≡◌, ℕ, ◌+◌, ◌<◌, ◌≤◌, List, length, take, take_all, get_or, sym, subst, ◌∙◌, ap, ◌++◌, ◌∷◌, [], arith}
use Rattle.std.specs.Prelude.{All}
use Rattle.std.proofs.lemmas.List.{take_more}
use Rattle.std.proofs.lemmas.List.Elements.{All-push, All-weaker}
use Rattle.cut_measure.specs.Measures.{Size}

pub most_next : (f : Size → ℕ) (sizes : List Size) (i most more : ℕ) (z : Size) → i < length sizes → z ≡ get_or sizes i z → most ≤ more → f z ≤ more → All (λ y. f y ≤ most) (take i sizes)
    → All (λ y. f y ≤ more) (take (i + 1) sizes)
most_next f sizes i most more z lt is le here before =
    subst (λ (ys : List Size). All (λ y. f y ≤ more) ys) (sym (take_more sizes i z lt ∙ ap (λ y. take i sizes ++ y ∷ []) (sym is)))
    (All-push (λ (y : Size). f y ≤ more) (take i sizes) z (All-weaker (λ (y : Size). f y ≤ most) (λ (y : Size). f y ≤ more) (λ y le'. omega (arith, le, le')) (take i sizes) before) here)

pub most_all : (f : Size → ℕ) (sizes : List Size) (i most : ℕ) → length sizes ≤ i → All (λ y. f y ≤ most) (take i sizes) → All (λ y. f y ≤ most) sizes
most_all f sizes i most all before = subst (λ (ys : List Size). All (λ y. f y ≤ most) ys) (take_all i sizes all) before
