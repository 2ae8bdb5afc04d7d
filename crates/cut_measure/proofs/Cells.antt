-- How many cells a rectangle has.
use Rattle.std.proofs.Common.{◌≡◌, ℕ, zero, suc, ◌+◌, ◌*◌, List, [], ◌∷◌, length, map, refl, ap, ◌∙◌, arith, length-append}
use Rattle.std.specs.Prelude.{sum_by}
use Rattle.std.proofs.lemmas.List.{length-map}
use Rattle.std.proofs.lemmas.List.Sums.{sum_by-cons}
use Rattle.std.proofs.lemmas.List.Concat.{length-flat_map}
use Rattle.cut_measure.specs.Measures.{Size, below, cells_of}

pub length-below : (n : ℕ) → length (below n) ≡ n
length-below zero = refl
length-below (suc n) = omega (arith, length-append (below n) (n ∷ []), length-below n)

one_more : (a b n c : ℕ) → a ≡ c → b ≡ n * c → a + b ≡ suc n * c
one_more a b n c p q = omega arith

sum_by-constant : {X : Type 0} (f : X → ℕ) (c : ℕ) → ((x : X) → f x ≡ c) → (xs : List X) → sum_by f xs ≡ length xs * c
sum_by-constant f c same [] = omega arith
sum_by-constant f c same (x ∷ xs) = sum_by-cons f x xs ∙ one_more (f x) (sum_by f xs) (length xs) c (same x) (sum_by-constant f c same xs)

pub length-cells_of : (size : Size) → length (cells_of size) ≡ size.w * size.h
unfolding cells_of
length-cells_of size =
    length-flat_map (λ y. map (λ x. (x, y)) (below size.w)) (below size.h)
    ∙ sum_by-constant (λ y. length (map (λ (x : ℕ). (x, y)) (below size.w))) size.w (λ y. length-map (below size.w) (λ x. (x, y)) ∙ length-below size.w) (below size.h)
    ∙ ap (λ n. n * size.w) (length-below size.h) ∙ omega arith
