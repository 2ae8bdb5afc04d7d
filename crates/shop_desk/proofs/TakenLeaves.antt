-- Rows that are taken in turn, each after the others.
use Rattle.std.proofs.Common.{◌≡◌, ℕ, ◌+◌, ◌<◌, List, [], ◌∷◌, ◌++◌, length, map, take, get_or, sym, ap, ◌∙◌}
use Rattle.std.specs.Prelude.{All}
use Rattle.std.proofs.lemmas.List.{map-append, take_more}
use Rattle.std.proofs.lemmas.List.Elements.{All-append, All-cons, All-nil}

-- what holds of all holds with one more of which it does
pub one_more : {X : Type 0} (P : X → Type 0) (xs : List X) (x : X) → All P xs → P x → All P (xs ++ x ∷ [])
one_more P xs x all one = All-append P xs (x ∷ []) all (All-cons P x [] one (All-nil P))

-- one more is taken
pub more_taken : {X Y : Type 0} (f : X → Y) (xs : List X) (x : X) (ys : List Y) (i : ℕ) → i < length ys → map f xs ≡ take i ys → f x ≡ get_or ys i (f x)
    → map f (xs ++ x ∷ []) ≡ take (i + 1) ys
more_taken f xs x ys i lt before is =
    map-append f xs (x ∷ []) ∙ ap (λ zs. zs ++ f x ∷ []) before ∙ ap (λ y. take i ys ++ y ∷ []) is ∙ sym (take_more ys i (f x) lt)
