-- Rows of numbers, read as lists of their worths, and a number that is put into one.
use Rattle.std.proofs.Common.{◌≡◌, ◌≢◌, ℕ, ◌<◌, List, length, get_or, map, sym, ap, ◌∙◌, arith}
use Rattle.std.specs.Prelude.{slice_set}
use Rattle.std.proofs.lemmas.List.{get_or-map, get_or-set_other, get_or-set_same, length-map, length-set, map-set}

pub set_other : (row : List ℕ) (p v k : ℕ) → k ≢ p → get_or (slice_set row p v) k 0 ≡ get_or row k 0
set_other row p v k ne = get_or-set_other row p k v 0 ne

pub set_here : (row : List ℕ) (p v k : ℕ) → p < length row → k ≡ p → get_or (slice_set row p v) k 0 ≡ v
set_here row p v k lt e = ap (λ j. get_or (slice_set row p v) j 0) e ∙ get_or-set_same row p v 0 lt

module _ {T : Type 0} (f : T → ℕ) where
  pub value_at : (xs : List T) (i : ℕ) (x : T) → i < length xs → x ≡ get_or xs i x → f x ≡ get_or (map f xs) i 0
  value_at xs i x lt is = ap f is ∙ sym (get_or-map f xs i x 0 lt)

  pub same_length : (xs : List T) → length (map f xs) ≡ length xs
  same_length xs = length-map xs f

  pub value_set : (xs : List T) (i k v : ℕ) (x : T) → i < length xs → f x ≡ v → k ≡ i → get_or (map f (slice_set xs i x)) k 0 ≡ v
  value_set xs i k v x lt is e =
      ap (λ ys. get_or ys k 0) (map-set f xs i x) ∙ set_here (map f xs) i (f x) k (omega (arith, same_length xs)) e ∙ is

  pub value_others : (xs : List T) (i k : ℕ) (x : T) → k ≢ i → get_or (map f (slice_set xs i x)) k 0 ≡ get_or (map f xs) k 0
  value_others xs i k x ne = ap (λ ys. get_or ys k 0) (map-set f xs i x) ∙ set_other (map f xs) i (f x) k ne

  pub set_length : (xs : List T) (i : ℕ) (x : T) → length (map f (slice_set xs i x)) ≡ length (map f xs)
  set_length xs i x = same_length (slice_set xs i x) ∙ length-set xs i x ∙ sym (same_length xs)
