-- Where the steps of a tree lie, by the numbers of its nodes.
use Rattle.std.proofs.Common.{◌≡◌, ℕ, zero, suc, ◌+◌, ◌-◌, ◌≤◌, ◌<◌, List, [], ◌∷◌, ◌++◌, length, refl, ap, ◌∙◌, arith, length-append}
use Rattle.std.specs.Prelude.{slice_get, Some, nat_lt}
use Rattle.std.proofs.lemmas.Bool.{ltb-true, ltb-false}
use Rattle.std.proofs.lemmas.Bool.{cond_both}
use Rattle.cut_measure.specs.declared.sizes.Axis.TheVariants.{X, Y}
use Rattle.cut_tree.specs.Tree.{Tree, Piece, Rest, Trim, Cut, node_count}
use Rattle.cut_tree.specs.Stepping.{first_token, step_at, AreSteps}
use Rattle.cut_tree.specs.StepRows.{steps_of}

get-left : {A : Type 0} (xs ys : List A) (i : ℕ) → i < length xs → slice_get (xs ++ ys) i ≡ slice_get xs i
get-left [] ys i h = absurd (omega arith)
get-left (x ∷ xs) ys zero h = refl
get-left (x ∷ xs) ys (suc i) h = get-left xs ys i (omega arith)

get-right : {A : Type 0} (xs ys : List A) (i j : ℕ) → i ≡ length xs + j → slice_get (xs ++ ys) i ≡ slice_get ys j
get-right [] ys i j e = let same : i ≡ j = omega arith in ap (slice_get ys) same
get-right (x ∷ xs) ys zero j e = absurd (omega arith)
get-right (x ∷ xs) ys (suc i) j e = get-right xs ys i j (omega arith)

pub length-steps_of : (t : Tree) (x y w h k n : ℕ) → length (steps_of t x y w h k n) ≡ node_count t
length-steps_of (Piece d b) x y w h k n = refl
length-steps_of Rest x y w h k n = refl
length-steps_of (Trim X a f) x y w h k n = omega (arith, length-steps_of f x y a h k (n + 1))
length-steps_of (Trim Y a f) x y w h k n = omega (arith, length-steps_of f x y w a k (n + 1))
length-steps_of (Cut X a f s) x y w h k n =
    omega (
      arith,
      length-append (steps_of f x y a h k (n + 1)) (steps_of s (x + a + k) y (w - a - k) h k (n + 1 + node_count f)),
      length-steps_of f x y a h k (n + 1),
      length-steps_of s (x + a + k) y (w - a - k) h k (n + 1 + node_count f),
    )
length-steps_of (Cut Y a f s) x y w h k n =
    omega (
      arith,
      length-append (steps_of f x y w a k (n + 1)) (steps_of s x (y + a + k) w (h - a - k) k (n + 1 + node_count f)),
      length-steps_of f x y w a k (n + 1),
      length-steps_of s x (y + a + k) w (h - a - k) k (n + 1 + node_count f),
    )

first_step : (t : Tree) (x y w h k n m : ℕ) → n ≡ m → slice_get (steps_of t x y w h k n) 0 ≡ Some (step_at t x y w h k 0 m)
first_step (Piece d b) x y w h k n m e = ap (λ z. Some (record { node = z; x = x; y = y; w = w; h = h; what = first_token (Piece d b) })) e
first_step Rest x y w h k n m e = ap (λ z. Some (record { node = z; x = x; y = y; w = w; h = h; what = first_token Rest })) e
first_step (Trim X a f) x y w h k n m e = ap (λ z. Some (record { node = z; x = x; y = y; w = w; h = h; what = first_token (Trim X a f) })) e
first_step (Trim Y a f) x y w h k n m e = ap (λ z. Some (record { node = z; x = x; y = y; w = w; h = h; what = first_token (Trim Y a f) })) e
first_step (Cut X a f s) x y w h k n m e = ap (λ z. Some (record { node = z; x = x; y = y; w = w; h = h; what = first_token (Cut X a f s) })) e
first_step (Cut Y a f s) x y w h k n m e = ap (λ z. Some (record { node = z; x = x; y = y; w = w; h = h; what = first_token (Cut Y a f s) })) e

-- the step of the node that has place i in the tree, and number m among all
pub get-steps_of : (t : Tree) (x y w h k n i m : ℕ) → i < node_count t → n + i ≡ m → slice_get (steps_of t x y w h k n) i ≡ Some (step_at t x y w h k i m)
get-steps_of t x y w h k n zero m inside e = first_step t x y w h k n m (omega arith)
get-steps_of (Piece d b) x y w h k n (suc i) m inside e = absurd (omega arith)
get-steps_of Rest x y w h k n (suc i) m inside e = absurd (omega arith)
get-steps_of (Trim X a f) x y w h k n (suc i) m inside e = get-steps_of f x y a h k (n + 1) i m (omega arith) (omega arith)
get-steps_of (Trim Y a f) x y w h k n (suc i) m inside e = get-steps_of f x y w a k (n + 1) i m (omega arith) (omega arith)
get-steps_of (Cut X a f s) x y w h k n (suc i) m inside e =
    let prefix = steps_of f x y a h k (n + 1) in
    let after = steps_of s (x + a + k) y (w - a - k) h k (n + 1 + node_count f) in
    cond_both (nat_lt i (node_count f)) _ _ (λ r. slice_get (prefix ++ after) i ≡ Some r)
    (λ near. get-left prefix after i (omega (arith, length-steps_of f x y a h k (n + 1), ltb-true i (node_count f) near)) ∙ get-steps_of f x y a h k (n + 1) i m (ltb-true i (node_count f) near) (omega arith))
    (λ beyond.
    let far : node_count f ≤ i = ltb-false i (node_count f) beyond in
    get-right prefix after i (i - node_count f) (omega (arith, length-steps_of f x y a h k (n + 1)))
    ∙ get-steps_of s (x + a + k) y (w - a - k) h k (n + 1 + node_count f) (i - node_count f) m (omega arith) (omega arith))
get-steps_of (Cut Y a f s) x y w h k n (suc i) m inside e =
    let prefix = steps_of f x y w a k (n + 1) in
    let after = steps_of s x (y + a + k) w (h - a - k) k (n + 1 + node_count f) in
    cond_both (nat_lt i (node_count f)) _ _ (λ r. slice_get (prefix ++ after) i ≡ Some r)
    (λ near. get-left prefix after i (omega (arith, length-steps_of f x y w a k (n + 1), ltb-true i (node_count f) near)) ∙ get-steps_of f x y w a k (n + 1) i m (ltb-true i (node_count f) near) (omega arith))
    (λ beyond.
    let far : node_count f ≤ i = ltb-false i (node_count f) beyond in
    get-right prefix after i (i - node_count f) (omega (arith, length-steps_of f x y w a k (n + 1)))
    ∙ get-steps_of s x (y + a + k) w (h - a - k) k (n + 1 + node_count f) (i - node_count f) m (omega arith) (omega arith))

pub all_steps : (t : Tree) (w h k : ℕ) → AreSteps t w h k (steps_of t 0 0 w h k 0)
all_steps t w h k = record {
  count = length-steps_of t 0 0 w h k 0;
  each = λ n inside. get-steps_of t 0 0 w h k 0 n n inside (omega arith);
}
