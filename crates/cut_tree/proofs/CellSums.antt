-- Sums over cells, and the marks of a rectangle.
use Rattle.std.proofs.Common.{◌≡◌, ℕ, zero, suc, ◌+◌, ◌-◌, ◌*◌, ◌<◌, ◌≤◌, min, Bool, true, false, cond, refl, ap, ◌∙◌, arith, inl, inr, lt-ltb, mul_assoc}
use Rattle.std.proofs.Math.Dec.{ltb}
use Rattle.std.proofs.lemmas.Bool.{cases_lt, le-ltb}
use Rattle.cut_tree.specs.Counting.{sum_below}

abbrev pub bit : Bool → ℕ
bit b = cond b 1 0

-- the sum of f over the cells of w by h
abbrev pub sum_cells : (ℕ → ℕ → ℕ) → ℕ → ℕ → ℕ
sum_cells f w h = sum_below (λ y. sum_below (λ x. f x y) w) h

pub sum_below-same : (f g : ℕ → ℕ) (n : ℕ) → ((i : ℕ) → i < n → f i ≡ g i) → sum_below f n ≡ sum_below g n
sum_below-same f g zero same = refl
sum_below-same f g (suc n) same =
    let last : f n ≡ g n = same n (omega arith) in
    let prefix : sum_below f n ≡ sum_below g n = sum_below-same f g n (λ i l. same i (omega arith)) in
    omega (arith, last, prefix)

sum_below-add : (f g : ℕ → ℕ) (n : ℕ) → sum_below (λ i. f i + g i) n ≡ sum_below f n + sum_below g n
sum_below-add f g zero = refl
sum_below-add f g (suc n) = omega (arith, sum_below-add f g n)

sum_below-zero : (n : ℕ) → sum_below (λ i. 0) n ≡ 0
sum_below-zero zero = refl
sum_below-zero (suc n) = omega (arith, sum_below-zero n)

sum_below-times : (c : ℕ) (f : ℕ → ℕ) (n : ℕ) → sum_below (λ i. c * f i) n ≡ c * sum_below f n
sum_below-times c f zero = omega arith
sum_below-times c f (suc n) = omega (arith, sum_below-times c f n)

-- 1 inside an interval, else 0
abbrev pub within : ℕ → ℕ → ℕ → ℕ
within low len i = cond (ltb i low) 0 (cond (ltb i (low + len)) 1 0)

within_in : (low len i : ℕ) → low ≤ i → i < low + len → within low len i ≡ 1
within_in low len i l r = rw (le-ltb i low l, lt-ltb i (low + len) r) refl

within_before : (low len i : ℕ) → i < low → within low len i ≡ 0
within_before low len i l = rw (lt-ltb i low l) refl

within_after : (low len i : ℕ) → low ≤ i → low + len ≤ i → within low len i ≡ 0
within_after low len i l r = rw (le-ltb i low l, le-ltb i (low + len) r) refl

sum_below-within : (low len n : ℕ) → sum_below (within low len) n ≡ min len (n - low)
sum_below-within low len zero = omega arith
sum_below-within low len (suc n) =
    let prefix : sum_below (within low len) n ≡ min len (n - low) = sum_below-within low len n in
    elim (cases_lt n low) [
      | inl before ↦ (let e : within low len n ≡ 0 = within_before low len n before in omega (arith, prefix, e))
      | inr from ↦ elim (cases_lt n (low + len)) [
        | inl in' ↦ (let e : within low len n ≡ 1 = within_in low len n from in' in omega (arith, prefix, e))
        | inr after ↦ (let e : within low len n ≡ 0 = within_after low len n from after in omega (arith, prefix, e))
      ]
    ]

pub sum_cells-same : (f g : ℕ → ℕ → ℕ) (w h : ℕ) → ((x y : ℕ) → x < w → y < h → f x y ≡ g x y) → sum_cells f w h ≡ sum_cells g w h
sum_cells-same f g w h same =
    sum_below-same (λ y. sum_below (λ x. f x y) w) (λ y. sum_below (λ x. g x y) w) h
    (λ y yh. sum_below-same (λ x. f x y) (λ x. g x y) w (λ x xw. same x y xw yh))

pub sum_cells-add : (f g : ℕ → ℕ → ℕ) (w h : ℕ) → sum_cells (λ x y. f x y + g x y) w h ≡ sum_cells f w h + sum_cells g w h
sum_cells-add f g w h =
    sum_below-same (λ y. sum_below (λ x. f x y + g x y) w) (λ y. sum_below (λ x. f x y) w + sum_below (λ x. g x y) w) h
    (λ y yh. sum_below-add (λ x. f x y) (λ x. g x y) w)
    ∙ sum_below-add (λ y. sum_below (λ x. f x y) w) (λ y. sum_below (λ x. g x y) w) h

pub sum_cells-zero : (w h : ℕ) → sum_cells (λ x y. 0) w h ≡ 0
sum_cells-zero w h =
    sum_below-same (λ y. sum_below (λ x. 0) w) (λ y. 0) h (λ y yh. sum_below-zero w) ∙ sum_below-zero h

-- 1 at the cells of w by h at (left, top), if it is asked for, else 0
abbrev pub mark : Bool → (left top w h x y : ℕ) → ℕ
mark b left top w h x y = (bit b * within top h y) * within left w x

turned : (c b n : ℕ) → (c * b) * n ≡ (c * n) * b
turned c b n = grind arith

row_cells : (b : Bool) (n : ℕ) → bit b * n ≡ cond b n 0
row_cells true n = omega arith
row_cells false n = omega arith

pub sum_mark : (b : Bool) (left top p q w h : ℕ) → left + p ≤ w → top + q ≤ h → sum_cells (mark b left top p q) w h ≡ cond b (p * q) 0
sum_mark b left top p q w h wide high =
    let line : sum_below (within left p) w ≡ p = omega (arith, sum_below-within left p w) in
    let column : sum_below (within top q) h ≡ q = omega (arith, sum_below-within top q h) in
    sum_below-same (λ y. sum_below (λ x. mark b left top p q x y) w) (λ y. (bit b * p) * within top q y) h
    (λ y yh. sum_below-times (bit b * within top q y) (within left p) w ∙ ap (λ n. (bit b * within top q y) * n) line ∙ turned (bit b) (within top q y) p)
    ∙ sum_below-times (bit b * p) (within top q) h
    ∙ ap (λ n. (bit b * p) * n) column
    ∙ mul_assoc (bit b) p q
    ∙ row_cells b (p * q)

-- a rectangle marks the cells that it has, and no others
pub mark_in : (b : Bool) (left top w h x y : ℕ) → left ≤ x → x < left + w → top ≤ y → y < top + h → mark b left top w h x y ≡ bit b
mark_in b left top w h x y l r t d =
    ap (λ n. (bit b * within top h y) * n) (within_in left w x l r) ∙ ap (λ n. (bit b * n) * 1) (within_in top h y t d)
    ∙ (let n : ℕ = bit b in let e : (n * 1) * 1 ≡ n = omega arith in e)

no_mark : (m n : ℕ) → (0 * m) * n ≡ 0
no_mark m n = omega arith

pub mark_out : (b : Bool) (left top w h x y : ℕ) → (b ≡ true → left ≤ x → x < left + w → top ≤ y → y < top + h → ⊥) → mark b left top w h x y ≡ 0
mark_out false left top w h x y out = no_mark (within top h y) (within left w x)
mark_out true left top w h x y out =
    let b : ℕ = bit true in
    let zero_x : within left w x ≡ 0 → mark true left top w h x y ≡ 0 = λ e. (ap (λ n. (b * within top h y) * n) e ∙ (let z : (b * within top h y) * 0 ≡ 0 = omega arith in z)) in
    let zero_y : within top h y ≡ 0 → mark true left top w h x y ≡ 0 = λ e. (ap (λ n. (b * n) * within left w x) e ∙ (let z : (b * 0) * within left w x ≡ 0 = omega arith in z)) in
    elim (cases_lt x left) [
      | inl l ↦ zero_x (within_before left w x l)
      | inr l ↦ elim (cases_lt x (left + w)) [
        | inr k ↦ zero_x (within_after left w x l k)
        | inl k ↦ elim (cases_lt y top) [
          | inl m ↦ zero_y (within_before top h y m)
          | inr m ↦ elim (cases_lt y (top + h)) [
            | inr j ↦ zero_y (within_after top h y m j)
            | inl j ↦ absurd (out refl l k m j)
          ]
        ]
      ]
    ]
