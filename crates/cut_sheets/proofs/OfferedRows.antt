-- What is offered to a row of numbers, place by place.
use Rattle.std.proofs.Common.{◌≡◌, ◌≢◌, ℕ, ◌+◌, ◌-◌, ◌*◌, ◌<◌, ◌≤◌, List, length, length-append, get_or, map, take, drop, ◌++◌, min, max, refl, sym, ap, ◌∙◌, inl, inr, arith}
use Rattle.std.proofs.lemmas.Bool.{cases_lt, cases_eq}
use Rattle.std.specs.Prelude.{slice_set}
use Rattle.std.proofs.lemmas.List.{map-append, drop-map, take-map, get_or-take, get_or_append_left, get_or-append_right, get_or-drop}
use Rattle.std.proofs.lemmas.Grind.{get_or_after_one}
use Rattle.cut_sheets.specs.Table.{IsBelow, IsOfferedFrom}
use Rattle.cut_wants.proofs.NumberRows.{same_length, value_at, value_others, value_set}

-- the sums with the part n stand in front of the places after it
offered : (prefix back sums : List ℕ) (n reach v : ℕ) → length prefix ≡ n + 1 → reach ≡ min n (length back) → v ≡ get_or prefix n 0 → length sums ≡ reach
    → ((p : ℕ) → p < reach → get_or sums p 0 ≡ max (get_or back p 0) (v + get_or prefix (1 + p) 0))
    → IsOfferedFrom n (prefix ++ back) (prefix ++ (sums ++ drop reach back))
offered prefix back sums n reach v front_len is v_is sums_len each = record {
  same = λ k h. same k h;
  kept = λ k. elim (cases_lt n k) [
    | inr low ↦ omega (arith, same k low)
    | inl above ↦ elim (cases_lt (n + reach) k) [
      | inl far ↦ omega (arith, later k far)
      | inr near ↦ omega (arith, middle k above near, after k above)
    ]
  ];
  sums = λ a one an inside.
      let len = length-append prefix back in
      let near : n + a ≤ n + reach = omega arith in
      let above : n < n + a = omega arith in
      let whole_n : get_or (prefix ++ back) n 0 ≡ get_or prefix n 0 = get_or_append_left prefix back 0 n (omega arith) in
      let whole_a : get_or (prefix ++ back) a 0 ≡ get_or prefix a 0 = get_or_append_left prefix back 0 a (omega arith) in
      let part : get_or prefix (1 + (n + a - (n + 1))) 0 ≡ get_or prefix a 0 = let e : 1 + (n + a - (n + 1)) ≡ a = omega arith in ap (λ i. get_or prefix i 0) e in
      omega (arith, middle (n + a) above near, whole_n, whole_a, part);
  found = λ k more. elim (cases_lt n k) [
    | inr low ↦ absurd (omega (arith, same k low))
    | inl above ↦ elim (cases_lt (n + reach) k) [
      | inl far ↦ absurd (omega (arith, later k far))
      | inr near ↦
          let a : ℕ = k - n in
          let whole_n : get_or (prefix ++ back) n 0 ≡ get_or prefix n 0 = get_or_append_left prefix back 0 n (omega arith) in
          let whole_a : get_or (prefix ++ back) (k - n) 0 ≡ get_or prefix (k - n) 0 = get_or_append_left prefix back 0 (k - n) (omega arith) in
          let part : get_or prefix (1 + (k - (n + 1))) 0 ≡ get_or prefix (k - n) 0 = let e : 1 + (k - (n + 1)) ≡ k - n = omega arith in ap (λ i. get_or prefix i 0) e in
          (k - n, omega arith, omega arith, omega arith, omega (arith, middle k above near, after k above, whole_n, whole_a, part))
    ]
  ];
}
  where
    same : (k : ℕ) → k ≤ n → get_or (prefix ++ (sums ++ drop reach back)) k 0 ≡ get_or (prefix ++ back) k 0
    same k h = get_or_append_left prefix (sums ++ drop reach back) 0 k (omega arith) ∙ sym (get_or_append_left prefix back 0 k (omega arith))

    after : (k : ℕ) → n < k → get_or (prefix ++ back) k 0 ≡ get_or back (k - (n + 1)) 0
    after k above = get_or-append_right prefix back (n + 1) k 0 front_len (omega arith)

    middle : (k : ℕ) → n < k → k ≤ n + reach → get_or (prefix ++ (sums ++ drop reach back)) k 0
        ≡ max (get_or back (k - (n + 1)) 0) (v + get_or prefix (1 + (k - (n + 1))) 0)
    middle k above near =
        get_or-append_right prefix (sums ++ drop reach back) (n + 1) k 0 front_len (omega arith)
        ∙ get_or_append_left sums (drop reach back) 0 (k - (n + 1)) (omega arith) ∙ each (k - (n + 1)) (omega arith)

    later : (k : ℕ) → n + reach < k → get_or (prefix ++ (sums ++ drop reach back)) k 0 ≡ get_or (prefix ++ back) k 0
    later k far =
        let e : reach + (k - (n + 1) - reach) ≡ k - (n + 1) = omega arith in
        get_or-append_right prefix (sums ++ drop reach back) (n + 1) k 0 front_len (omega arith)
        ∙ get_or-append_right sums (drop reach back) reach (k - (n + 1)) 0 sums_len (omega arith)
        ∙ get_or-drop reach back (k - (n + 1) - reach) 0 ∙ ap (λ i. get_or back i 0) e ∙ sym (after k (omega arith))

module _ {T : Type 0} (f : T → ℕ) where
  -- a row raised place by place
  pub raised_more : (old row : List T) (sums : ℕ → ℕ) (p : ℕ) (x : T) → p < length row
      → ((k : ℕ) → k < p → get_or (map f row) k 0 ≡ max (get_or (map f old) k 0) (sums k)) × ((k : ℕ) → p ≤ k → get_or (map f row) k 0 ≡ get_or (map f old) k 0)
      → f x ≡ max (get_or (map f row) p 0) (sums p)
      → ((k : ℕ) → k < p + 1 → get_or (map f (slice_set row p x)) k 0 ≡ max (get_or (map f old) k 0) (sums k))
      × ((k : ℕ) → p + 1 ≤ k → get_or (map f (slice_set row p x)) k 0 ≡ get_or (map f old) k 0)
  raised_more old row sums p x lt before is = (
    λ k h. elim (cases_eq k p) [
      | inl e ↦ omega (arith, value_set f row p k (f x) x lt refl e, is, before.1 p (omega arith), ap sums e, ap (λ i. get_or (map f old) i 0) e)
      | inr ne ↦ omega (arith, value_others f row p k x ne, before.0 k (omega arith))
    ],
    λ k h. let ne : k ≢ p = omega arith in omega (arith, value_others f row p k x ne, before.1 k (omega arith)),
  )

  pub offered_row : (row prefix back new : List T) (n reach : ℕ) (x : T) → row ≡ prefix ++ back → length prefix ≡ n + 1 → reach ≡ min n (length back)
      → x ≡ get_or row n x → length new ≡ reach
      → ((p : ℕ) → p < reach → get_or (map f new) p 0 ≡ max (get_or (map f back) p 0) (f x + get_or (map f prefix) (1 + p) 0))
      → IsOfferedFrom n (map f row) (map f (prefix ++ (new ++ drop reach back)))
  offered_row row prefix back new n reach x whole len is x_is new_len each =
      let v : f x ≡ get_or (map f prefix) n 0 =
      value_at f row n x (omega (arith, ap length whole, length-append prefix back)) x_is ∙ ap (λ xs. get_or (map f xs) n 0) whole ∙ ap (λ xs. get_or xs n 0) (map-append f prefix back)
      ∙ get_or_append_left (map f prefix) (map f back) 0 n (omega (arith, same_length f prefix)) in
      let parts = offered (map f prefix) (map f back) (map f new) n reach (f x) (omega (arith, same_length f prefix)) (omega (arith, same_length f back)) v (omega (arith, same_length f new)) each in
      rw (whole, map-append f prefix back, map-append f prefix (new ++ drop reach back), map-append f new (drop reach back), sym (drop-map f reach back)) parts

  -- the part n and one that isn't wider have room together
  pub part_fits : (row : List T) (limit n p : ℕ) (x : T) → IsBelow limit (map f row) → n + 1 + p < length row → x ≡ get_or row n x → p < n
      → f x + get_or (map f row) (1 + p) 0 < limit
  part_fits row limit n p x small inside x_is pn =
      let len = same_length f row in
      let scaled : n * small.per + (1 + p) * small.per ≡ (n + 1 + p) * small.per = omega arith in
      omega (arith, value_at f row n x (omega arith) x_is, scaled, small.each n (omega arith), small.each (1 + p) (omega arith), small.below (n + 1 + p) (omega arith))

  pub take_at : (xs : List T) (n p : ℕ) → p < n → get_or (map f (take n xs)) p 0 ≡ get_or (map f xs) p 0
  take_at xs n p lt = ap (λ ys. get_or ys p 0) (sym (take-map f n xs)) ∙ get_or-take n (map f xs) p 0 lt

  pub next_at : (xs : List T) (n p : ℕ) → p < n → get_or (map f (take n (drop 1 xs))) p 0 ≡ get_or (map f xs) (1 + p) 0
  next_at xs n p lt = take_at (drop 1 xs) n p lt ∙ ap (λ ys. get_or ys p 0) (sym (drop-map f 1 xs)) ∙ get_or_after_one (map f xs) p 0
