-- A row that is raised place by place to the best sum of two parts.
use Rattle.std.proofs.Common.{◌≡◌, ◌≢◌, ℕ, zero, suc, ◌+◌, ◌-◌, ◌*◌, ◌<◌, ◌≤◌, List, length, get_or, max, ap, refl, ◌∙◌, inl, inr, arith}
use Rattle.std.proofs.lemmas.Bool.{cases_lt, cases_eq}
use Rattle.std.proofs.lemmas.Nat.{mul-le}
use Rattle.cut_sheets.specs.Table.{IsBelow, IsOfferedFrom, IsJoined}

-- the places below n rise, those of them that are worth more than the one before were offered with each part, and what is
-- more than before is the sum of two of them
pub record JoinedBelow (limit : ℕ) (old row : List ℕ) (n : ℕ) : Type 0 where
  pub len : length row ≡ length old
  pub small : IsBelow limit row
  pub kept : (k : ℕ) → k < length old → get_or old k 0 ≤ get_or row k 0
  pub rises : (k : ℕ) → 1 ≤ k → k < n → get_or row (k - 1) 0 ≤ get_or row k 0
  pub offers : (q a : ℕ) → q < n → get_or row (q - 1) 0 < get_or row q 0 → 1 ≤ a → a ≤ q → q + a < length old
      → get_or row q 0 + get_or row a 0 ≤ get_or row (q + a) 0
  pub found : (k : ℕ) → k < length old → get_or old k 0 < get_or row k 0 →
      (a b : ℕ) × (a < n) × (b < n) × (a < k) × (b < k) × (a + b ≤ k) × (get_or row k 0 ≡ get_or row a 0 + get_or row b 0)

pub no_width : (limit : ℕ) (row : List ℕ) → IsBelow limit row → 0 < length row → get_or row 0 0 ≡ 0
no_width limit row s lt = omega (arith, s.each 0 lt)

pub joined_first : (limit : ℕ) (old : List ℕ) → IsBelow limit old → JoinedBelow limit old old 1
joined_first limit old small = record {
  len = refl;
  small = small;
  kept = λ k h. omega arith;
  rises = λ k one h. absurd (omega arith);
  offers = λ q a h more one aq in_row. absurd (omega arith);
  found = λ k h more. absurd (omega arith);
}

-- the place n was raised to the one before
pub joined_raised : (limit : ℕ) (old row new : List ℕ) (n : ℕ) → JoinedBelow limit old row n → 1 ≤ n → n < length old → length new ≡ length row
    → get_or new n 0 ≡ max (get_or row n 0) (get_or row (n - 1) 0)
    → ((k : ℕ) → k ≢ n → get_or new k 0 ≡ get_or row k 0) → JoinedBelow limit old new n
joined_raised limit old row new n j one lt len here others = record {
  len = omega (arith, j.len);
  small = record {
    per = j.small.per;
    each = λ p pl. elim (cases_eq p n) [
      | inl e ↦
          let at : get_or new p 0 ≡ get_or new n 0 = ap (λ i. get_or new i 0) e in
          let wide : (n - 1) * j.small.per ≤ n * j.small.per = mul-le (n - 1) j.small.per n j.small.per (omega arith) (omega arith) in
          let scaled : p * j.small.per ≡ n * j.small.per = ap (λ i. i * j.small.per) e in
          omega (arith, at, here, wide, scaled, j.small.each n (omega (arith, j.len)), j.small.each (n - 1) (omega (arith, j.len)))
      | inr ne ↦ omega (arith, others p ne, j.small.each p (omega (arith, j.len)))
    ];
    below = λ p pl. j.small.below p (omega arith);
  };
  kept = λ k h. omega (arith, up k, j.kept k h);
  rises = λ k some h. let a : k ≢ n = omega arith in let b : k - 1 ≢ n = omega arith in omega (arith, others k a, others (k - 1) b, j.rises k some h);
  offers = λ q a h more some aq in_row.
      let nq : q ≢ n = omega arith in
      let na : a ≢ n = omega arith in
      let nb : q - 1 ≢ n = omega arith in
      let more' : get_or row (q - 1) 0 < get_or row q 0 = omega (arith, others q nq, others (q - 1) nb) in
      omega (arith, others q nq, others a na, up (q + a), j.offers q a h more' some aq in_row);
  found = λ k h more. elim (cases_lt (get_or row k 0) (get_or new k 0)) [
    | inl grew ↦ elim (cases_eq k n) [
      | inl e ↦
          let at : get_or new k 0 ≡ get_or new n 0 = ap (λ i. get_or new i 0) e in
          let at' : get_or row k 0 ≡ get_or row n 0 = ap (λ i. get_or row i 0) e in
          let n1 : n - 1 ≢ n = omega arith in
          let n0 : 0 ≢ n = omega arith in
          let sum : get_or new k 0 ≡ get_or new (n - 1) 0 + get_or new 0 0 = omega (arith, at, at', here, others (n - 1) n1, others 0 n0, no_width limit row j.small (omega (arith, j.len))) in
          (n - 1, 0, omega arith, omega arith, omega arith, omega arith, omega arith, sum)
      | inr ne ↦ absurd (omega (arith, others k ne))
    ]
    | inr same ↦
        let stays : get_or new k 0 ≡ get_or row k 0 = omega (arith, up k) in
        let more' : get_or old k 0 < get_or row k 0 = omega arith in
        let f = j.found k h more' in
        let na : f.0 ≢ n = omega (arith, f.2) in
        let nb : f.1 ≢ n = omega (arith, f.3) in
        let sum : get_or new k 0 ≡ get_or new f.0 0 + get_or new f.1 0 = omega (arith, f.7, stays, others f.0 na, others f.1 nb) in
        (f.0, f.1, f.2, f.3, f.4, f.5, f.6, sum)
  ];
}
  where
    up : (k : ℕ) → get_or row k 0 ≤ get_or new k 0
    up k = elim (cases_eq k n) [
      | inl e ↦ omega (arith, here, ap (λ i. get_or row i 0) e, ap (λ i. get_or new i 0) e)
      | inr ne ↦ omega (arith, others k ne)
    ]

-- the place n, risen from the one before, needs no offers if it is worth no more
pub joined_skipped : (limit : ℕ) (old row : List ℕ) (n : ℕ) → JoinedBelow limit old row n → get_or row n 0 ≡ get_or row (n - 1) 0
    → JoinedBelow limit old row (n + 1)
joined_skipped limit old row n j same = record {
  len = j.len;
  small = j.small;
  kept = j.kept;
  rises = λ k one h. elim (cases_eq k n) [
    | inl e ↦ omega (arith, same, ap (λ i. get_or row i 0) e, ap (λ i. get_or row (i - 1) 0) e)
    | inr ne ↦ j.rises k one (omega arith)
  ];
  offers = λ q a h more one aq in_row. elim (cases_eq q n) [
    | inl e ↦ absurd (omega (arith, same, ap (λ i. get_or row i 0) e, ap (λ i. get_or row (i - 1) 0) e))
    | inr ne ↦ j.offers q a (omega arith) more one aq in_row
  ];
  found = λ k h more. let f = j.found k h more in (f.0, f.1, omega (arith, f.2), omega (arith, f.3), f.4, f.5, f.6, f.7);
}

-- the place n, worth more than the one before, was offered
pub joined_offered : (limit : ℕ) (old row new : List ℕ) (n : ℕ) → JoinedBelow limit old row n → 1 ≤ n → n < length old → length new ≡ length row
    → get_or row (n - 1) 0 < get_or row n 0 → IsOfferedFrom n row new → JoinedBelow limit old new (n + 1)
joined_offered limit old row new n j one lt len more_here o = record {
  len = omega (arith, j.len);
  small = record {
    per = j.small.per;
    each = λ p pl. elim (cases_lt (get_or row p 0) (get_or new p 0)) [
      | inl grew ↦
          let f = o.found p grew in
          let scaled : p * j.small.per ≡ n * j.small.per + f.0 * j.small.per = omega (arith, ap (λ i. i * j.small.per) f.3) in
          omega (arith, scaled, f.4, j.small.each n (omega (arith, j.len)), j.small.each f.0 (omega (arith, j.len, f.2)))
      | inr same ↦ omega (arith, j.small.each p (omega arith))
    ];
    below = λ p pl. j.small.below p (omega arith);
  };
  kept = λ k h. omega (arith, o.kept k, j.kept k h);
  rises = λ k some h. elim (cases_eq k n) [
    | inl e ↦
        let at = ap (λ i. get_or row i 0) e in
        let at' = ap (λ i. get_or row (i - 1) 0) e in
        omega (arith, o.same k (omega arith), o.same (k - 1) (omega arith), at, at')
    | inr ne ↦ omega (arith, o.same k (omega arith), o.same (k - 1) (omega arith), j.rises k some (omega arith))
  ];
  offers = λ q a h more some aq in_row. elim (cases_eq q n) [
    | inl e ↦
        let near : a ≤ n = omega arith in
        let inside : n + a < length row = omega (arith, j.len) in
        omega (arith, o.same q (omega arith), o.same a near, ap (λ i. get_or row i 0) e, ap (λ i. get_or new (i + a) 0) e, o.sums a some near inside)
    | inr ne ↦
        let more' : get_or row (q - 1) 0 < get_or row q 0 = omega (arith, o.same q (omega arith), o.same (q - 1) (omega arith)) in
        omega (arith, o.same q (omega arith), o.same a (omega arith), o.kept (q + a), j.offers q a (omega arith) more' some aq in_row)
  ];
  found = λ k h more. elim (cases_lt (get_or row k 0) (get_or new k 0)) [
    | inl grew ↦
        let f = o.found k grew in
        let sum : get_or new k 0 ≡ get_or new n 0 + get_or new f.0 0 = omega (arith, f.4, o.same n (omega arith), o.same f.0 f.2) in
        (n, f.0, omega arith, omega (arith, f.2), omega (arith, f.1, f.3), omega (arith, f.2, f.3, one), omega (arith, f.3), sum)
    | inr same ↦
        let stays : get_or new k 0 ≡ get_or row k 0 = omega (arith, o.kept k) in
        let more' : get_or old k 0 < get_or row k 0 = omega arith in
        let f = j.found k h more' in
        let sum : get_or new k 0 ≡ get_or new f.0 0 + get_or new f.1 0 = omega (arith, f.7, stays, o.same f.0 (omega (arith, f.2)), o.same f.1 (omega (arith, f.3))) in
        (f.0, f.1, omega (arith, f.2), omega (arith, f.3), f.4, f.5, f.6, sum)
  ];
}

-- once all places rose and were offered, each is worth no less than two parts of its width: by the width
sum_of_parts : (limit : ℕ) (old row : List ℕ) (n : ℕ) → length old ≤ n → JoinedBelow limit old row n
    → (top s a b : ℕ) → s < top → s < length old → 1 ≤ a → a ≤ b → a + b ≡ s → get_or row a 0 + get_or row b 0 ≤ get_or row s 0
sum_of_parts limit old row n all j zero s a b st sl one ab sum = absurd (omega arith)
sum_of_parts limit old row n all j (suc top) s a b st sl one ab sum =
    elim (cases_lt (get_or row (b - 1) 0) (get_or row b 0)) [
      | inl more ↦
          let here : b + a ≡ s = omega arith in
          omega (arith, j.offers b a (omega arith) more one ab (omega arith), ap (λ i. get_or row i 0) here)
      | inr same ↦
          let equal : get_or row b 0 ≡ get_or row (b - 1) 0 = omega (arith, j.rises b (omega arith) (omega arith)) in
          let up = j.rises s (omega arith) (omega arith) in
          elim (cases_lt (b - 1) a) [
            | inl near ↦ elim (cases_lt a 2) [
              | inl first ↦
                  let a_is : a - 1 ≡ 0 = omega arith in
                  let a_same : get_or row a 0 ≡ get_or row b 0 = let e : a ≡ b = omega arith in ap (λ i. get_or row i 0) e in
                  let b_is : b - 1 ≡ 0 = omega arith in
                  let none : get_or row (b - 1) 0 ≡ 0 = ap (λ i. get_or row i 0) b_is ∙ no_width limit row j.small (omega (arith, j.len)) in
                  omega (arith, none, equal, a_same)
              | inr later ↦
                  let parts = sum_of_parts limit old row n all j top (s - 1) (b - 1) a (omega arith) (omega arith) (omega arith) (omega arith) (omega arith) in
                  omega (arith, parts, equal, up)
            ]
            | inr far ↦
                let parts = sum_of_parts limit old row n all j top (s - 1) a (b - 1) (omega arith) (omega arith) one far (omega arith) in
                omega (arith, parts, equal, up)
          ]
    ]

pub joined_all : (limit : ℕ) (old row : List ℕ) (n : ℕ) → length old ≤ n → JoinedBelow limit old row n → IsJoined old row
joined_all limit old row n all j = record {
  kept = j.kept;
  cuts = λ p a pl one two. sum_of_parts limit old row n all j (p + 1) p a (p - a) (omega arith) pl one (omega arith) (omega arith);
  found = λ p pl more. let f = j.found p pl more in (f.0, f.1, f.4, f.5, f.6, f.7);
}
