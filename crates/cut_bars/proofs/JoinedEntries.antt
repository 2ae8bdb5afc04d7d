-- Why entries joined in order are what one batch more leads to.
use Rattle.std.proofs.Common.{◌≡◌, ◌≢◌, ℕ, ◌+◌, ◌-◌, ◌*◌, ◌^◌, ◌<◌, ◌≤◌, ◌++◌, List, [], ◌∷◌, length, take, get_or, leb, true, false, sym, refl, ap, ◌∙◌, subst, inl, inr, ◌⊎◌, arith}
use Rattle.std.specs.Prelude.{Contains, ◌↔◌}
use Rattle.std.proofs.lemmas.List.{get_or_default, get_or_append_left, get_or-append_right, take_more, get_or-take}
use Rattle.std.proofs.lemmas.List.Elements.{Contains-get_or, Contains-append_left, Contains-push, Contains-push_cases, at_read}
use Rattle.std.proofs.lemmas.Bool.{cases_lt}
use Rattle.std.proofs.lemmas.Grind.{common_steps}
use Rattle.std.proofs.lemmas.Bool.Decides.{nat_tests}
use mir.Val.{bool_byte}
use Rattle.cut_bars.specs.declared.reach.Entry.{Entry}
use Rattle.cut_bars.specs.Reached.{AreRising, AreOwn, AreOffered, HaveWorthsBoundedBySpan, IsLedTo}
use Rattle.cut_bars.specs.Levels.{AreJoined, AreUpTo, IsFirstOf}

-- an element that was read, whatever the default
pub read_is : (xs : List Entry) (i : ℕ) (a d : Entry) → i < length xs → a ≡ get_or xs i a → get_or xs i d ≡ a
read_is xs i a d lt is = at_read xs (λ y. y ≡ a) i a lt is refl d

pub read_in : (xs : List Entry) (i : ℕ) (a : Entry) → i < length xs → a ≡ get_or xs i a → Contains xs a
read_in xs i a lt is = (i, lt, sym is)

pub same_entry : (e f : Entry) → e.span ≡ f.span → e.worth ≡ f.worth → e ≡ f
same_entry e f p q = ap (λ (r : ℕ). record { span = r; worth = e.worth }) p ∙ ap (λ (w : ℕ). record { span = f.span; worth = w }) q

-- entries in order have one worth for each span
pub one_worth : (xs : List Entry) → AreRising xs → AreOwn (Contains xs)
one_worth xs rising e f (i, il, ie) (j, jl, je) same =
    let at : get_or xs j e ≡ f = at_f in
    elim (cases_lt i j) [
      | inl lt ↦ absurd (omega (arith, same, rising i j e lt jl, ap (λ (e : Entry). e.span) ie, ap (λ (e : Entry). e.span) at))
      | inr ge ↦ elim (cases_lt j i) [
        | inl lt ↦ absurd (omega (arith, same, rising j i e lt il, ap (λ (e : Entry). e.span) ie, ap (λ (e : Entry). e.span) at))
        | inr le ↦
            let index : i ≡ j = omega arith in
            omega (arith, ap (λ (e : Entry). e.worth) ie, ap (λ (e : Entry). e.worth) at, ap (λ k. (get_or xs k e).worth) index)
      ]
    ]
  where
    at_f : get_or xs j e ≡ f
    at_f = subst (λ x. x ≡ f) (get_or_default xs j f e jl) je

-- a set that takes in entries in order, each at its span
module _ (entries : List Entry) (i : ℕ) (d : Entry) (rising : AreRising entries) (inside : i < length entries) where
  before : (e : Entry) → Contains (take i entries) e → e.span < (get_or entries i d).span
  before e (j, lt, is) =
      let below : j < i = grind (arith, common_steps) in
      let at : get_or entries j e ≡ e = sym (get_or-take i entries j e below) ∙ is in
      omega (arith, rising j i e below inside, ap (λ (e : Entry). e.span) at, ap (λ (e : Entry). e.span) (get_or_default entries i e d inside))

  pub taken_in : (has has' : Entry → Type 0) → ((e : Entry) → has e ↔ Contains (take i entries) e)
      → ((e : Entry) → has' e ↔ ((e ≡ get_or entries i d) ⊎ ((e.span ≢ (get_or entries i d).span) × has e))) → (e : Entry) → has' e ↔ Contains (take (i + 1) entries) e
  taken_in has has' same put e = (
    λ h. rw (take_more entries i d inside) (elim ((put e).0 h) [
      | inl here ↦ subst (λ e. Contains (take i entries ++ get_or entries i d ∷ []) e) (sym here) (Contains-push (take i entries) (get_or entries i d))
      | inr (other, old) ↦ Contains-append_left (take i entries) (get_or entries i d ∷ []) e ((same e).0 old)
    ]),
    λ h. elim (Contains-push_cases (take i entries) (get_or entries i d) e (rw (take_more entries i d inside) at h)) [
      | inl old ↦ (put e).1 (inr (λ q. absurd (omega (arith, q, before e old)), (same e).1 old))
      | inr new ↦ (put e).1 (inl (sym new))
    ],
  )

-- the spans still rise once a longer one is after them
pub rising_push : (xs : List Entry) (x : Entry) → AreRising xs → ((e : Entry) → Contains xs e → e.span < x.span) → AreRising (xs ++ x ∷ [])
rising_push xs x rising above = λ i j d lt in_range.
    elim (cases_lt j (length xs)) [
      | inl inside ↦
          omega (
            arith,
            ap (λ (e : Entry). e.span) (get_or_append_left xs (x ∷ []) d i (omega arith)),
            ap (λ (e : Entry). e.span) (get_or_append_left xs (x ∷ []) d j inside),
            rising i j d lt inside,
          )
      | inr last ↦
          let at : j ≡ length xs = at_end j last in_range in
          let here : get_or (xs ++ x ∷ []) j d ≡ x = get_or-append_right xs (x ∷ []) (length xs) j d refl last ∙ ap (λ k. get_or (x ∷ []) k d) (gap j at) in
          omega (
            arith,
            ap (λ (e : Entry). e.span) here,
            ap (λ (e : Entry). e.span) (get_or_append_left xs (x ∷ []) d i (omega arith)),
            above (get_or xs i d) (Contains-get_or xs i d (omega arith)),
          )
    ]
  where
    at_end : (j : ℕ) → length xs ≤ j → j < length (xs ++ x ∷ []) → j ≡ length xs
    at_end j last lt = grind (arith, common_steps)

    gap : (j : ℕ) → j ≡ length xs → j - length xs ≡ 0
    gap j at = omega arith

pub joined_push : (step gain : ℕ) (base : List Entry) (kept moved kept' moved' : ℕ) (joined : List Entry) (first : Entry) → AreJoined step gain base kept moved joined
    → ((e : Entry) → Contains joined e → e.span < first.span)
    → ((d : Entry) → kept' < length base → first.span < (get_or base kept' d).span)
    → ((d : Entry) → moved' < length base → first.span < (get_or base moved' d).span + step)
    → IsLedTo step gain 1 (Contains base) first
    → ((i : ℕ) (d : Entry) → i < kept' → (i < kept) ⊎ ((first.span ≡ (get_or base i d).span) × ((get_or base i d).worth ≤ first.worth)))
    → ((i : ℕ) (d : Entry) → i < moved' → (i < moved) ⊎ ((first.span ≡ (get_or base i d).span + step) × ((get_or base i d).worth + gain ≤ first.worth)))
    → AreJoined step gain base kept' moved' (joined ++ first ∷ [])
joined_push step gain base kept moved kept' moved' joined first j above next_kept next_moved only kept_is moved_is = record {
  rising = rising_push joined first j.rising above;
  below_kept = λ e d has lt. elim (Contains-push_cases joined first e has) [
    | inl h ↦ omega (arith, above e h, next_kept d lt)
    | inr same ↦ omega (arith, ap (λ (e : Entry). e.span) same, next_kept d lt)
  ];
  below_moved = λ e d has lt. elim (Contains-push_cases joined first e has) [
    | inl h ↦ omega (arith, above e h, next_moved d lt)
    | inr same ↦ omega (arith, ap (λ (e : Entry). e.span) same, next_moved d lt)
  ];
  only = λ e has. elim (Contains-push_cases joined first e has) [
    | inl h ↦ j.only e h
    | inr same ↦ subst (λ e. IsLedTo step gain 1 (Contains base) e) same only
  ];
  has_kept = λ i d lt. elim (kept_is i d lt) [
    | inl h ↦ let o = j.has_kept i d h in (o.0, Contains-append_left joined (first ∷ []) o.0 o.1, o.2, o.3)
    | inr h ↦ (first, Contains-push joined first, h.0, h.1)
  ];
  has_moved = λ i d lt. elim (moved_is i d lt) [
    | inl h ↦ let o = j.has_moved i d h in (o.0, Contains-append_left joined (first ∷ []) o.0 o.1, o.2, o.3)
    | inr h ↦ (first, Contains-push joined first, h.0, h.1)
  ];
}

-- an index goes on exactly where the span is the first one's
abbrev pub GoesOn : (span first index index' : ℕ) → Type 0
GoesOn span first index index' = ((span ≡ first) × (index' ≡ index + 1)) ⊎ ((span ≢ first) × (index' ≡ index))

module _ (step gain : ℕ) (base : List Entry) (kept moved kept' moved' : ℕ) (joined : List Entry) (old new first : Entry)
    (rising : AreRising base) (some : 1 ≤ step) (order : moved ≤ kept) (inside : kept < length base)
    (old_is : (d : Entry) → get_or base kept d ≡ old)
    (new_span : (d : Entry) → new.span ≡ (get_or base moved d).span + step)
    (new_worth : (d : Entry) → new.worth ≡ (get_or base moved d).worth + gain)
    (f : IsFirstOf old new first) (ks : GoesOn old.span first.span kept kept') (ms : GoesOn new.span first.span moved moved') where
  old_span : (d : Entry) → (get_or base kept d).span ≡ old.span
  old_span d = ap (λ (e : Entry). e.span) (old_is d)

  old_worth : (d : Entry) → (get_or base kept d).worth ≡ old.worth
  old_worth d = ap (λ (e : Entry). e.worth) (old_is d)

  pub moved_in_order : moved' ≤ kept'
  moved_in_order = elim ks [
    | inl k ↦ elim ms [
      | inl m ↦ omega (arith, k.1, m.1)
      | inr m ↦ omega (arith, k.1, m.1)
    ]
    | inr k ↦ elim ms [
      | inr m ↦ omega (arith, k.1, m.1)
      | inl m ↦ elim (cases_lt moved kept) [
        | inl lt ↦ omega (arith, k.1, m.1)
        | inr ge ↦
            let same : moved ≡ kept = omega arith in
            let at = ap (λ i. (get_or base i old).span) same in
            absurd (omega (arith, f.span_a, m.0, new_span old, old_span old, at))
      ]
    ]
  ]

  pub nearer : length base + length base - kept' - moved' < length base + length base - kept - moved
  nearer = elim f.one [
    | inl a ↦ elim ks [
      | inl k ↦ elim ms [
        | inl m ↦ omega (arith, k.1, m.1)
        | inr m ↦ omega (arith, k.1, m.1)
      ]
      | inr k ↦ absurd (k.0 (ap (λ (e : Entry). e.span) (sym a)))
    ]
    | inr b ↦ elim ms [
      | inl m ↦ elim ks [
        | inl k ↦ omega (arith, k.1, m.1)
        | inr k ↦ omega (arith, k.1, m.1)
      ]
      | inr m ↦ absurd (m.0 (ap (λ (e : Entry). e.span) (sym b)))
    ]
  ]

  above : AreJoined step gain base kept moved joined → (e : Entry) → Contains joined e → e.span < first.span
  above j e has = elim f.one [
    | inl a ↦ omega (arith, j.below_kept e old has inside, old_span old, ap (λ (e : Entry). e.span) a)
    | inr b ↦ omega (arith, j.below_moved e old has (omega arith), new_span old, ap (λ (e : Entry). e.span) b)
  ]

  next_kept : (d : Entry) → kept' < length base → first.span < (get_or base kept' d).span
  next_kept d lt = elim ks [
    | inl k ↦ omega (arith, k.0, old_span d, rising kept kept' d (omega (arith, k.1)) lt)
    | inr k ↦ omega (arith, f.span_a, k.0, old_span d, ap (λ i. (get_or base i d).span) k.1)
  ]

  next_moved : (d : Entry) → moved' < length base → first.span < (get_or base moved' d).span + step
  next_moved d lt = elim ms [
    | inl m ↦ omega (arith, m.0, new_span d, rising moved moved' d (omega (arith, m.1)) lt)
    | inr m ↦ omega (arith, f.span_b, m.0, new_span d, ap (λ i. (get_or base i d).span) m.1)
  ]

  only : IsLedTo step gain 1 (Contains base) first
  only = elim f.one [
    | inl a ↦ (
      0,
      omega arith,
      old,
      subst (λ e. Contains base e) (old_is old) (Contains-get_or base kept old inside),
      record {
        span = omega (arith, ap (λ (e : Entry). e.span) a);
        worth = omega (arith, ap (λ (e : Entry). e.worth) a);
      },
    )
    | inr b ↦ (
      1,
      omega arith,
      get_or base moved old,
      Contains-get_or base moved old (omega arith),
      record {
        span = omega (arith, ap (λ (e : Entry). e.span) b, new_span old);
        worth = omega (arith, ap (λ (e : Entry). e.worth) b, new_worth old);
      },
    )
  ]

  kept_is : (i : ℕ) (d : Entry) → i < kept' → (i < kept) ⊎ ((first.span ≡ (get_or base i d).span) × ((get_or base i d).worth ≤ first.worth))
  kept_is i d lt = elim (cases_lt i kept) [
    | inl h ↦ inl h
    | inr h ↦ elim ks [
      | inl k ↦
          let same : i ≡ kept = omega (arith, k.1) in
          inr (
            omega (arith, k.0, old_span d, ap (λ i. (get_or base i d).span) same),
            omega (arith, f.worth_a k.0, old_worth d, ap (λ i. (get_or base i d).worth) same),
          )
      | inr k ↦ absurd (omega (arith, k.1))
    ]
  ]

  moved_is : (i : ℕ) (d : Entry) → i < moved' → (i < moved) ⊎ ((first.span ≡ (get_or base i d).span + step) × ((get_or base i d).worth + gain ≤ first.worth))
  moved_is i d lt = elim (cases_lt i moved) [
    | inl h ↦ inl h
    | inr h ↦ elim ms [
      | inl m ↦
          let same : i ≡ moved = omega (arith, m.1) in
          inr (
            omega (arith, m.0, new_span d, ap (λ i. (get_or base i d).span) same),
            omega (arith, f.worth_b m.0, new_worth d, ap (λ i. (get_or base i d).worth) same),
          )
      | inr m ↦ absurd (omega (arith, m.1))
    ]
  ]

  pub joined_more : AreJoined step gain base kept moved joined → AreJoined step gain base kept' moved' (joined ++ first ∷ [])
  joined_more j = joined_push step gain base kept moved kept' moved' joined first j (above j) next_kept next_moved only kept_is moved_is

  pub up_to_more : AreUpTo base joined → AreUpTo base (joined ++ first ∷ [])
  up_to_more up e has = elim (Contains-push_cases joined first e has) [
    | inl h ↦ up e h
    | inr same ↦ (get_or base kept old, Contains-get_or base kept old inside, omega (arith, f.span_a, old_span old, ap (λ (e : Entry). e.span) same))
  ]

pub goes_on : (span other first index : ℕ) → first ≤ span → first ≤ other → (first ≡ span) ⊎ (first ≡ other) → GoesOn span first index (index + bool_byte (leb span other))
goes_on span other first index low_span low_other one = elim (cases_lt other span) [
  | inl lt ↦
      let t : leb span other ≡ false = grind (arith, nat_tests) in
      rw t (inr (λ e. absurd (omega (arith, e)), omega arith))
  | inr le ↦
      let t : leb span other ≡ true = grind (arith, nat_tests) in
      rw t (inl (same le one, refl))
]
  where
    same : span ≤ other → (first ≡ span) ⊎ (first ≡ other) → span ≡ first
    same le (inl e) = sym e
    same le (inr e) = omega (arith, e)

first_span : (a b first : Entry) → IsFirstOf a b first → (first.span ≡ a.span) ⊎ (first.span ≡ b.span)
first_span a b first f = elim f.one [
  | inl e ↦ inl (ap (λ (e : Entry). e.span) e)
  | inr e ↦ inr (ap (λ (e : Entry). e.span) e)
]

other_way : (a b first : ℕ) → (first ≡ a) ⊎ (first ≡ b) → (first ≡ b) ⊎ (first ≡ a)
other_way a b first (inl e) = inr e
other_way a b first (inr e) = inl e

abbrev pub none : Entry
none = record { span = 0; worth = 0 }

pub low_at : (whole : ℕ) (base : List Entry) (i : ℕ) → HaveWorthsBoundedBySpan (2 ^ 30) whole (Contains base) → i < length base
    → ((get_or base i none).span ≤ whole) × ((get_or base i none).worth ≤ (get_or base i none).span * 2 ^ 30)
low_at whole base i low lt = low (get_or base i none) (Contains-get_or base i none lt)

-- one entry more is joined
module _ (step gain : ℕ) (base : List Entry) (kept moved : ℕ) (joined joined' : List Entry) (first : Entry) (rising : AreRising base) (some : 1 ≤ step)
    (order : moved ≤ kept) (inside : kept < length base)
    (f : IsFirstOf (get_or base kept none) (record { span = (get_or base moved none).span + step; worth = (get_or base moved none).worth + gain }) first)
    (items : joined' ≡ joined ++ first ∷ []) (j : AreJoined step gain base kept moved joined) (up : AreUpTo base joined) where
  abbrev pub kept' : ℕ
  kept' = kept + bool_byte (leb (get_or base kept none).span ((get_or base moved none).span + step))

  abbrev pub moved' : ℕ
  moved' = moved + bool_byte (leb ((get_or base moved none).span + step) (get_or base kept none).span)

  old_is : (d : Entry) → get_or base kept d ≡ get_or base kept none
  old_is d = get_or_default base kept d none inside

  span_is : (d : Entry) → (get_or base moved none).span + step ≡ (get_or base moved d).span + step
  span_is d = ap (λ (e : Entry). e.span + step) (get_or_default base moved none d (omega arith))

  worth_is : (d : Entry) → (get_or base moved none).worth + gain ≡ (get_or base moved d).worth + gain
  worth_is d = ap (λ (e : Entry). e.worth + gain) (get_or_default base moved none d (omega arith))

  ks : GoesOn (get_or base kept none).span first.span kept kept'
  ks = goes_on (get_or base kept none).span ((get_or base moved none).span + step) first.span kept f.span_a f.span_b (first_span _ _ first f)

  ms : GoesOn ((get_or base moved none).span + step) first.span moved moved'
  ms = goes_on ((get_or base moved none).span + step) (get_or base kept none).span first.span moved f.span_b f.span_a (other_way _ _ _ (first_span _ _ first f))

  pub step_order : moved' ≤ kept'
  step_order = moved_in_order step gain base kept moved kept' moved' joined _ _ first rising some order inside old_is span_is worth_is f ks ms

  pub step_inside : kept' ≤ length base
  step_inside = elim ks [
    | inl k ↦ omega (arith, k.1)
    | inr k ↦ omega (arith, k.1)
  ]

  pub step_joined : AreJoined step gain base kept' moved' joined'
  step_joined = rw items (joined_more step gain base kept moved kept' moved' joined _ _ first rising some order inside old_is span_is worth_is f ks ms j)

  pub step_up_to : AreUpTo base joined'
  step_up_to = rw items (up_to_more step gain base kept moved kept' moved' joined _ _ first rising some order inside old_is span_is worth_is f ks ms up)

  pub step_nearer : length base + length base - kept' - moved' < length base + length base - kept - moved
  step_nearer = nearer step gain base kept moved kept' moved' joined _ _ first rising some order inside old_is span_is worth_is f ks ms

  pub join_step : (moved' ≤ kept') × (kept' ≤ length base) × AreJoined step gain base kept' moved' joined' × AreUpTo base joined'
  join_step = (step_order, step_inside, step_joined, step_up_to)

-- after the last entry, one entry more that a batch leads to
module _ (step gain whole : ℕ) (base : List Entry) (moved : ℕ) (offered offered' : List Entry) (rising : AreRising base) (inside : moved < length base)
    (items : offered' ≡ offered ++ (record { span = (get_or base moved none).span + step; worth = (get_or base moved none).worth + gain }) ∷ [])
    (j : AreJoined step gain base (length base) moved offered) where
  abbrev new : Entry
  new = record { span = (get_or base moved none).span + step; worth = (get_or base moved none).worth + gain }

  pub tail_joined : AreJoined step gain base (length base) (moved + 1) offered'
  tail_joined =
      rw items (joined_push step gain base (length base) moved (length base) (moved + 1) offered new j
      (λ e has. j.below_moved e none has inside)
      (λ d lt. absurd (omega arith))
      (λ d lt. omega (arith, at d, rising moved (moved + 1) d (omega arith) lt))
      (1, omega arith, get_or base moved none, Contains-get_or base moved none inside, record { span = omega arith; worth = omega arith })
      (λ i d lt. inl lt)
      (λ i d lt. elim (cases_lt i moved) [
        | inl h ↦ inl h
        | inr h ↦ here i d (omega arith)
      ]))
    where
      at : (d : Entry) → (get_or base moved none).span ≡ (get_or base moved d).span
      at d = ap (λ (e : Entry). e.span) (get_or_default base moved none d inside)

      here : (i : ℕ) (d : Entry) → i ≡ moved → (i < moved) ⊎ ((new.span ≡ (get_or base i d).span + step) × ((get_or base i d).worth + gain ≤ new.worth))
      here i d same =
          let e : get_or base moved none ≡ get_or base i d = get_or_default base moved none d inside ∙ ap (λ k. get_or base k d) (sym same) in
          inr (omega (arith, ap (λ (e : Entry). e.span) e), omega (arith, ap (λ (e : Entry). e.worth) e))

  pub tail_short : (get_or base moved none).span + step ≤ whole → ((e : Entry) → Contains offered e → e.span ≤ whole) → (e : Entry) → Contains offered' e → e.span ≤ whole
  tail_short fits short e has = elim (Contains-push_cases offered new e (rw items at has)) [
    | inl h ↦ short e h
    | inr same ↦ omega (arith, fits, ap (λ (e : Entry). e.span) same)
  ]

pub up_to_short : (whole : ℕ) (base joined : List Entry) → HaveWorthsBoundedBySpan (2 ^ 30) whole (Contains base) → AreUpTo base joined → (e : Entry) → Contains joined e → e.span ≤ whole
up_to_short whole base joined low up e has =
    let b = up e has in
    let l = low b.0 b.1 in
    omega (arith, b.2, l.0)

-- once no entry more leads anywhere within the whole
pub all_offered : (step gain whole : ℕ) (base : List Entry) (moved : ℕ) (offered : List Entry) → AreRising base → AreJoined step gain base (length base) moved offered
    → ((e : Entry) → Contains offered e → e.span ≤ whole) → (length base ≤ moved) ⊎ (whole < (get_or base moved none).span + step) → AreOffered step gain 1 whole (Contains base) (Contains offered)
all_offered step gain whole base moved offered rising j short stop = record {
  own = one_worth offered j.rising;
  short = short;
  only = j.only;
  most = λ b has times few fits. elim (cases_lt times 1) [
    | inl zero ↦ kept b has times (omega arith)
    | inr one ↦ one_more b has times (omega arith) fits
  ];
}
  where
    kept : (b : Entry) → Contains base b → (times : ℕ) → times ≡ 0 → (e : Entry) × Contains offered e × (e.span ≡ b.span + times * step) × (b.worth + times * gain ≤ e.worth)
    kept b (i, lt, is) times e =
        let o = j.has_kept i b lt in
        rw e (o.0, o.1, omega (arith, o.2, ap (λ (e : Entry). e.span) is), omega (arith, o.3, ap (λ (e : Entry). e.worth) is))

    not_before : (b : Entry) (i : ℕ) → i < length base → moved ≤ i → (get_or base moved none).span ≤ (get_or base i b).span
    not_before b i lt le = elim (cases_lt moved i) [
      | inl h ↦ omega (arith, rising moved i b h lt, ap (λ (e : Entry). e.span) (get_or_default base moved none b (omega arith)))
      | inr h ↦
          let same : i ≡ moved = omega arith in
          omega (arith, ap (λ (e : Entry). e.span) (get_or_default base moved none b (omega arith)), ap (λ k. (get_or base k b).span) same)
    ]

    in_order : (b : Entry) (i : ℕ) → i < length base → get_or base i b ≡ b → b.span + step ≤ whole → i < moved
    in_order b i lt is fits = elim stop [
      | inl all ↦ omega arith
      | inr far ↦ elim (cases_lt i moved) [
        | inl h ↦ h
        | inr h ↦ absurd (omega (arith, not_before b i lt h, ap (λ (e : Entry). e.span) is))
      ]
    ]

    one_more : (b : Entry) → Contains base b → (times : ℕ) → times ≡ 1 → b.span + times * step ≤ whole
        → (e : Entry) × Contains offered e × (e.span ≡ b.span + times * step) × (b.worth + times * gain ≤ e.worth)
    one_more b (i, lt, is) times e =
        rw e (
        λ fits.
        let o = j.has_moved i b (in_order b i lt is (omega arith)) in
        (o.0, o.1, omega (arith, o.2, ap (λ (e : Entry). e.span) is), omega (arith, o.3, ap (λ (e : Entry). e.worth) is))
        )
