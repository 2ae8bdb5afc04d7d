-- What the cells of a table lead to.
use Rattle.std.proofs.Common.{◌≡◌, ◌≢◌, ℕ, zero, suc, ◌+◌, ◌-◌, ◌*◌, ◌/◌, ◌<◌, ◌≤◌, List, length, map, take, get_or, max, sym, refl, ap, ◌∙◌, ◌⊎◌, subst, inl, inr, arith}
use Rattle.std.specs.Prelude.{All, Contains, slice_set, ◌↔◌, ◌++◌, [], ◌∷◌}
use Rattle.std.proofs.lemmas.List.Elements.{Contains-push, Contains-push_cases, Contains-append_left}
use Rattle.std.proofs.lemmas.Bool.{cases_lt, cases_eq}
use Rattle.std.proofs.lemmas.Bool.Decides.{eqb_tells}
use Rattle.std.proofs.lemmas.List.{get_or_past, map-set}
use Rattle.std.proofs.lemmas.Nat.{mul-le}
use Rattle.cut_wants.proofs.NumberRows.{same_length, value_at, value_set}
use Rattle.std.proofs.Math.Seq.{take-append_seam}
use Rattle.std.proofs.Math.Nat.{le_refl, le-max_left, le-max_right, max-eq_left, max-eq_right}
use Rattle.cut_bars.specs.declared.reach.Entry.{Entry}
use Rattle.cut_bars.specs.Reached.{AreOwn, AreOffered, HaveWorthsBoundedBySpan, AreRising, IsMoved, StayBelow}
use Rattle.cut_bars.specs.Levels.{AreCellsBelow, HasCell, IsRaised, gained}
use Rattle.cut_wants.proofs.NumberRows.{set_here, set_other}
use Rattle.cut_bars.proofs.JoinedEntries.{same_entry, rising_push}
use Rattle.cut_bars.proofs.OfferedPieces.{fit_within}

-- a list whose whole length was written
pub written : {T : Type 0} (n : ℕ) (new rest : List T) → length new ≡ n → take n (new ++ rest) ≡ new
written n new rest len = ap (λ m. take m (new ++ rest)) (sym len) ∙ take-append_seam new rest

-- a cell that isn't 0 lies within the whole
pub cell_inside : (cells : List ℕ) (whole c v : ℕ) → length cells ≡ whole + 1 → get_or cells c 0 ≡ v + 1 → c ≤ whole
cell_inside cells whole c v len is = elim (cases_lt whole c) [
  | inl past ↦ absurd (omega (arith, is, get_or_past cells c 0 (omega (arith, len))))
  | inr le ↦ le
]

pub cells_own : (cells : List ℕ) → AreOwn (HasCell cells)
cells_own cells e f a b same = omega (arith, a, b, ap (λ n. get_or cells n 0) same)

-- a cell of at least so much is an entry's
cell_at : (cells : List ℕ) (c v : ℕ) → v + 1 ≤ get_or cells c 0 → (e : Entry) × HasCell cells e × (e.span ≡ c) × (v ≤ e.worth)
cell_at cells c v least = (record { span = c; worth = get_or cells c 0 - 1 }, omega arith, refl, omega arith)

led_from : (gain v w : ℕ) → gained gain v ≡ w + 1 → (u : ℕ) × (v ≡ u + 1) × (w ≡ u + gain)
led_from gain zero w e = absurd (omega (arith, e))
led_from gain (suc u) w e = (u, omega arith, omega (arith, e))

led_some : (gain v u : ℕ) → v ≡ u + 1 → gained gain v ≡ u + 1 + gain
led_some gain zero u e = absurd (omega (arith, e))
led_some gain (suc w) u e = omega (arith, e)

pub max_one : (a b c : ℕ) → c ≡ max a b → (c ≡ a) ⊎ (c ≡ b)
max_one a b c e = elim (cases_lt a b) [
  | inl lt ↦ inr (e ∙ max-eq_right (omega arith))
  | inr ge ↦ inl (e ∙ max-eq_left ge)
]

module _ (step gain whole : ℕ) (from old new : List ℕ) (len : length old ≡ whole + 1) (len' : length new ≡ whole + 1) (r : IsRaised step gain from old new) where
  -- what stands in a cell stood there or was led to from a step before
  whence : (c w : ℕ) → get_or new c 0 ≡ w + 1 → (get_or old c 0 ≡ w + 1) ⊎ ((step ≤ c) × (u : ℕ) × (get_or from (c - step) 0 ≡ u + 1) × (w ≡ u + gain))
  whence c w is = elim (cases_lt c step) [
    | inl lt ↦ inl (sym (r.low c lt) ∙ is)
    | inr ge ↦ elim (max_one (get_or old c 0) (gained gain (get_or from (c - step) 0)) (get_or new c 0) (r.high c ge (omega (arith, len, cell_inside new whole c w len' is)))) [
      | inl e ↦ inl (sym e ∙ is)
      | inr e ↦ let f = led_from gain (get_or from (c - step) 0) w (sym e ∙ is) in inr (ge, f.0, f.1, f.2)
    ]
  ]

  kept : (c : ℕ) → c ≤ whole → get_or old c 0 ≤ get_or new c 0
  kept c le = elim (cases_lt c step) [
    | inl lt ↦ omega (arith, r.low c lt)
    | inr ge ↦ omega (arith, r.high c ge (omega (arith, len)), le-max_left (get_or old c 0) (gained gain (get_or from (c - step) 0)))
  ]

  further : (c u : ℕ) → c + step ≤ whole → get_or from c 0 ≡ u + 1 → u + 1 + gain ≤ get_or new (c + step) 0
  further c u le is =
      let back : c + step - step ≡ c = omega arith in
      let at : get_or from (c + step - step) 0 ≡ u + 1 = ap (λ n. get_or from n 0) back ∙ is in
      omega (
        arith,
        r.high (c + step) (omega arith) (omega (arith, len)),
        le-max_right (get_or old (c + step) 0) (gained gain (get_or from (c + step - step) 0)),
        led_some gain (get_or from (c + step - step) 0) u at,
      )

  short : (e : Entry) → HasCell new e → e.span ≤ whole
  short e has = cell_inside new whole e.span e.worth len' has

-- a batch that was offered from the cells as they stood
pub raised_once : (step gain whole : ℕ) (old new : List ℕ) → length old ≡ whole + 1 → length new ≡ whole + 1 → IsRaised step gain old old new → AreOffered step gain 1 whole (HasCell old) (HasCell new)
raised_once step gain whole old new len len' r = record {
  own = cells_own new;
  short = short step gain whole old old new len len' r;
  only = λ e has. elim (whence step gain whole old old new len len' r e.span e.worth has) [
    | inl h ↦ (0, omega arith, e, h, record { span = omega arith; worth = omega arith })
    | inr (ge, u, is, w) ↦ (1, omega arith, record { span = e.span - step; worth = u }, is, record { span = omega arith; worth = omega (arith, w) })
  ];
  most = λ b has times few fits. elim (cases_lt times 1) [
    | inl lt ↦
        let zero : times ≡ 0 = omega arith in
        let e = cell_at new b.span b.worth (omega (arith, has, kept step gain whole old old new len len' r b.span (omega arith))) in
        rw zero (e.0, e.1, omega (arith, e.2), omega (arith, e.3))
    | inr ge ↦
        let one : times ≡ 1 = omega arith in
        let span = ap (λ n. n * step) one in
        let e = cell_at new (b.span + step) (b.worth + gain) (omega (arith, further step gain whole old old new len len' r b.span b.worth (omega (arith, span)) has)) in
        rw one (e.0, e.1, omega (arith, e.2), omega (arith, e.3))
  ];
}

-- any number of pieces that were offered from the cells as they stand
module _ (step gain whole : ℕ) (old new : List ℕ) (some : 1 ≤ step) (len : length old ≡ whole + 1) (len' : length new ≡ whole + 1) (r : IsRaised step gain new old new) where
  led_to : (n c w : ℕ) → c < n → get_or new c 0 ≡ w + 1 → (times : ℕ) × (b : Entry) × HasCell old b × IsMoved step gain times b (record { span = c; worth = w })
  led_to zero c w le is = absurd (omega arith)
  led_to (suc n) c w le is = elim (whence step gain whole new old new len len' r c w is) [
    | inl h ↦ (0, record { span = c; worth = w }, h, record { span = omega arith; worth = omega arith })
    | inr (ge, u, at, e) ↦
        let f = led_to n (c - step) u (omega arith) at in
        let span = f.3.span in
        let worth = f.3.worth in
        (suc f.0, f.1, f.2, record { span = omega (arith, span); worth = omega (arith, worth, e) })
  ]

  up_to : (times : ℕ) (b : Entry) → HasCell old b → b.span + times * step ≤ whole → b.worth + times * gain + 1 ≤ get_or new (b.span + times * step) 0
  up_to zero b has fits =
      let here : b.span + 0 * step ≡ b.span = omega arith in
      omega (arith, has, kept step gain whole new old new len len' r b.span (omega arith), ap (λ n. get_or new n 0) here)
  up_to (suc times) b has fits =
      let f = up_to times b has (omega arith) in
      let g = further step gain whole new old new len len' r (b.span + times * step) (get_or new (b.span + times * step) 0 - 1) (omega arith) (omega arith) in
      let here : b.span + times * step + step ≡ b.span + suc times * step = omega arith in
      omega (arith, f, g, ap (λ n. get_or new n 0) here)

  pub raised_freely : AreOffered step gain (whole / step) whole (HasCell old) (HasCell new)
  raised_freely = record {
    own = cells_own new;
    short = short step gain whole new old new len len' r;
    only = λ e has.
        let f = led_to (e.span + 1) e.span e.worth (omega arith) has in
        let span = f.3.span in
        (f.0, fit_within step f.0 whole some (omega (arith, span, short step gain whole new old new len len' r e has)), f.1, f.2, record { span = span; worth = f.3.worth });
    most = λ b has times few fits.
        let e = cell_at new (b.span + times * step) (b.worth + times * gain) (up_to times b has fits) in
        (e.0, e.1, e.2, e.3);
  }

-- a worth in a cell is low where the entries' are
pub cell_low : (price : ℕ) (cells : List ℕ) (whole c : ℕ) → HaveWorthsBoundedBySpan price whole (HasCell cells) → get_or cells c 0 ≤ c * price + 1
cell_low price cells whole c low = go (get_or cells c 0) refl
  where
    go : (v : ℕ) → get_or cells c 0 ≡ v → get_or cells c 0 ≤ c * price + 1
    go zero e = omega (arith, e)
    go (suc v) e = omega (arith, e, (low (record { span = c; worth = v }) (omega (arith, e))).1)

-- a cell that is set is the entry's, and the others are as they were
pub cell_put : (cells : List ℕ) (here e : Entry) → here.span < length cells
    → HasCell (slice_set cells here.span (here.worth + 1)) e ↔ ((e ≡ here) ⊎ ((e.span ≢ here.span) × HasCell cells e))
cell_put cells here e lt = elim (eqb_tells e.span here.span) [
  | inl (t, same) ↦
      let at = set_here cells here.span (here.worth + 1) e.span lt same in (
        λ has. inl (same_entry e here same (omega (arith, at, has))),
        λ one. elim one [
          | inl q ↦ omega (arith, at, ap (λ (e : Entry). e.worth) q)
          | inr (other, has) ↦ absurd (other same)
        ],
      )
  | inr (t, other) ↦
      let at = set_other cells here.span (here.worth + 1) e.span other in (
        λ has. inr (other, omega (arith, at, has)),
        λ one. elim one [
          | inl q ↦ absurd (other (ap (λ (e : Entry). e.span) q))
          | inr (other', has) ↦ omega (arith, at, has)
        ],
      )
]

-- the entries of the first cells, in order
abbrev pub AreListed : List ℕ → ℕ → List Entry → Type 0
AreListed cells i entries = AreRising entries × ((e : Entry) → (HasCell cells e × (e.span < i)) ↔ Contains entries e)

pub listed_more : (cells : List ℕ) (i v : ℕ) (entries : List Entry) → AreListed cells i entries → get_or cells i 0 ≡ v + 1 → AreListed cells (i + 1) (entries ++ (record { span = i; worth = v }) ∷ [])
listed_more cells i v entries l is = (
  rising_push entries here l.0 (λ e has. ((l.1 e).1 has).1),
  λ e. (
    λ (has, lt). elim (cases_lt e.span i) [
      | inl before ↦ Contains-append_left entries (here ∷ []) e ((l.1 e).0 (has, before))
      | inr at ↦
          let same : e.span ≡ i = omega arith in
          let e_is : here ≡ e = same_entry here e (sym same) (omega (arith, is, has, ap (λ n. get_or cells n 0) same)) in
          subst (λ e. Contains (entries ++ here ∷ []) e) e_is (Contains-push entries here)
    ],
    λ has. elim (Contains-push_cases entries here e has) [
      | inl old ↦ let h = (l.1 e).1 old in (h.0, omega (arith, h.1))
      | inr new ↦
          let same : i ≡ e.span = ap (λ (e : Entry). e.span) new in
          (omega (arith, is, ap (λ n. get_or cells n 0) same, ap (λ (e : Entry). e.worth) new), omega (arith, same))
    ],
  ),
)
  where
    here : Entry
    here = record { span = i; worth = v }

pub listed_skip : (cells : List ℕ) (i : ℕ) (entries : List Entry) → AreListed cells i entries → get_or cells i 0 ≡ 0 → AreListed cells (i + 1) entries
listed_skip cells i entries l is = (
  l.0,
  λ e. (
    λ (has, lt). elim (cases_lt e.span i) [
      | inl before ↦ (l.1 e).0 (has, before)
      | inr at ↦
          let same : e.span ≡ i = omega arith in
          absurd (omega (arith, is, has, ap (λ n. get_or cells n 0) same))
    ],
    λ has. let h = (l.1 e).1 has in (h.0, omega (arith, h.1)),
  ),
)

pub gained_none : (gain v : ℕ) → v ≡ 0 → gained gain v ≡ 0
gained_none gain zero none = refl
gained_none gain (suc v) none = absurd (omega (arith, none))

pub gained_some : (gain v : ℕ) → 1 ≤ v → gained gain v ≡ v + gain
gained_some gain zero some = absurd (omega (arith, some))
gained_some gain (suc v) some = refl

pub gained_low : (price step gain from at v : ℕ) → from + step ≡ at → v ≤ from * price + 1 → gain ≤ step * price → gained gain v ≤ at * price + 1
gained_low price step gain from at zero sum low gains = omega arith
gained_low price step gain from at (suc v) sum low gains = omega (arith, low, gains, ap (λ n. n * price) sum)

-- a cell has room for a gain
pub cell_fits : (limit step gain at : ℕ) (cells : List ℕ) → AreCellsBelow limit cells step gain → step ≤ at → at < length cells → get_or cells (at - step) 0 + gain < limit
cell_fits limit step gain at cells b ge lt =
    let sum : at - step + step ≡ at = omega arith in
    omega (arith, b.low (at - step), b.gains, b.below at lt, ap (λ n. n * b.price) sum)

module _ (step gain : ℕ) (old ys zs : List ℕ) (some : 1 ≤ step) where
  -- one cell more was raised from the last on
  pub raised_down : (n i : ℕ) → n ≡ i + 1 → step ≤ i → get_or zs i 0 ≡ max (get_or ys i 0) (gained gain (get_or ys (i - step) 0)) → ((k : ℕ) → k ≢ i → get_or zs k 0 ≡ get_or ys k 0)
      → ((k : ℕ) → k < n → get_or ys k 0 ≡ get_or old k 0) × ((k : ℕ) → k < step → get_or ys k 0 ≡ get_or old k 0)
      × ((k : ℕ) → step ≤ k → n ≤ k → k < length old → get_or ys k 0 ≡ max (get_or old k 0) (gained gain (get_or old (k - step) 0)))
      → ((k : ℕ) → k < i → get_or zs k 0 ≡ get_or old k 0) × ((k : ℕ) → k < step → get_or zs k 0 ≡ get_or old k 0)
      × ((k : ℕ) → step ≤ k → i ≤ k → k < length old → get_or zs k 0 ≡ max (get_or old k 0) (gained gain (get_or old (k - step) 0)))
  raised_down n i next ge at others before = (
    λ k lt. let ne : k ≢ i = omega arith in others k ne ∙ before.0 k (omega arith),
    λ k lt. let ne : k ≢ i = omega arith in others k ne ∙ before.1 k lt,
    λ k le from inside. elim (cases_eq k i) [
      | inl e ↦ subst (λ j. get_or zs j 0 ≡ max (get_or old j 0) (gained gain (get_or old (j - step) 0))) (sym e)
          (at ∙ ap (λ n. max n (gained gain (get_or ys (i - step) 0))) (before.0 i (omega arith)) ∙ ap (λ n. max (get_or old i 0) (gained gain n)) (before.0 (i - step) (omega arith)))
      | inr ne ↦ others k ne ∙ before.2 k le (omega arith) inside
    ],
  )

  -- one cell more was raised from the first on
  pub raised_up : (limit i : ℕ) → step ≤ i → length zs ≡ length ys → get_or zs i 0 ≡ max (get_or ys i 0) (gained gain (get_or ys (i - step) 0)) → ((k : ℕ) → k ≢ i → get_or zs k 0 ≡ get_or ys k 0)
      → ((k : ℕ) → i ≤ k → get_or ys k 0 ≡ get_or old k 0) × ((k : ℕ) → k < step → get_or ys k 0 ≡ get_or old k 0) × AreCellsBelow limit ys step gain
      × ((k : ℕ) → step ≤ k → k < i → get_or ys k 0 ≡ max (get_or old k 0) (gained gain (get_or ys (k - step) 0)))
      → ((k : ℕ) → i + 1 ≤ k → get_or zs k 0 ≡ get_or old k 0) × ((k : ℕ) → k < step → get_or zs k 0 ≡ get_or old k 0) × AreCellsBelow limit zs step gain
      × ((k : ℕ) → step ≤ k → k < i + 1 → get_or zs k 0 ≡ max (get_or old k 0) (gained gain (get_or zs (k - step) 0)))
  raised_up limit i ge len at others before = (
    λ k le. let ne : k ≢ i = omega arith in others k ne ∙ before.0 k (omega arith),
    λ k lt. let ne : k ≢ i = omega arith in others k ne ∙ before.1 k lt,
    record {
      price = before.2.price;
      low = λ k. elim (cases_eq k i) [
        | inl e ↦ omega (arith, ap (λ j. get_or zs j 0) e, here, ap (λ j. j * before.2.price) e)
        | inr ne ↦ omega (arith, others k ne, before.2.low k)
      ];
      gains = before.2.gains;
      below = λ k lt. before.2.below k (omega (arith, len));
    },
    λ k le lt. elim (cases_eq k i) [
      | inl e ↦ subst (λ j. get_or zs j 0 ≡ max (get_or old j 0) (gained gain (get_or zs (j - step) 0))) (sym e)
          (at ∙ ap (λ n. max n (gained gain (get_or ys (i - step) 0))) (before.0 i (omega arith))
          ∙ ap (λ n. max (get_or old i 0) (gained gain n)) (let ne : i - step ≢ i = omega arith in sym (others (i - step) ne)))
      | inr ne ↦ let other : k - step ≢ i = omega arith in
          others k ne ∙ before.3 k le (omega arith) ∙ ap (λ n. max (get_or old k 0) (gained gain n)) (sym (others (k - step) other))
    ],
  )
    where
      here : get_or zs i 0 ≤ i * before.2.price + 1
      here =
          let sum : i - step + step ≡ i = omega arith in
          let offered = gained_low before.2.price step gain (i - step) i (get_or ys (i - step) 0) sum (before.2.low (i - step)) before.2.gains in
          elim (max_one (get_or ys i 0) (gained gain (get_or ys (i - step) 0)) (get_or zs i 0) at) [
            | inl e ↦ omega (arith, e, before.2.low i)
            | inr e ↦ omega (arith, e, offered)
          ]

-- a table of nothing but zeros has no entry
pub zeros_none : (cells : List ℕ) (e : Entry) → All (λ v. v ≡ 0) cells → HasCell cells e → ⊥
zeros_none cells e zeros has = elim (cases_lt e.span (length cells)) [
  | inl lt ↦ absurd (omega (arith, has, zeros e.span 0 lt))
  | inr past ↦ absurd (omega (arith, has, get_or_past cells e.span 0 past))
]

-- cells that keep to a price
pub cells_below : (limit whole step gain : ℕ) (cells : List ℕ) → length cells ≡ whole + 1 → StayBelow limit whole (HasCell cells) step gain → AreCellsBelow limit cells step gain
cells_below limit whole step gain cells len b = record {
  price = b.price;
  low = λ c. cell_low b.price cells whole c b.low;
  gains = b.gains;
  below = λ c lt. omega (arith, b.below, mul-le c b.price whole b.price (omega (arith, len)) (le_refl b.price));
}

module _ {T : Type 0} (f : T → ℕ) where
  pub offered_at : (row : List T) (i from step gain : ℕ) (x cell source : T) → i < length row → from ≡ i - step → cell ≡ get_or row i cell → source ≡ get_or row from source
      → f x ≡ max (f cell) (gained gain (f source)) → get_or (map f (slice_set row i x)) i 0 ≡ max (get_or (map f row) i 0) (gained gain (get_or (map f row) (i - step) 0))
  offered_at row i from step gain x cell source lt e cell_is source_is is =
      value_set f row i i (f x) x lt refl refl ∙ is ∙ ap (λ n. max n (gained gain (f source))) (value_at f row i cell lt cell_is)
      ∙ ap (λ n. max (get_or (map f row) i 0) (gained gain n)) (value_at f row from source (omega arith) source_is ∙ ap (λ j. get_or (map f row) j 0) e)

  pub number_put : (cells : List T) (here e : Entry) (x : T) → here.span < length cells → f x ≡ here.worth + 1
      → HasCell (map f (slice_set cells here.span x)) e ↔ ((e ≡ here) ⊎ ((e.span ≢ here.span) × HasCell (map f cells) e))
  number_put cells here e x lt is =
      subst (λ ys. HasCell ys e ↔ ((e ≡ here) ⊎ ((e.span ≢ here.span) × HasCell (map f cells) e)))
      (sym (map-set f cells here.span x ∙ ap (λ v. slice_set (map f cells) here.span v) is)) (cell_put (map f cells) here e (omega (arith, same_length f cells)))

pub cell_within : (cells : List ℕ) (e : Entry) → HasCell cells e → e.span < length cells
cell_within cells e has = elim (cases_lt e.span (length cells)) [
  | inl lt ↦ lt
  | inr past ↦ absurd (omega (arith, has, get_or_past cells e.span 0 past))
]
