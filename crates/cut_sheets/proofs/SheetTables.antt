-- Why the tables of a sheet hold the best worths: a tree is taken apart at its topmost cut.
use Rattle.std.proofs.Common.{◌≡◌, ℕ, zero, suc, ◌+◌, ◌-◌, ◌*◌, ◌^◌, ◌<◌, ◌≤◌, Bool, true, false, List, [], ◌∷◌, length, get_or, map, max, sym, refl, ap, ◌∙◌, subst, inl, inr, ◌⊎◌, arith, Vec, Global, ◌++◌, length-append, take, drop}
use Rattle.std.proofs.lemmas.Bool.{cases_lt, cases_eq}
use Rattle.std.proofs.lemmas.Nat.{mul-le}
use Rattle.std.proofs.lemmas.Grind.{common_steps}
use Rattle.std.specs.Prelude.{Contains}
use Rattle.std.proofs.lemmas.List.{get_or-take, length-take-le}
use Rattle.std.proofs.Math.ListN.{get_or-append}
use Rattle.std.proofs.Math.Seq.{get_or-append_seam}
use Rattle.cut_wants.specs.declared.wants.Want.{Want}
use Rattle.cut_tree.specs.Tree.{Tree, Rest, Piece, Trim, Cut}
use Rattle.cut_measure.specs.declared.sizes.Axis.TheVariants.{X, Y}
use Rattle.cut_wants.specs.Legal.{HasSides, IsWantedPiece, Legal, of_demand, worth_of, HaveOwnDemands}
use Rattle.cut_wants.specs.Best.{IsBest, IsBestOf}
use Rattle.cut_sheets.specs.Table.{IsPlainWorth, IsPlainRow, IsOffered, IsLifted, IsJoined, IsUncut, IsBestRow, AreBestRows, AreUseful, HaveSidesAndBoundedWorths, ArePriced, IsPricedBelow, IsBelow}
use Rattle.cut_wants.proofs.LeafSums.{of_demand_found, first_each}
use Rattle.cut_wants.proofs.NumberRows.{same_length}

-- the worth of a piece leaf is its want's
pub piece_worth : (wants : List Want) (d : ℕ) (t : Bool) (w h : ℕ) → HaveOwnDemands wants → (p : IsWantedPiece wants d t w h) → worth_of wants (Piece d t) ≡ p.0.worth
piece_worth wants d t w h own p =
    ap (λ e. of_demand (λ x. x.worth) wants e) (sym p.2) ∙ of_demand_found (λ x. x.worth) wants p.0 own p.1

product : (a b c d : ℕ) → a ≡ c → b ≡ d → a * b ≡ c * d
product a b c d e f = ap (λ n. n * b) e ∙ ap (λ n. c * n) f

-- a price of the wants is a price of each tree
pub worth_of-le_price : (price : ℕ) (wants : List Want) (t : Tree) (w h : ℕ) → HaveOwnDemands wants → ArePriced price wants → Legal wants 0 t w h
    → worth_of wants t ≤ price * (w * h)
worth_of-le_price price wants Rest w h own priced legal = omega arith
worth_of-le_price price wants (Piece d false) w h own priced p =
    let area = ap (λ n. price * n) (product p.0.size.w p.0.size.h w h p.3.0 p.3.1) in
    omega (arith, piece_worth wants d false w h own p, (priced p.0 p.1).2, area)
worth_of-le_price price wants (Piece d true) w h own priced p =
    let area = ap (λ n. price * n) (product p.0.size.h p.0.size.w w h p.3.1 p.3.2) in
    omega (arith, piece_worth wants d true w h own p, (priced p.0 p.1).2, area)
worth_of-le_price price wants (Trim X a t) w h own priced legal = absurd (omega (arith, legal.1, legal.2))
worth_of-le_price price wants (Trim Y a t) w h own priced legal = absurd (omega (arith, legal.1, legal.2))
worth_of-le_price price wants (Cut X a t u) w h own priced legal =
    let one = worth_of-le_price price wants t a h own priced legal.2 in
    let two = worth_of-le_price price wants u (w - a - 0) h own priced legal.3 in
    let parts : price * (a * h) + price * ((w - a - 0) * h) ≡ price * (w * h) = sides (w - a - 0) (omega (arith, legal.1)) in
    omega (arith, one, two)
  where
    sides : (b : ℕ) → a + b ≡ w → price * (a * h) + price * (b * h) ≡ price * (w * h)
    sides b e = omega (arith, ap (λ n. price * (n * h)) e)
worth_of-le_price price wants (Cut Y a t u) w h own priced legal =
    let one = worth_of-le_price price wants t w a own priced legal.2 in
    let two = worth_of-le_price price wants u w (h - a - 0) own priced legal.3 in
    let parts : price * (w * a) + price * (w * (h - a - 0)) ≡ price * (w * h) = sides (h - a - 0) (omega (arith, legal.1)) in
    omega (arith, one, two)
  where
    sides : (b : ℕ) → a + b ≡ h → price * (w * a) + price * (w * b) ≡ price * (w * h)
    sides b e = omega (arith, ap (λ n. price * (w * n)) e)

pub best-le_price : (price : ℕ) (wants : List Want) (w h v : ℕ) → HaveOwnDemands wants → ArePriced price wants → IsBestOf wants 0 w h v → v ≤ price * (w * h)
best-le_price price wants w h v own priced b = omega (arith, worth_of-le_price price wants b.found.0 w h own priced b.found.1, b.found.2)

pub small_priced : (wants : List Want) → HaveSidesAndBoundedWorths wants → ArePriced (2 ^ 30) wants
small_priced wants small = λ x has.
    let s = small x has in
    let one : 1 * 1 ≤ x.size.w * x.size.h = mul-le 1 1 x.size.w x.size.h s.0 s.1 in
    (s.0, s.1, omega (arith, s.2))

-- a higher price does too
pub dearer : (x : Want) (low high : ℕ) → (1 ≤ x.size.w) × (1 ≤ x.size.h) × (x.worth ≤ low * (x.size.w * x.size.h)) → low ≤ high
    → (1 ≤ x.size.w) × (1 ≤ x.size.h) × (x.worth ≤ high * (x.size.w * x.size.h))
dearer x low high at le = (at.0, at.1, omega (arith, at.2, mul-le low (x.size.w * x.size.h) high (x.size.w * x.size.h) le (omega arith)))

-- what is cut from a rectangle is cut from a wider one
pub wider : (price : ℕ) (wants : List Want) (t : Tree) (b w h : ℕ) → HaveOwnDemands wants → ArePriced price wants → Legal wants 0 t b h → b ≤ w
    → (u : Tree) × Legal wants 0 u w h × (worth_of wants u ≡ worth_of wants t)
wider price wants t b w h own priced legal le = elim (cases_eq b w) [
  | inl e ↦ (t, subst (λ c. Legal wants 0 t c h) e legal, refl)
  | inr ne ↦ elim (cases_lt 0 b) [
    | inl some ↦ let sum : worth_of wants t + 0 ≡ worth_of wants t = omega arith in (Cut X b t Rest, (some, omega arith, legal, tt), sum)
    | inr none ↦
        let e : b ≡ 0 = omega arith in
        let area : price * (b * h) ≡ price * (0 * h) = ap (λ n. price * (n * h)) e in
        let worthless : 0 ≡ worth_of wants t = omega (arith, worth_of-le_price price wants t b h own priced legal, area) in
        (Rest, tt, worthless)
  ]
]

plain_found : (wants : List Want) (w h v : ℕ) → HaveOwnDemands wants → IsPlainWorth wants w h v → (t : Tree) × Legal wants 0 t w h × IsUncut t × (worth_of wants t ≡ v)
plain_found wants w h v own plain = elim (cases_lt 0 v) [
  | inl pos ↦
      let f = plain.found pos in
      let p : IsWantedPiece wants f.0.demand f.1 w h = (f.0, f.2, refl, f.3) in
      (Piece f.0.demand f.1, p, tt, piece_worth wants f.0.demand f.1 w h own p ∙ f.4)
  | inr none ↦ let e : 0 ≡ v = omega arith in (Rest, tt, tt, e)
]

-- a want was offered upright and turned
pub plain_more : (wants : List Want) (i : ℕ) (x : Want) (h : ℕ) (old mid new : List ℕ) → i < length wants → x ≡ get_or wants i x → length mid ≡ length old → length new ≡ length mid
    → IsPlainRow (take i wants) h old → IsOffered x false h old mid → IsOffered x true h mid new → IsPlainRow (take (i + 1) wants) h new
plain_more wants i x h old mid new il is mid_len new_len plain up turn = λ w wl. record {
  most = λ y turned has sides.
      first_each (λ z. (b : Bool) → HasSides z b w h → z.worth ≤ get_or new w 0) wants i x il
      (λ z zs b bs. omega (arith, (plain w (omega arith)).most z b zs bs, up.kept w, turn.kept w))
      (subst (λ z. (b : Bool) → HasSides z b w h → z.worth ≤ get_or new w 0) is (here w wl)) y has turned sides;
  found = λ pos. elim (cases_lt (get_or mid w 0) (get_or new w 0)) [
    | inl more ↦ let f = turn.found w more in (x, true, last, f.0, f.1)
    | inr same ↦ elim (cases_lt (get_or old w 0) (get_or mid w 0)) [
      | inl more ↦
          let f = up.found w more in
          let e : x.worth ≡ get_or new w 0 = omega (arith, f.1, turn.kept w) in
          (x, false, last, f.0, e)
      | inr same' ↦
          let f = (plain w (omega arith)).found (omega (arith, up.kept w, turn.kept w)) in
          let e : f.0.worth ≡ get_or new w 0 = omega (arith, f.4, up.kept w, turn.kept w) in
          (f.0, f.1, before f.0 f.2, f.3, e)
    ]
  ];
}
  where
    here : (w : ℕ) → w < length new → (b : Bool) → HasSides x b w h → x.worth ≤ get_or new w 0
    here w wl false sides = omega (arith, up.most w (omega arith) sides, turn.kept w)
    here w wl true sides = turn.most w (omega arith) sides

    last : Contains (take (i + 1) wants) x
    last = let len = length-take-le (i + 1) wants (omega arith) in (i, omega arith, get_or-take (i + 1) wants i x (omega arith) ∙ sym is)

    before : (y : Want) → Contains (take i wants) y → Contains (take (i + 1) wants) y
    before y (k, lt, e) =
        let len = length-take-le (i + 1) wants (omega arith) in
        let len' = length-take-le i wants (omega arith) in
        (k, omega arith, get_or-take (i + 1) wants k y (omega arith) ∙ sym (get_or-take i wants k y (omega arith)) ∙ e)

pub lifted_first : (wants : List Want) (w v : ℕ) → HaveOwnDemands wants → IsPlainWorth wants w 0 v → IsLifted wants w 0 v
lifted_first wants w v own plain = record {
  most = plain.most;
  above = λ u one b. absurd (omega arith);
  found = plain_found wants w 0 v own plain;
}

pub lifted_more : (price : ℕ) (wants : List Want) (w h v low high v' : ℕ) → HaveOwnDemands wants → ArePriced price wants → 1 ≤ h → IsPlainWorth wants w h v
    → IsBestOf wants 0 w 0 low → IsBestOf wants 0 w (h - 1) high → v' ≡ max v (low + high) → IsLifted wants w h v'
lifted_more price wants w h v low high v' own priced one plain lows highs is =
    let none : low ≡ 0 = omega (arith, best-le_price price wants w 0 low own priced lows) in
    record {
      most = λ x turned has sides. omega (arith, plain.most x turned has sides);
      above = λ u some b. omega (arith, b.found.2, highs.most b.found.0 b.found.1);
      found = elim (cases_lt v high) [
        | inl more ↦
            let t = highs.found in
            let at : worth_of wants t.0 ≡ v' = omega (arith, t.2) in
            elim (cases_lt 0 (h - 1)) [
              | inl some ↦ let sum : worth_of wants t.0 + 0 ≡ v' = omega (arith, at) in (Cut Y (h - 1) t.0 Rest, (some, omega arith, t.1, tt), tt, sum)
              | inr none_below ↦
                  let e : h - 1 ≡ 0 = omega arith in
                  let area : price * (w * (h - 1)) ≡ price * (w * 0) = ap (λ n. price * (w * n)) e in
                  absurd (omega (arith, best-le_price price wants w (h - 1) high own priced highs, area))
            ]
        | inr no_more ↦ let t = plain_found wants w h v own plain in let e : worth_of wants t.0 ≡ v' = omega (arith, t.3) in (t.0, t.1, t.2, e)
      ];
    }

-- the cuts between top and bottom that were tried when the next is n
abbrev pub IsTried : ℕ → ℕ → Tree → Type 0
IsTried n h Rest = Unit {0}
IsTried n h (Piece d t) = Unit {0}
IsTried n h (Cut Y a t u) = (a < n) ⊎ (h < a + n)
IsTried n h (Trim X a t) = ⊥
IsTried n h (Trim Y a t) = ⊥
IsTried n h (Cut X a t u) = ⊥

-- a tree that doesn't begin with a cut across the width, worth no less than those tried and the best of the height below
pub record IsBestTried (wants : List Want) (n w h v : ℕ) : Type 0 where
  pub above : (u : ℕ) → 1 ≤ h → IsBestOf wants 0 w (h - 1) u → u ≤ v
  pub found : (t : Tree) × Legal wants 0 t w h × IsUncut t × (worth_of wants t ≡ v)
  pub most : (t : Tree) → Legal wants 0 t w h → IsTried n h t → worth_of wants t ≤ v

pub tried_first : (wants : List Want) (w h v : ℕ) → HaveOwnDemands wants → IsLifted wants w h v → IsBestTried wants 1 w h v
tried_first wants w h v own lifted = record { above = lifted.above; found = lifted.found; most = below }
  where
    below : (t : Tree) → Legal wants 0 t w h → IsTried 1 h t → worth_of wants t ≤ v
    below Rest l s = omega arith
    below (Piece d t) l s = omega (arith, piece_worth wants d t w h own l, lifted.most l.0 t l.1 l.3)
    below (Trim X a t) l s = absurd s
    below (Trim Y a t) l s = absurd s
    below (Cut X a t u) l s = absurd s
    below (Cut Y a t u) l s = absurd (elim s [ inl lt ↦ omega (arith, l.0) | inr gt ↦ omega (arith, l.1) ])

-- what is worth no less than before and than the two best parts was tried with one cut more
tried_up : (wants : List Want) (w h n m v low high v' : ℕ) → n + m ≡ h → ((t : Tree) → Legal wants 0 t w h → IsTried n h t → worth_of wants t ≤ v)
    → IsBestOf wants 0 w n low → IsBestOf wants 0 w m high → v ≤ v' → low + high ≤ v'
    → (t : Tree) → Legal wants 0 t w h → IsTried (n + 1) h t → worth_of wants t ≤ v'
tried_up wants w h n m v low high v' sum before lows highs up parts = below
  where
    kept : (t : Tree) → Legal wants 0 t w h → IsTried n h t → worth_of wants t ≤ v'
    kept t l s = omega (arith, before t l s)

    both : (a b : ℕ) (t u : Tree) → Legal wants 0 t w a → Legal wants 0 u w b → ((a ≡ n) × (b ≡ m)) ⊎ ((a ≡ m) × (b ≡ n)) → worth_of wants t + worth_of wants u ≤ v'
    both a b t u lt lu way = elim way [
      | inl e ↦ omega (arith, lows.most t (subst (λ c. Legal wants 0 t w c) e.0 lt), highs.most u (subst (λ c. Legal wants 0 u w c) e.1 lu))
      | inr e ↦ omega (arith, highs.most t (subst (λ c. Legal wants 0 t w c) e.0 lt), lows.most u (subst (λ c. Legal wants 0 u w c) e.1 lu))
    ]

    below : (t : Tree) → Legal wants 0 t w h → IsTried (n + 1) h t → worth_of wants t ≤ v'
    below Rest l s = kept Rest l tt
    below (Piece d t) l s = kept (Piece d t) l tt
    below (Trim X a t) l s = absurd s
    below (Trim Y a t) l s = absurd s
    below (Cut X a t u) l s = absurd s
    below (Cut Y a t u) l s =
        elim (cases_lt a n) [
          | inl lt ↦ kept (Cut Y a t u) l (inl lt)
          | inr ge ↦ elim (cases_lt h (a + n)) [
            | inl lt ↦ kept (Cut Y a t u) l (inr lt)
            | inr ge' ↦ both a (h - a - 0) t u l.2 l.3 (elim s [
              | inl near ↦ inl (omega arith, omega arith)
              | inr far ↦ inr (omega arith, omega arith)
            ])
          ]
        ]

pub tried_next : (wants : List Want) (w h n m v low high v' : ℕ) → 1 ≤ n → n ≤ m → n + m ≡ h → IsBestTried wants n w h v
    → IsBestOf wants 0 w n low → IsBestOf wants 0 w m high → v' ≡ max v (low + high) → IsBestTried wants (n + 1) w h v'
tried_next wants w h n m v low high v' one nm sum old lows highs is = record {
  above = λ u some b. omega (arith, old.above u some b);
  found = elim (cases_lt v (low + high)) [
    | inl lt ↦
        let t = lows.found in
        let u = highs.found in
        let here : m ≡ h - n - 0 = omega arith in
        let u_legal : Legal wants 0 u.0 w (h - n - 0) = subst (λ b. Legal wants 0 u.0 w b) here u.1 in
        let e : worth_of wants t.0 + worth_of wants u.0 ≡ v' = omega (arith, t.2, u.2) in
        (Cut Y n t.0 u.0, (one, omega arith, t.1, u_legal), tt, e)
    | inr ge ↦
        let t = old.found in
        let e : worth_of wants t.0 ≡ v' = omega (arith, t.3) in
        (t.0, t.1, t.2, e)
  ];
  most = tried_up wants w h n m v low high v' sum old.most lows highs (omega arith) (omega arith);
}

-- two heights together give no less than each by itself
together : (price : ℕ) (wants : List Want) (w a b low high top : ℕ) → HaveOwnDemands wants → ArePriced price wants
    → IsBestOf wants 0 w a low → IsBestOf wants 0 w b high → IsBestOf wants 0 w (a + b) top → low + high ≤ top
together price wants w a b low high top own priced lows highs tops = elim (cases_lt 0 a) [
  | inr no_low ↦
      let e : a ≡ 0 = omega arith in
      let area : price * (w * a) ≡ price * (w * 0) = ap (λ n. price * (w * n)) e in
      let all : a + b ≡ b = omega arith in
      omega (arith, best-le_price price wants w a low own priced lows, area, highs.found.2, tops.most highs.found.0 (subst (λ n. Legal wants 0 highs.found.0 w n) (sym all) highs.found.1))
  | inl some ↦ elim (cases_lt 0 b) [
    | inr no_high ↦
        let e : b ≡ 0 = omega arith in
        let area : price * (w * b) ≡ price * (w * 0) = ap (λ n. price * (w * n)) e in
        let all : a + b ≡ a = omega arith in
        omega (arith, best-le_price price wants w b high own priced highs, area, lows.found.2, tops.most lows.found.0 (subst (λ n. Legal wants 0 lows.found.0 w n) (sym all) lows.found.1))
    | inl some_high ↦
        let there : b ≡ a + b - a - 0 = omega arith in
        let u_legal : Legal wants 0 highs.found.0 w (a + b - a - 0) = subst (λ n. Legal wants 0 highs.found.0 w n) there highs.found.1 in
        omega (arith, lows.found.2, highs.found.2, tops.most (Cut Y a lows.found.0 highs.found.0) (some, omega arith, lows.found.1, u_legal))
  ]
]

-- a cut needs no trial where one of its heights gives no more than the one below it
pub tried_same : (price : ℕ) (wants : List Want) (w h n m v low high top : ℕ) → HaveOwnDemands wants → ArePriced price wants → 1 ≤ n → 1 ≤ m → n + m ≡ h
    → IsBestTried wants n w h v → IsBestOf wants 0 w n low → IsBestOf wants 0 w m high → IsBestOf wants 0 w (h - 1) top
    → IsBestOf wants 0 w (n - 1) low ⊎ IsBestOf wants 0 w (m - 1) high → IsBestTried wants (n + 1) w h v
tried_same price wants w h n m v low high top own priced one one' sum old lows highs tops way = record {
  above = old.above;
  found = old.found;
  most = tried_up wants w h n m v low high v sum old.most lows highs (omega arith) parts;
}
  where
    parts : low + high ≤ v
    parts = elim way [
      | inl less ↦
          let e : h - 1 ≡ n - 1 + m = omega arith in
          omega (arith, together price wants w (n - 1) m low high top own priced less highs (subst (λ i. IsBestOf wants 0 w i top) e tops), old.above top (omega arith) tops)
      | inr less ↦
          let e : h - 1 ≡ n + (m - 1) = omega arith in
          omega (arith, together price wants w n (m - 1) low high top own priced lows less (subst (λ i. IsBestOf wants 0 w i top) e tops), old.above top (omega arith) tops)
    ]

-- once half the height was tried, all was
pub tried_all : (wants : List Want) (w h n v : ℕ) → h < n + n → IsBestTried wants n w h v → IsBest wants (λ t. Legal wants 0 t w h × IsUncut t) v
tried_all wants w h n v half best = record {
  found = let t = best.found in (t.0, (t.1, t.2), t.3);
  most = λ t ok. best.most t ok.0 (tried t ok.1);
}
  where
    tried : (t : Tree) → IsUncut t → IsTried n h t
    tried Rest s = tt
    tried (Piece d t) s = tt
    tried (Trim X a t) s = s
    tried (Trim Y a t) s = s
    tried (Cut X a t u) s = s
    tried (Cut Y a t u) s = elim (cases_lt a n) [ inl lt ↦ inl lt | inr ge ↦ inr (omega arith) ]

-- two best trees side by side in a width that has room for both
beside : (price : ℕ) (wants : List Want) (w h a b : ℕ) (t u : Tree) → HaveOwnDemands wants → ArePriced price wants → a < w → b < w → a + b ≤ w
    → Legal wants 0 t a h → Legal wants 0 u b h → (s : Tree) × Legal wants 0 s w h × (worth_of wants s ≡ worth_of wants t + worth_of wants u)
beside price wants w h a b t u own priced aw bw span tl ul = elim (cases_lt 0 a) [
  | inl some ↦
      let there : b ≤ w - a - 0 = omega arith in
      let v = wider price wants u b (w - a - 0) h own priced ul there in
      let sum : worth_of wants t + worth_of wants v.0 ≡ worth_of wants t + worth_of wants u = omega (arith, v.2) in
      (Cut X a t v.0, (some, omega arith, tl, v.1), sum)
  | inr none ↦
      let v = wider price wants u b w h own priced ul (omega arith) in
      let e : a ≡ 0 = omega arith in
      let area : price * (a * h) ≡ price * (0 * h) = ap (λ n. price * (n * h)) e in
      let sum : worth_of wants v.0 ≡ worth_of wants t + worth_of wants u = omega (arith, v.2, area, worth_of-le_price price wants t a h own priced tl) in
      (v.0, v.1, sum)
]

-- a row of best worths without cuts across the width becomes one of best worths
joined_step : (price : ℕ) (wants : List Want) (h : ℕ) (old new : List ℕ) → HaveOwnDemands wants → ArePriced price wants → IsJoined old new
    → ((w : ℕ) → w < length old → IsBest wants (λ t. Legal wants 0 t w h × IsUncut t) (get_or old w 0))
    → (w : ℕ) → w < length old → ((k : ℕ) → k < w → IsBestOf wants 0 k h (get_or new k 0)) → IsBestOf wants 0 w h (get_or new w 0)
joined_step price wants h old new own priced j bests w wl before = record {
  found = elim (cases_lt (get_or old w 0) (get_or new w 0)) [
    | inl more ↦
        let f = j.found w wl more in
        let t = (before f.0 f.2).found in
        let u = (before f.1 f.3).found in
        let s = beside price wants w h f.0 f.1 t.0 u.0 own priced f.2 f.3 f.4 t.1 u.1 in
        let e : worth_of wants s.0 ≡ get_or new w 0 = omega (arith, t.2, u.2, s.2, f.5) in
        (s.0, s.1, e)
    | inr no_more ↦
        let t = (bests w wl).found in
        let e : worth_of wants t.0 ≡ get_or new w 0 = omega (arith, t.2, j.kept w wl) in
        (t.0, t.1.0, e)
  ];
  most = below;
}
  where
    kept : (t : Tree) → Legal wants 0 t w h → IsUncut t → worth_of wants t ≤ get_or new w 0
    kept t l s = omega (arith, (bests w wl).most t (l, s), j.kept w wl)

    below : (t : Tree) → Legal wants 0 t w h → worth_of wants t ≤ get_or new w 0
    below Rest l = kept Rest l tt
    below (Piece d t) l = kept (Piece d t) l tt
    below (Trim X a t) l = absurd (omega (arith, l.1, l.2))
    below (Trim Y a t) l = absurd (omega (arith, l.1, l.2))
    below (Cut Y a t u) l = kept (Cut Y a t u) l tt
    below (Cut X a t u) l =
        let one = (before a (omega (arith, l.1))).most t l.2 in
        let two = (before (w - a - 0) (omega (arith, l.0, l.1))).most u l.3 in
        elim (cases_lt w (a + a)) [
          | inr near ↦
              let e : w - a - 0 ≡ w - a = omega arith in
              omega (arith, one, two, j.cuts w a wl l.0 near, ap (λ c. get_or new c 0) e)
          | inl far ↦
              let e : w - (w - a - 0) ≡ a = omega (arith, l.1) in
              omega (arith, one, two, j.cuts w (w - a - 0) wl (omega (arith, l.1)) (omega arith), ap (λ c. get_or new c 0) e)
        ]

pub joined_best : (price : ℕ) (wants : List Want) (h : ℕ) (old new : List ℕ) → HaveOwnDemands wants → ArePriced price wants → IsJoined old new
    → ((w : ℕ) → w < length old → IsBest wants (λ t. Legal wants 0 t w h × IsUncut t) (get_or old w 0))
    → (n w : ℕ) → w < n → w < length old → IsBestOf wants 0 w h (get_or new w 0)
joined_best price wants h old new own priced j bests zero w wn wl = absurd (omega arith)
joined_best price wants h old new own priced j bests (suc n) w wn wl =
    joined_step price wants h old new own priced j bests w wl (λ k lt. joined_best price wants h old new own priced j bests n k (omega arith) (omega arith))

-- a want with room in the row is worth less than the limit
pub piece_fits : (limit : ℕ) (wants : List Want) (places h w : ℕ) (x : Want) (turned : Bool) → IsPricedBelow limit wants places h → Contains wants x → w < places
    → HasSides x turned w h → x.worth < limit
piece_fits limit wants places h w x false fits has wp sides =
    let area = ap (λ n. fits.price * n) (product x.size.w x.size.h w h sides.0 sides.1) in
    omega (arith, (fits.priced x has).2, area, fits.below w wp)
piece_fits limit wants places h w x true fits has wp sides =
    let area = ap (λ n. fits.price * n) (product x.size.h x.size.w w h sides.1 sides.2) in
    omega (arith, (fits.priced x has).2, area, fits.below w wp)

-- two parts that the height has room for
pub sum_fits : (limit : ℕ) (wants : List Want) (places w h n m low high : ℕ) → HaveOwnDemands wants → IsPricedBelow limit wants places h → w < places → n + m ≤ h
    → IsBestOf wants 0 w n low → IsBestOf wants 0 w m high → low + high < limit
sum_fits limit wants places w h n m low high own fits wp span lows highs =
    let area : w * (n + m) ≤ w * h = mul-le w (n + m) w h (omega arith) span in
    let whole : fits.price * (w * (n + m)) ≤ fits.price * (w * h) = mul-le fits.price (w * (n + m)) fits.price (w * h) (omega arith) area in
    omega (arith, best-le_price fits.price wants w n low own fits.priced lows, best-le_price fits.price wants w m high own fits.priced highs, whole, fits.below w wp)

abbrev pub TriedRow : List Want → ℕ → ℕ → List ℕ → Type 0
TriedRow wants n h row = (w : ℕ) → w < length row → IsBestTried wants n w h (get_or row w 0)

pub uncut_below : (limit : ℕ) (wants : List Want) (h : ℕ) (row : List ℕ) → HaveOwnDemands wants → IsPricedBelow limit wants (length row) h
    → ((w : ℕ) → w < length row → IsBest wants (λ t. Legal wants 0 t w h × IsUncut t) (get_or row w 0)) → IsBelow limit row
uncut_below limit wants h row own fits best = record {
  per = fits.price * h;
  each = λ w wl.
      let b = best w wl in
      omega (arith, worth_of-le_price fits.price wants b.found.0 w h own fits.priced b.found.1.0, b.found.2);
  below = λ w wl. omega (arith, fits.below w wl);
}

pub fits_lower : (limit : ℕ) (wants : List Want) (places h n : ℕ) → IsPricedBelow limit wants places h → n ≤ h → IsPricedBelow limit wants places n
fits_lower limit wants places h n fits le = record {
  price = fits.price;
  priced = fits.priced;
  below = λ w wp.
      let area : w * n ≤ w * h = mul-le w n w h (omega arith) le in
      let whole : fits.price * (w * n) ≤ fits.price * (w * h) = mul-le fits.price (w * n) fits.price (w * h) (omega arith) area in
      omega (arith, fits.below w wp);
}

pub fits_whole : (limit price : ℕ) (wants : List Want) (width height : ℕ) → ArePriced price wants → price * (width * height) < limit → IsPricedBelow limit wants (width + 1) height
fits_whole limit price wants width height priced lt = record {
  price = price;
  priced = priced;
  below = λ w wp.
      let area : w * height ≤ width * height = mul-le w height width height (omega arith) (omega arith) in
      let whole : price * (w * height) ≤ price * (width * height) = mul-le price (w * height) price (width * height) (omega arith) area in
      omega arith;
}

some_of : {T : Type 0} (rows : List (Vec T Global)) → 0 < length rows → Vec T Global
some_of [] lt = absurd (omega arith)
some_of (row ∷ rows) lt = row

module _ {T : Type 0} (value : T → ℕ) where
  pub row_worth : (wants : List Want) (places : ℕ) (rows : List (Vec T Global)) (w h : ℕ) → AreBestRows value wants places rows → w < places → h < length rows
      → (b : ℕ) × IsBestOf wants 0 w h b
  row_worth wants places rows w h table wp hl =
      let d = some_of rows (omega arith) in
      (get_or (map value (get_or rows h d).items) w 0, (table h d hl).best w wp)

  -- what a row of the table says, read as a slice
  pub row_best : (wants : List Want) (places : ℕ) (rows : List (Vec T Global)) (h : ℕ) (row : Vec T Global) (s : List T) → AreBestRows value wants places rows
      → row ≡ get_or rows h row → s ≡ row.items → h < length rows → (w : ℕ) → w < places → IsBestOf wants 0 w h (get_or (map value s) w 0)
  row_best wants places rows h row s table is items hl w wl =
      let b = subst (λ (r : Vec T Global). IsBestRow wants places h (map value r.items)) (sym is) (table h row hl) in
      subst (λ r. IsBestOf wants 0 w h (get_or (map value r) w 0)) (sym items) (b.best w wl)

  pub row_len : (wants : List Want) (places : ℕ) (rows : List (Vec T Global)) (h : ℕ) (row : Vec T Global) → AreBestRows value wants places rows → row ≡ get_or rows h row
      → h < length rows → length row.items ≡ places
  row_len wants places rows h row table is hl =
      sym (same_length value row.items) ∙ (subst (λ (r : Vec T Global). IsBestRow wants places h (map value r.items)) (sym is) (table h row hl)).len

  pub table_push : (wants : List Want) (places : ℕ) (rows : List (Vec T Global)) (row : Vec T Global) → AreBestRows value wants places rows
      → IsBestRow wants places (length rows) (map value row.items) → AreBestRows value wants places (rows ++ row ∷ [])
  table_push wants places rows row table new = λ h d hl. elim (cases_lt h (length rows)) [
    | inl lt ↦ subst (λ (r : Vec T Global). IsBestRow wants places h (map value r.items)) (sym (get_or-append rows (row ∷ []) d h lt)) (table h d lt)
    | inr ge ↦
        let e : h ≡ length rows = omega (arith, length-append rows (row ∷ [])) in
        let r = subst (λ (r : Vec T Global). IsBestRow wants places (length rows) (map value r.items)) (sym (get_or-append_seam rows row [] d)) new in
        subst (λ i. IsBestRow wants places i (map value (get_or (rows ++ row ∷ []) i d).items)) (sym e) r
  ]

pub useful_push : (wants : List Want) (places : ℕ) (useful : List Bool) (new : Bool) → AreUseful wants places useful
    → (new ≡ false → (w v : ℕ) → w < places → IsBestOf wants 0 w (length useful) v → IsBestOf wants 0 w (length useful - 1) v)
    → AreUseful wants places (useful ++ new ∷ [])
useful_push wants places useful new old more = λ h d hl is. elim (cases_lt h (length useful)) [
  | inl lt ↦ old h d lt (sym (get_or-append useful (new ∷ []) d h lt) ∙ is)
  | inr ge ↦
      let e : h ≡ length useful = omega (arith, length-append useful (new ∷ [])) in
      let no : new ≡ false = sym (get_or-append_seam useful new [] d) ∙ ap (λ i. get_or (useful ++ new ∷ []) i d) (sym e) ∙ is in
      subst (λ i. (w v : ℕ) → w < places → IsBestOf wants 0 w i v → IsBestOf wants 0 w (i - 1) v) (sym e) (more no)
]

-- a slice that was written whole
pub whole_write : {T : Type 0} (n : ℕ) (new old : List T) → n ≡ length new → length old ≡ length new → take n (new ++ drop (length new) old) ≡ new
whole_write n new old e len = grind (arith, common_steps)
