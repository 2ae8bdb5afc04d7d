-- A span that is divided between the pieces of two parts of the wants.
use Rattle.std.proofs.Common.{◌≡◌, ℕ, ◌+◌, ◌-◌, ◌*◌, ◌/◌, ◌^◌, ◌<◌, ◌≤◌, ◌++◌, ◌⊎◌, List, [], ◌∷◌, length, take, drop, get_or, sym, refl, ap, ◌∙◌, subst, inl, inr, min, max, arith}
use Rattle.std.specs.Prelude.{Contains, slice_set, ◌↔◌}
use Rattle.std.proofs.lemmas.Bool.{cases_lt}
use Rattle.std.proofs.lemmas.List.{get_or_default, take-append-drop}
use Rattle.std.proofs.lemmas.List.Elements.{Contains-get_or, Contains-append_cases, Contains-append_left, Contains-append_right}
use Rattle.std.proofs.lemmas.Nat.{mul-le}
use Rattle.std.proofs.Math.Nat.{le_refl, le-max_left, le-max_right, div-mul-le_self}
use Rattle.cut_wants.specs.declared.wants.Want.{Want}
use Rattle.cut_bars.specs.declared.reach.Entry.{Entry}
use Rattle.cut_bars.specs.Counts.{AreCounts, AreBestCounts, HaveLength, total_of, span_taken, worth_of_counts}
use Rattle.cut_bars.specs.Reached.{AreReached, AreRising, ArePricedBelow, HaveSmallWorths, HaveWorthsBoundedBySpan, IsGreatestAt}
use Rattle.cut_bars.specs.Levels.{HasCell, IsBestDivision, IsBestSpanForFirst, IsWorthierOf}
use Rattle.cut_bars.proofs.JoinedEntries.{none, same_entry}
use Rattle.cut_wants.proofs.LeafSums.{Contains-cases}
use Rattle.cut_bars.proofs.OfferedPieces.{entry_below, low_wider, fit_within}
use Rattle.cut_bars.proofs.RaisedCells.{max_one}
use Rattle.cut_bars.proofs.WantEntries.{reached_low}

-- counts of two parts of the wants
pub total_append : (f : Want → ℕ) (xs ys : List Want) (ns ms : List ℕ) → AreCounts xs ns → total_of f (xs ++ ys) (ns ++ ms) ≡ total_of f xs ns + total_of f ys ms
total_append f [] ys [] ms is = omega arith
total_append f [] ys (a ∷ ns) ms is = absurd is
total_append f (x ∷ xs) ys [] ms is = absurd is
total_append f (x ∷ xs) ys (a ∷ ns) ms is = omega (arith, total_append f xs ys ns ms is.1)

counts_append : (xs ys : List Want) (ns ms : List ℕ) → AreCounts xs ns → AreCounts ys ms → AreCounts (xs ++ ys) (ns ++ ms)
counts_append [] ys [] ms is are = are
counts_append [] ys (a ∷ ns) ms is are = absurd is
counts_append (x ∷ xs) ys [] ms is are = absurd is
counts_append (x ∷ xs) ys (a ∷ ns) ms is are = (is.0, counts_append xs ys ns ms is.1 are)

counts_parts : (xs ys : List Want) (all : List ℕ) → AreCounts (xs ++ ys) all → (ns : List ℕ) × (ms : List ℕ) × AreCounts xs ns × AreCounts ys ms × (all ≡ ns ++ ms)
counts_parts [] ys all is = ([], all, tt, is, refl)
counts_parts (x ∷ xs) ys [] is = absurd is
counts_parts (x ∷ xs) ys (a ∷ all) is =
    let p = counts_parts xs ys all is.1 in
    (a ∷ p.0, p.1, (is.0, p.2), p.3, ap (λ l. a ∷ l) p.4)

-- what best counts within a span are worth, and what entries are
module _ (k whole : ℕ) (xs : List Want) (has : Entry → Type 0) (r : AreReached k xs whole has) where
  entry_worth : (ns : List ℕ) → AreCounts xs ns → span_taken k xs ns ≤ whole → (e : Entry) × has e × (e.span ≡ span_taken k xs ns) × (worth_of_counts xs ns ≤ e.worth)
  entry_worth ns is fits =
      let e = r.each ns is fits in
      let span : e.0.span ≡ span_taken k xs ns = e.2 in
      (e.0, e.1, span, (r.only e.0 e.1).1.most ns is (sym span))

  best_worth : (at : ℕ) (ns : List ℕ) (e : Entry) → AreBestCounts k xs at ns → has e → e.span ≤ at → e.worth ≤ worth_of_counts xs ns
  best_worth at ns e best there le = from (r.only e there).1
    where
      from : IsGreatestAt k xs e.span e.worth → e.worth ≤ worth_of_counts xs ns
      from g =
          let takes = g.takes in
          let value = g.value in
          let most = best.most g.counts g.within (omega (arith, takes, le)) in
          omega (arith, value, most)

pub best_span : (k whole at : ℕ) (xs ys : List Want) (prefix back : Entry → Type 0) → AreReached k xs whole prefix → AreReached k ys whole back → IsBestDivision whole at prefix back
    → IsBestSpanForFirst k xs ys whole at
best_span k whole at xs ys prefix back r s d = record {
  within = omega (arith, d.rest);
  best = λ ns ms a b. record {
    within = counts_append xs ys ns ms a.within b.within;
    fit = omega (arith, total_append (λ x. x.size.w + k) xs ys ns ms a.within, a.fit, b.fit, d.rest);
    most = λ others is fits. most ns ms a b others (counts_parts xs ys others is) fits;
  };
}
  where
    most : (ns ms : List ℕ) → AreBestCounts k xs at ns → AreBestCounts k ys (whole - at) ms → (others : List ℕ)
        → ((ps : List ℕ) × (qs : List ℕ) × AreCounts xs ps × AreCounts ys qs × (others ≡ ps ++ qs)) → span_taken k (xs ++ ys) others ≤ whole
        → worth_of_counts (xs ++ ys) others ≤ worth_of_counts (xs ++ ys) (ns ++ ms)
    most ns ms a b others (ps, qs, p, q, e) fits =
        let span = ap (λ l. span_taken k (xs ++ ys) l) e ∙ total_append (λ x. x.size.w + k) xs ys ps qs p in
        let worth = ap (λ l. worth_of_counts (xs ++ ys) l) e ∙ total_append (λ x. x.worth) xs ys ps qs p in
        let x = entry_worth k whole xs prefix r ps p (omega (arith, span, fits)) in
        let y = entry_worth k whole ys back s qs q (omega (arith, span, fits)) in
        let one = best_worth k whole xs prefix r at ns d.one a d.in_prefix d.fits in
        let other = best_worth k whole ys back s (whole - at) ms d.other b d.in_back (omega (arith, d.rest)) in
        let both = d.most x.0 y.0 x.1 y.1 (omega (arith, x.2, y.2, span, fits)) in
        omega (arith, worth, total_append (λ x. x.worth) xs ys ns ms a.within, x.3, y.3, both, one, other)

-- the best counts of no want and of one
pub best_none : (k whole : ℕ) (xs : List Want) (ns : List ℕ) → length xs ≡ 0 → length ns ≡ length xs → HaveLength xs × AreBestCounts k xs whole ns
best_none k whole [] [] none len = (λ x (i, lt, is). absurd (omega arith), record { within = tt; fit = omega arith; most = λ others is fits. omega arith })
best_none k whole [] (a ∷ ns) none len = absurd (omega (arith, len))
best_none k whole (x ∷ xs) ns none len = absurd (omega (arith, none))

-- wants of one are that one
pub wants_one : (k whole : ℕ) (xs : List Want) (x : Want) (ns : List ℕ) (n : ℕ) → length xs ≡ 1 → length ns ≡ length xs → x ≡ get_or xs 0 x → 1 ≤ x.size.w → AreBestCounts k (x ∷ []) whole (n ∷ [])
    → HaveLength xs × AreBestCounts k xs whole (slice_set ns 0 n)
wants_one k whole [] x ns n one len is some best = absurd (omega (arith, one))
wants_one k whole (y ∷ []) x [] n one len is some best = absurd (omega (arith, len))
wants_one k whole (y ∷ []) x (m ∷ []) n one len is some best = (
  λ z has. elim (Contains-cases y [] z has) [
    | inl e ↦ subst (λ (z : Want). 1 ≤ z.size.w) (is ∙ e) some
    | inr (i, lt, at) ↦ absurd (omega arith)
  ],
  subst (λ y. AreBestCounts k (y ∷ []) whole (n ∷ [])) is best,
)
wants_one k whole (y ∷ []) x (m ∷ o ∷ os) n one len is some best = absurd (omega (arith, len))
wants_one k whole (y ∷ z ∷ zs) x ns n one len is some best = absurd (omega (arith, one))

-- the two parts of a list
pub taken : (P : Want → Type 0) (n : ℕ) (xs : List Want) → ((x : Want) → Contains xs x → P x) → (x : Want) → Contains (take n xs) x → P x
taken P n xs each x has = each x (subst (λ ys. Contains ys x) (take-append-drop n xs) (Contains-append_left (take n xs) (drop n xs) x has))

pub dropped : (P : Want → Type 0) (n : ℕ) (xs : List Want) → ((x : Want) → Contains xs x → P x) → (x : Want) → Contains (drop n xs) x → P x
dropped P n xs each x has = each x (subst (λ ys. Contains ys x) (take-append-drop n xs) (Contains-append_right (take n xs) (drop n xs) x has))

pub both_parts : (n : ℕ) (xs prefix back : List Want) → prefix ≡ take n xs → back ≡ drop n xs → prefix ++ back ≡ xs
both_parts n xs prefix back first others = ap (λ l. l ++ back) first ∙ ap (λ l. take n xs ++ l) others ∙ take-append-drop n xs

-- of two parts, both have lengths
pub lengths_append : (xs ys : List Want) → HaveLength xs → HaveLength ys → HaveLength (xs ++ ys)
lengths_append xs ys first others x has = elim (Contains-append_cases xs ys x has) [
  | inl h ↦ first x h
  | inr h ↦ others x h
]

pub best_one : (k whole n : ℕ) (x : Want) → 1 ≤ x.size.w + k → n ≡ min (whole / (x.size.w + k)) x.left → AreBestCounts k (x ∷ []) whole (n ∷ [])
best_one k whole n x some is_n = record {
  within = (omega (arith, is_n), tt);
  fit =
      let few : n ≤ whole / (x.size.w + k) = omega (arith, is_n) in
      omega (arith, mul-le n (x.size.w + k) (whole / (x.size.w + k)) (x.size.w + k) few (le_refl (x.size.w + k)), div-mul-le_self whole (x.size.w + k));
  most = λ others is span. most others is span;
}
  where
    held : (m : ℕ) → m ≤ x.left → (x.size.w + k) * m ≤ whole → m ≤ n
    held m few fits =
        let le = fit_within (x.size.w + k) m whole some (omega (arith, fits)) in
        omega (arith, is_n, le)

    most : (others : List ℕ) → AreCounts (x ∷ []) others → span_taken k (x ∷ []) others ≤ whole → worth_of_counts (x ∷ []) others ≤ worth_of_counts (x ∷ []) (n ∷ [])
    most [] is span = absurd is
    most (m ∷ []) is span = omega (arith, mul-le x.worth m x.worth n (le_refl x.worth) (held m is.0 (omega (arith, span))))
    most (m ∷ o ∷ os) is span = absurd is.1

-- the entries of some wants are small
pub small_worths : (limit k whole : ℕ) (xs : List Want) (has : Entry → Type 0) → ArePricedBelow limit k whole xs → AreReached k xs whole has → HaveSmallWorths limit whole has
small_worths limit k whole xs has p r = record {
  none =
      let e = r.each (zeros xs) (few xs) (omega (arith, nothing xs)) in
      let span : e.0.span ≡ span_taken k xs (zeros xs) = e.2 in
      let zero : e.0.span ≡ 0 = span ∙ nothing xs in
      let l = (low e.0 e.1).1 in
      subst (λ x. has x) (same_entry e.0 (record { span = 0; worth = 0 }) zero (omega (arith, l, ap (λ n. n * p.price) zero))) e.1;
  low = low_wider p.price (2 ^ 30) whole has p.modest low;
  below = entry_below limit p.price whole has low p.below;
}
  where
    low : HaveWorthsBoundedBySpan p.price whole has
    low = reached_low p.price k whole xs has r p.each

    zeros : List Want → List ℕ
    zeros [] = []
    zeros (x ∷ xs) = 0 ∷ zeros xs

    few : (xs : List Want) → AreCounts xs (zeros xs)
    few [] = tt
    few (x ∷ xs) = (omega arith, few xs)

    nothing : (xs : List Want) → span_taken k xs (zeros xs) ≡ 0
    nothing [] = refl
    nothing (x ∷ xs) = omega (arith, nothing xs)

-- the same of sets of the same entries
pub division_same : (whole at : ℕ) (prefix prefix' back back' : Entry → Type 0) → IsBestDivision whole at prefix back → ((e : Entry) → prefix e ↔ prefix' e) → ((e : Entry) → back e ↔ back' e)
    → IsBestDivision whole at prefix' back'
division_same whole at prefix prefix' back back' d same same' = record {
  one = d.one;
  other = d.other;
  in_prefix = (same d.one).0 d.in_prefix;
  in_back = (same' d.other).0 d.in_back;
  fits = d.fits;
  rest = d.rest;
  most = λ e f there after fits. d.most e f ((same e).1 there) ((same' f).1 after) fits;
}

pub small_same : (limit whole : ℕ) (has has' : Entry → Type 0) → HaveSmallWorths limit whole has → ((e : Entry) → has' e ↔ has e) → HaveSmallWorths limit whole has'
small_same limit whole has has' s same = record {
  none = (same none).1 s.none;
  low = λ e there. s.low e ((same e).0 there);
  below = λ e there. s.below e ((same e).0 there);
}

-- the best of the entries `done` with one of the other set, where both are worth `extra` more
pub record IsDivided (whole extra : ℕ) (prefix back done : Entry → Type 0) (found : Entry) : Type 0 where
  pub one : Entry
  pub other : Entry
  pub in_prefix : prefix one
  pub in_back : back other
  pub span : one.span ≡ found.span
  pub rest : other.span + found.span ≤ whole
  pub worth : one.worth + other.worth + extra ≡ found.worth
  pub most : (e f : Entry) → done e → prefix e → back f → e.span + f.span ≤ whole → e.worth + f.worth + extra ≤ found.worth

module _ (whole extra : ℕ) (prefix back done : Entry → Type 0) (found : Entry) (d : IsDivided whole extra prefix back done found) where
  pub divided_all : ((e : Entry) → prefix e → done e) → IsBestDivision whole found.span prefix back
  divided_all all = record {
    one = d.one;
    other = d.other;
    in_prefix = d.in_prefix;
    in_back = d.in_back;
    fits = omega (arith, d.span);
    rest = d.rest;
    most = λ e f there after fits. let le = d.most e f (all e there) there after fits in omega (arith, d.worth, le);
  }

  pub divided_skip : (done' : Entry → Type 0) → ((e : Entry) → done' e → prefix e → done e) → IsDivided whole extra prefix back done' found
  divided_skip done' before = record {
    one = d.one;
    other = d.other;
    in_prefix = d.in_prefix;
    in_back = d.in_back;
    span = d.span;
    rest = d.rest;
    worth = d.worth;
    most = λ e f did there after fits. d.most e f (before e did there) there after fits;
  }

  -- one entry more, with the one of the other set that is worth most beside it
  pub divided_more : (done' : Entry → Type 0) (both found' e o : Entry) → IsWorthierOf found both found' → prefix e → back o → o.span + e.span ≤ whole → both.span ≡ e.span
      → both.worth ≡ e.worth + o.worth + extra → ((f : Entry) → back f → e.span + f.span ≤ whole → f.worth ≤ o.worth)
      → ((x : Entry) → done' x → prefix x → done x ⊎ ((x.span ≡ e.span) × (x.worth ≡ e.worth))) → IsDivided whole extra prefix back done' found'
  divided_more done' both found' e o w there after fits span worth beside before = elim w.one [
    | inl same ↦
        let r : found'.span ≡ found.span = ap (λ (x : Entry). x.span) same in
        let v : found'.worth ≡ found.worth = ap (λ (x : Entry). x.worth) same in
        record {
          one = d.one;
          other = d.other;
          in_prefix = d.in_prefix;
          in_back = d.in_back;
          span = omega (arith, d.span, r);
          rest = omega (arith, d.rest, r);
          worth = omega (arith, d.worth, v);
          most = most;
        }
    | inr same ↦
        let r : found'.span ≡ both.span = ap (λ (x : Entry). x.span) same in
        let v : found'.worth ≡ both.worth = ap (λ (x : Entry). x.worth) same in
        record {
          one = e;
          other = o;
          in_prefix = there;
          in_back = after;
          span = omega (arith, span, r);
          rest = omega (arith, fits, span, r);
          worth = omega (arith, worth, v);
          most = most;
        }
  ]
    where
      most : (x f : Entry) → done' x → prefix x → back f → x.span + f.span ≤ whole → x.worth + f.worth + extra ≤ found'.worth
      most x f did x_there f_there x_fits = elim (before x did x_there) [
        | inl old ↦ omega (arith, d.most x f old x_there f_there x_fits, w.worth_a)
        | inr same ↦ omega (arith, beside f f_there (omega (arith, same.0, x_fits)), same.1, worth, w.worth_b)
      ]

-- lists: the entries from one on
abbrev pub IsFrom : List Entry → ℕ → Entry → Type 0
IsFrom entries left e = (i : ℕ) × (left ≤ i) × (i < length entries) × (get_or entries i e ≡ e)

-- what the first entries of the second list are worth at most: as much as one that has room beside each of the first `left`
pub record IsAfter (whole : ℕ) (prefix back : List Entry) (left next after : ℕ) : Type 0 where
  pub other : Entry
  pub there : Contains back other
  pub worth : other.worth ≡ after
  pub fits : (i : ℕ) → i < left → other.span + (get_or prefix i none).span ≤ whole
  pub most : (j : ℕ) → j < next → (get_or back j none).worth ≤ after

in_order : (xs : List Entry) (i j : ℕ) → AreRising xs → i ≤ j → j < length xs → (get_or xs i none).span ≤ (get_or xs j none).span
in_order xs i j rising le lt = elim (cases_lt i j) [
  | inl less ↦ omega (arith, rising i j none less lt)
  | inr ge ↦ let same : i ≡ j = omega arith in omega (arith, ap (λ n. (get_or xs n none).span) same)
]

module _ (whole limit limit' : ℕ) (prefix back : List Entry) (rising_prefix : AreRising prefix) (rising_back : AreRising back)
    (small_prefix : HaveSmallWorths limit whole (Contains prefix)) (small_back : HaveSmallWorths limit' whole (Contains back)) where
  pub lists_start : IsAfter whole prefix back (length prefix) 0 0 × IsDivided whole 0 (Contains prefix) (Contains back) (IsFrom prefix (length prefix)) none
  lists_start = (
    record {
      other = none;
      there = small_back.none;
      worth = refl;
      fits = λ i lt. omega (arith, (small_prefix.low (get_or prefix i none) (Contains-get_or prefix i none lt)).0);
      most = λ j lt. absurd (omega arith);
    },
    record {
      one = none;
      other = none;
      in_prefix = small_prefix.none;
      in_back = small_back.none;
      span = refl;
      rest = omega arith;
      worth = refl;
      most = λ e f (i, ge, lt, is) there after fits. absurd (omega arith);
    },
  )

  -- one entry more of the second list has room
  pub after_next : (left next after after' : ℕ) → IsAfter whole prefix back left next after → 1 ≤ left → left ≤ length prefix → next < length back
      → (get_or back next none).span + (get_or prefix (left - 1) none).span ≤ whole → after' ≡ max (get_or back next none).worth after → IsAfter whole prefix back left (next + 1) after'
  after_next left next after after' b some inside lt fits is = elim (max_one (get_or back next none).worth after after' is) [
    | inl e ↦ record {
      other = get_or back next none;
      there = Contains-get_or back next none lt;
      worth = sym e;
      fits = λ i less. omega (arith, fits, in_order prefix i (left - 1) rising_prefix (omega arith) (omega arith));
      most = most;
    }
    | inr e ↦ record { other = b.other; there = b.there; worth = b.worth ∙ sym e; fits = b.fits; most = most }
  ]
    where
      most : (j : ℕ) → j < next + 1 → (get_or back j none).worth ≤ after'
      most j less = elim (cases_lt j next) [
        | inl before ↦ omega (arith, b.most j before, is, le-max_right (get_or back next none).worth after)
        | inr ge ↦
            let same : j ≡ next = omega arith in
            omega (arith, ap (λ n. (get_or back n none).worth) same, is, le-max_left (get_or back next none).worth after)
      ]

  -- no further entry of the second list has room beside the last that is left of the first
  pub lists_more : (left next after : ℕ) (found both found' : Entry) → IsAfter whole prefix back left next after → IsDivided whole 0 (Contains prefix) (Contains back) (IsFrom prefix left) found
      → IsWorthierOf found both found' → 1 ≤ left → left ≤ length prefix → (next < length back → whole < (get_or back next none).span + (get_or prefix (left - 1) none).span)
      → both.span ≡ (get_or prefix (left - 1) none).span → both.worth ≡ (get_or prefix (left - 1) none).worth + after
      → IsAfter whole prefix back (left - 1) next after × IsDivided whole 0 (Contains prefix) (Contains back) (IsFrom prefix (left - 1)) found'
  lists_more left next after found both found' b d w some inside stop span worth = (
    record { other = b.other; there = b.there; worth = b.worth; fits = λ i lt. b.fits i (omega arith); most = b.most },
    divided_more whole 0 (Contains prefix) (Contains back) (IsFrom prefix left) found d (IsFrom prefix (left - 1)) both found' (get_or prefix (left - 1) none) b.other w
        (Contains-get_or prefix (left - 1) none (omega arith)) b.there (b.fits (left - 1) (omega arith)) span (omega (arith, worth, b.worth)) beside before,
  )
    where
      beside : (f : Entry) → Contains back f → (get_or prefix (left - 1) none).span + f.span ≤ whole → f.worth ≤ b.other.worth
      beside f (j, lt, is) fits =
          let at : get_or back j none ≡ f = get_or_default back j none f lt ∙ is in
          elim (cases_lt j next) [
            | inl less ↦ omega (arith, b.most j less, b.worth, ap (λ (e : Entry). e.worth) at)
            | inr ge ↦ absurd (omega (arith, stop (omega arith), in_order back next j rising_back ge lt, ap (λ (e : Entry). e.span) at, fits))
          ]

      before : (x : Entry) → IsFrom prefix (left - 1) x → Contains prefix x
          → IsFrom prefix left x ⊎ ((x.span ≡ (get_or prefix (left - 1) none).span) × (x.worth ≡ (get_or prefix (left - 1) none).worth))
      before x (i, ge, lt, is) there = elim (cases_lt i left) [
        | inr later ↦ inl (i, later, lt, is)
        | inl here ↦
            let same : i ≡ left - 1 = omega arith in
            let at : get_or prefix (left - 1) none ≡ x = ap (λ n. get_or prefix n none) (sym same) ∙ get_or_default prefix i none x lt ∙ is in
            inr (sym (ap (λ (e : Entry). e.span) at), sym (ap (λ (e : Entry). e.worth) at))
      ]

  pub lists_done : (left : ℕ) (found : Entry) → left ≡ 0 → IsDivided whole 0 (Contains prefix) (Contains back) (IsFrom prefix left) found → IsBestDivision whole found.span (Contains prefix) (Contains back)
  lists_done left found end d =
      divided_all whole 0 (Contains prefix) (Contains back) (IsFrom prefix left) found d (λ e (i, lt, is). (i, omega (arith, end), lt, is))

-- tables: the entries of spans after one
abbrev pub IsPast : ℕ → ℕ → Entry → Type 0
IsPast whole span e = whole < e.span + span

-- the greatest of the first cells of the second table
pub record IsGreatestCell (cells : List ℕ) (span after : ℕ) : Type 0 where
  pub at : ℕ
  pub within : at ≤ span
  pub there : get_or cells at 0 ≡ after
  pub some : 1 ≤ after
  pub most : (j : ℕ) → j < span → get_or cells j 0 ≤ after

module _ (whole limit : ℕ) (prefix back : List ℕ) (front_len : length prefix ≡ whole + 1) (back_len : length back ≡ whole + 1)
    (small_prefix : HaveSmallWorths limit whole (HasCell prefix)) (small_back : HaveSmallWorths limit whole (HasCell back)) where
  pub tables_start : (after worth : ℕ) → after ≡ get_or back 0 0 → worth ≡ get_or prefix 0 0 + after
      → IsGreatestCell back 0 after × IsDivided whole 2 (HasCell prefix) (HasCell back) (IsPast whole 0) (record { span = 0; worth = worth })
  tables_start after worth is both = (
    record { at = 0; within = omega arith; there = sym is; some = omega (arith, is, small_back.none); most = λ j lt. absurd (omega arith) },
    record {
      one = none;
      other = none;
      in_prefix = small_prefix.none;
      in_back = small_back.none;
      span = refl;
      rest = omega arith;
      worth = omega (arith, is, both, small_prefix.none, small_back.none);
      most = λ e f past there after fits. absurd (omega arith);
    },
  )

  -- one cell more of either table: what is known of the greatest, and of the pairs where the first table has an entry and where not
  pub greater : (span after after' : ℕ) → IsGreatestCell back span after → after' ≡ max (get_or back span 0) after
      → (at : ℕ) × (at ≤ span) × (get_or back at 0 ≡ after') × (1 ≤ after') × ((j : ℕ) → j < span + 1 → get_or back j 0 ≤ after')
  greater span after after' g is = elim (max_one (get_or back span 0) after after' is) [
    | inl e ↦ (span, omega arith, sym e, omega (arith, is, g.some, le-max_right (get_or back span 0) after), most)
    | inr e ↦ (g.at, g.within, g.there ∙ sym e, omega (arith, e, g.some), most)
  ]
    where
      most : (j : ℕ) → j < span + 1 → get_or back j 0 ≤ after'
      most j lt = elim (cases_lt j span) [
        | inl less ↦ omega (arith, g.most j less, is, le-max_right (get_or back span 0) after)
        | inr ge ↦
            let same : j ≡ span = omega arith in
            omega (arith, ap (λ n. get_or back n 0) same, is, le-max_left (get_or back span 0) after)
      ]

  pub greatest_more : (span after after' : ℕ) → IsGreatestCell back span after → after' ≡ max (get_or back span 0) after → IsGreatestCell back (span + 1) after'
  greatest_more span after after' g is =
      let n = greater span after after' g is in
      record { at = n.0; within = omega (arith, n.1); there = n.2; some = n.3; most = n.4 }

  pub tables_more : (span after after' : ℕ) (found both found' : Entry) → IsGreatestCell back span after → after' ≡ max (get_or back span 0) after
      → IsDivided whole 2 (HasCell prefix) (HasCell back) (IsPast whole span) found → span ≤ whole → 1 ≤ get_or prefix (whole - span) 0 → IsWorthierOf found both found'
      → both.span ≡ whole - span → both.worth ≡ get_or prefix (whole - span) 0 + after' → IsDivided whole 2 (HasCell prefix) (HasCell back) (IsPast whole (span + 1)) found'
  tables_more span after after' found both found' g is d inside some w at worth =
      let n = greater span after after' g is in
      divided_more whole 2 (HasCell prefix) (HasCell back) (IsPast whole span) found d (IsPast whole (span + 1)) both found' (record { span = whole - span; worth = get_or prefix (whole - span) 0 - 1 })
      (record { span = n.0; worth = after' - 1 }) w (omega (arith, some)) (omega (arith, n.2, n.3)) (omega (arith, n.1, inside)) at (omega (arith, worth, some, n.3))
      (λ f there fits. omega (arith, there, n.4 f.span (omega (arith, fits, inside)), n.3)) before
    where
      before : (x : Entry) → IsPast whole (span + 1) x → HasCell prefix x → IsPast whole span x ⊎ ((x.span ≡ whole - span) × (x.worth ≡ get_or prefix (whole - span) 0 - 1))
      before x past there = elim (cases_lt whole (x.span + span)) [
        | inl old ↦ inl old
        | inr new ↦
            let same : x.span ≡ whole - span = omega (arith, past) in
            inr (same, omega (arith, there, ap (λ n. get_or prefix n 0) same))
      ]

  pub tables_skip : (span : ℕ) (found : Entry) → IsDivided whole 2 (HasCell prefix) (HasCell back) (IsPast whole span) found → span ≤ whole → get_or prefix (whole - span) 0 ≡ 0
      → IsDivided whole 2 (HasCell prefix) (HasCell back) (IsPast whole (span + 1)) found
  tables_skip span found d inside empty =
      divided_skip whole 2 (HasCell prefix) (HasCell back) (IsPast whole span) found d (IsPast whole (span + 1)) (λ x past there. elim (cases_lt whole (x.span + span)) [
        | inl old ↦ old
        | inr new ↦
            let same : x.span ≡ whole - span = omega (arith, past) in
            absurd (omega (arith, there, empty, ap (λ n. get_or prefix n 0) same))
      ])

  pub tables_done : (span : ℕ) (found : Entry) → span ≡ whole + 1 → IsDivided whole 2 (HasCell prefix) (HasCell back) (IsPast whole span) found → IsBestDivision whole found.span (HasCell prefix) (HasCell back)
  tables_done span found end d = divided_all whole 2 (HasCell prefix) (HasCell back) (IsPast whole span) found d (λ e there. omega (arith, end))
