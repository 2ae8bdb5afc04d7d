-- Pieces offered in batches are pieces offered one by one.
use Rattle.std.proofs.Common.{◌≡◌, ℕ, ◌+◌, ◌-◌, ◌*◌, ◌/◌, ◌^◌, ◌<◌, ◌≤◌, ap, inl, inr, arith}
use Rattle.std.specs.Prelude.{◌↔◌}
use Rattle.std.proofs.Math.Nat.{le_refl, le-div_iff_mul-le}
use Rattle.std.proofs.lemmas.Bool.{cases_lt}
use Rattle.std.proofs.lemmas.Nat.{mul-le}
use Rattle.cut_bars.specs.declared.reach.Entry.{Entry}
use Rattle.cut_bars.specs.Reached.{AreOwn, AreOffered, HaveWorthsBoundedBySpan, IsMoved, IsLedTo}

pub offered_none : (price step gain whole : ℕ) (base : Entry → Type 0) → AreOwn base → HaveWorthsBoundedBySpan price whole base → AreOffered step gain 0 whole base base
offered_none price step gain whole base own low = record {
  own = own;
  short = λ e has. (low e has).0;
  only = λ e has. (0, omega arith, e, has, record { span = omega arith; worth = omega arith });
  most = λ b has times few fits.
      let zero : times ≡ 0 = omega arith in
      rw zero (b, has, omega arith, omega arith);
}

moved_again : (step gain more times again : ℕ) (b middle e : Entry) → again ≤ 1 → IsMoved step gain times b middle → IsMoved (more * step) (more * gain) again middle e
    → (all : ℕ) × (all ≤ times + more) × IsMoved step gain all b e
moved_again step gain more times again b middle e few m n = elim (cases_lt again 1) [
  | inl lt ↦
      let zero : again ≡ 0 = omega arith in (
        times,
        omega arith,
        record {
          span = omega (arith, m.span, n.span, ap (λ z. z * (more * step)) zero);
          worth = omega (arith, m.worth, n.worth, ap (λ z. z * (more * gain)) zero);
        },
      )
  | inr ge ↦
      let one : again ≡ 1 = omega arith in (
        times + more,
        omega arith,
        record {
          span = omega (arith, m.span, n.span, ap (λ z. z * (more * step)) one);
          worth = omega (arith, m.worth, n.worth, ap (λ z. z * (more * gain)) one);
        },
      )
]

-- once n pieces are offered, a batch of at most n + 1 is
pub offered_more : (step gain n more whole : ℕ) (base middle entries : Entry → Type 0) → AreOffered step gain n whole base middle → more ≤ n + 1
    → AreOffered (more * step) (more * gain) 1 whole middle entries → AreOffered step gain (n + more) whole base entries
offered_more step gain n more whole base middle entries o near p = record {
  own = p.own;
  short = p.short;
  only = λ e has. whence e (p.only e has);
  most = λ b has times few fits. elim (cases_lt n times) [
    | inr le ↦ as_before b has times le fits
    | inl gt ↦ one_batch b has times few gt fits
  ];
}
  where
    whence : (e : Entry) → IsLedTo (more * step) (more * gain) 1 middle e → IsLedTo step gain (n + more) base e
    whence e (again, few, m, has, moved) =
        let b = o.only m has in
        let all = moved_again step gain more b.0 again b.2 m e few b.4 moved in
        let le : b.0 ≤ n = b.1 in
        (all.0, omega (arith, all.1, le), b.2, b.3, all.2)

    as_before : (b : Entry) → base b → (times : ℕ) → times ≤ n → b.span + times * step ≤ whole
        → (e : Entry) × entries e × (e.span ≡ b.span + times * step) × (b.worth + times * gain ≤ e.worth)
    as_before b has times le fits =
        let m = o.most b has times le fits in
        let same = m.2 in
        let e = p.most m.0 m.1 0 (omega arith) (omega (arith, same)) in
        (e.0, e.1, omega (arith, same, e.2), omega (arith, m.3, e.3))

    one_batch : (b : Entry) → base b → (times : ℕ) → times ≤ n + more → n < times → b.span + times * step ≤ whole
        → (e : Entry) × entries e × (e.span ≡ b.span + times * step) × (b.worth + times * gain ≤ e.worth)
    one_batch b has times few gt fits =
        let parts : times ≡ (times - more) + more = omega arith in
        let span = ap (λ z. z * step) parts in
        let worth = ap (λ z. z * gain) parts in
        let m = o.most b has (times - more) (omega arith) (omega (arith, span)) in
        let same = m.2 in
        let e = p.most m.0 m.1 1 (omega arith) (omega (arith, same, span)) in
        (e.0, e.1, omega (arith, same, e.2, span), omega (arith, m.3, e.3, worth))

-- more pieces than the whole holds lead nowhere else
pub offered_capped : (step gain most left whole : ℕ) (base entries : Entry → Type 0) → AreOffered step gain most whole base entries → most ≤ left
    → ((times : ℕ) → times ≤ left → times * step ≤ whole → times ≤ most) → AreOffered step gain left whole base entries
offered_capped step gain most left whole base entries o le held = record {
  own = o.own;
  short = o.short;
  only = λ e has. let f = o.only e has in (f.0, le_trans f.0 f.1, f.2, f.3, f.4);
  most = λ b has times few fits. o.most b has times (held times few (omega arith)) fits;
}
  where
    le_trans : (times : ℕ) → times ≤ most → times ≤ left
    le_trans times h = omega arith

-- the same of sets of the same entries
pub offered_same : (step gain n whole : ℕ) (base base' offered offered' : Entry → Type 0) → AreOffered step gain n whole base offered → ((e : Entry) → base e ↔ base' e)
    → ((e : Entry) → offered e ↔ offered' e) → AreOffered step gain n whole base' offered'
offered_same step gain n whole base base' offered offered' o same same' = record {
  own = λ e f a b span. o.own e f ((same' e).1 a) ((same' f).1 b) span;
  short = λ e has. o.short e ((same' e).1 has);
  only = λ e has. let l = o.only e ((same' e).1 has) in (l.0, l.1, l.2, (same l.2).0 l.3, l.4);
  most = λ b has times few fits. let e = o.most b ((same b).1 has) times few fits in (e.0, (same' e.0).0 e.1, e.2, e.3);
}

low_moved : (price step gain times span worth : ℕ) → gain ≤ step * price → worth ≤ span * price → worth + times * gain ≤ (span + times * step) * price
low_moved price step gain times span worth small low = omega (arith, mul-le times gain times (step * price) (le_refl times) small)

pub offered_low : (price step gain n whole : ℕ) (base entries : Entry → Type 0) → AreOffered step gain n whole base entries → HaveWorthsBoundedBySpan price whole base → gain ≤ step * price
    → HaveWorthsBoundedBySpan price whole entries
offered_low price step gain n whole base entries o low small e has = (o.short e has, from (o.only e has))
  where
    from : IsLedTo step gain n base e → e.worth ≤ e.span * price
    from (times, few, b, there, moved) =
        let l = low b there in
        omega (arith, ap (λ n. n * price) moved.span, moved.worth, low_moved price step gain times b.span b.worth small l.1)

-- what keeps to a price keeps to a higher one
pub low_wider : (price higher whole : ℕ) (has : Entry → Type 0) → price ≤ higher → HaveWorthsBoundedBySpan price whole has → HaveWorthsBoundedBySpan higher whole has
low_wider price higher whole has le low e there =
    let l = low e there in
    (l.0, omega (arith, l.1, mul-le e.span price e.span higher (le_refl e.span) le))

-- so does what a piece gains
pub gain_wider : (price higher step gain : ℕ) → price ≤ higher → gain ≤ step * price → gain ≤ step * higher
gain_wider price higher step gain le gains = omega (arith, gains, mul-le step price step higher (le_refl step) le)

-- one more than a worth within the whole stays below the limit
pub entry_below : (limit price whole : ℕ) (has : Entry → Type 0) → HaveWorthsBoundedBySpan price whole has → whole * price + 1 < limit → (e : Entry) → has e → e.worth + 1 < limit
entry_below limit price whole has low below e there =
    let l = low e there in
    omega (arith, l.1, below, mul-le e.span price whole price l.0 (le_refl price))

-- no more fit the whole
pub fit_within : (step times whole : ℕ) → 1 ≤ step → times * step ≤ whole → times ≤ whole / step
fit_within step times whole some fits = (le-div_iff_mul-le {k = step} {x = times} {y = whole} some).1 fits

pub gain_low : (step gain : ℕ) → 1 ≤ step → gain ≤ 2 ^ 30 → gain ≤ step * 2 ^ 30
gain_low step gain some small = omega arith
