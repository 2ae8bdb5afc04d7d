-- What the entries of wants are, want by want.
use Rattle.std.proofs.Common.{◌≡◌, ℕ, ◌+◌, ◌*◌, ◌≤◌, List, [], ◌∷◌, sym, refl, ap, arith}
use Rattle.std.proofs.lemmas.Nat.{mul-le}
use Rattle.std.proofs.Math.Nat.{le_refl}
use Rattle.cut_wants.specs.declared.wants.Want.{Want}
use Rattle.cut_bars.specs.declared.reach.Entry.{Entry}
use Rattle.std.specs.Prelude.{Contains}
use Rattle.cut_bars.specs.Counts.{AreCounts, span_taken, worth_of_counts}
use Rattle.cut_bars.specs.Reached.{AreReached, AreOffered, HaveWorthsBoundedBySpan, IsLedTo, IsGreatestAt}
use Rattle.cut_wants.proofs.LeafSums.{Contains-head, Contains-tail}

-- no counts at all take no span
pub reached_none : (k whole : ℕ) (has : Entry → Type 0) → ((e : Entry) → has e → (e.span ≡ 0) × (e.worth ≡ 0)) → has (record { span = 0; worth = 0 }) → AreReached k [] whole has
reached_none k whole has only none = record {
  only = λ e there. let z = only e there in (omega (arith, z.0), record { counts = []; within = tt; takes = sym z.0; value = sym z.1; most = λ others is fit. omega arith });
  each = λ counts is fit. (record { span = 0; worth = 0 }, none, refl);
}

module _ (k whole : ℕ) (x : Want) (xs : List Want) (base entries : Entry → Type 0) (r : AreReached k xs whole base) (o : AreOffered (x.size.w + k) x.worth x.left whole base entries) where
  -- counts lead to an entry of their span that is worth no less
  led : (a : ℕ) (os : List ℕ) → a ≤ x.left → AreCounts xs os → span_taken k (x ∷ xs) (a ∷ os) ≤ whole
      → (e : Entry) × entries e × (e.span ≡ span_taken k (x ∷ xs) (a ∷ os)) × (worth_of_counts (x ∷ xs) (a ∷ os) ≤ e.worth)
  led a os few within fits =
      let b = r.each os within (omega arith) in
      let span : b.0.span ≡ span_taken k xs os = b.2 in
      let worth = (r.only b.0 b.1).1.most os within (sym span) in
      let e = o.most b.0 b.1 a few (omega (arith, span)) in
      (e.0, e.1, omega (arith, e.2, span), omega (arith, e.3, worth))

  greatest : (e : Entry) → entries e → IsLedTo (x.size.w + k) x.worth x.left base e → IsGreatestAt k (x ∷ xs) e.span e.worth
  greatest e has (times, few, b, there, moved) =
      let g = (r.only b there).1 in
      record {
        counts = times ∷ g.counts;
        within = (few, g.within);
        takes = omega (arith, moved.span, g.takes);
        value = omega (arith, moved.worth, g.value);
        most = λ others is takes. most others is takes;
      }
    where
      most : (others : List ℕ) → AreCounts (x ∷ xs) others → span_taken k (x ∷ xs) others ≡ e.span → worth_of_counts (x ∷ xs) others ≤ e.worth
      most [] is takes = absurd is
      most (a ∷ os) is takes =
          let f = led a os is.0 is.1 (omega (arith, takes, o.short e has)) in
          let same : e.span ≡ f.0.span = omega (arith, takes, f.2) in
          omega (arith, f.3, o.own e f.0 has f.1 same)

  pub reached_want : AreReached k (x ∷ xs) whole entries
  reached_want = record {
    only = λ e has. (o.short e has, greatest e has (o.only e has));
    each = λ counts is fits. each counts is fits;
  }
    where
      each : (counts : List ℕ) → AreCounts (x ∷ xs) counts → span_taken k (x ∷ xs) counts ≤ whole → (e : Entry) × entries e × (e.span ≡ span_taken k (x ∷ xs) counts)
      each [] is fits = absurd is
      each (a ∷ os) is fits =
          let e = led a os is.0 is.1 fits in
          (e.0, e.1, e.2)

-- a worth of at most the price for each unit of span
value_low : (price k : ℕ) (xs : List Want) (ns : List ℕ) → ((x : Want) → Contains xs x → x.worth ≤ (x.size.w + k) * price) → worth_of_counts xs ns ≤ span_taken k xs ns * price
value_low price k [] ns each = omega arith
value_low price k (x ∷ xs) [] each = omega arith
value_low price k (x ∷ xs) (a ∷ ns) each =
    let rest = value_low price k xs ns (λ y has. each y (Contains-tail x xs y has)) in
    let here = mul-le x.worth a ((x.size.w + k) * price) a (each x (Contains-head x xs)) (le_refl a) in
    omega (arith, rest, here)

pub reached_low : (price k whole : ℕ) (xs : List Want) (entries : Entry → Type 0) → AreReached k xs whole entries → ((x : Want) → Contains xs x → x.worth ≤ (x.size.w + k) * price)
    → HaveWorthsBoundedBySpan price whole entries
reached_low price k whole xs entries r each e has =
    let o = r.only e has in
    let low = value_low price k xs o.1.counts each in
    let takes = o.1.takes in
    let value = o.1.value in
    (o.0, omega (arith, low, ap (λ n. n * price) takes, value))
