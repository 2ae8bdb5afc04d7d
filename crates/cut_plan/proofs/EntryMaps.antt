-- Entries put into a map one after another, and what the map then says of counts.
use Rattle.std.proofs.Common.{◌≡◌, ◌≢◌, ◌⊎◌, ℕ, ◌+◌, ◌<◌, ◌≤◌, List, length, take, get_or, cond, eqb, Option, Some, None, sym, refl, ap, ◌∙◌, subst, inl, inr, arith, take_all}
use Rattle.std.specs.Prelude.{Contains, IsSome, ◌↔◌}
use Rattle.std.specs.Ordering.{nat_cmp, is_eq}
use Rattle.std.proofs.lemmas.Bool.Decides.{nat_tests, eqb_tells}
use Rattle.std.proofs.lemmas.Grind.{common_steps}
use Rattle.cut_wants.specs.declared.wants.Want.{Want}
use Rattle.cut_bars.specs.declared.reach.Entry.{Entry}
use Rattle.cut_bars.specs.Counts.{span_taken}
use Rattle.cut_bars.specs.Reached.{AreRising, AreReached, IsGreatestAt, IsReached}
use Rattle.cut_bars.proofs.JoinedEntries.{same_entry, taken_in}
use Rattle.cut_plan.specs.Lengths.{IsMapOf}

pub equal_keys : (k n : ℕ) → is_eq (nat_cmp k n) ≡ eqb k n
equal_keys k n = grind (arith, nat_tests)

some_is : (a b : ℕ) → Some a ≡ Some b → a ≡ b
some_is a b e = cc

none_is : (b : ℕ) → None ≡ Some b → ⊥
none_is b e = cc

pub map_none : (entries : List Entry) (found : ℕ → Option ℕ) → ((n : ℕ) → found n ≡ None) → IsMapOf (take 0 entries) found
map_none entries found empty n v = (λ e. absurd (none_is v (sym (empty n) ∙ e)), λ (i, lt, is). absurd (grind (arith, common_steps)))

-- an entry more is put in
pub map_more : (entries : List Entry) (i : ℕ) (d : Entry) → AreRising entries → i < length entries → (found found' : ℕ → Option ℕ) → IsMapOf (take i entries) found
    → ((n : ℕ) → found' n ≡ cond (is_eq (nat_cmp (get_or entries i d).span n)) (Some (get_or entries i d).worth) (found n)) → IsMapOf (take (i + 1) entries) found'
map_more entries i d rising inside found found' m updates n v =
    taken_in entries i d rising inside (λ e. found e.span ≡ Some e.worth) (λ e. found' e.span ≡ Some e.worth) (λ e. m e.span e.worth) put (record { span = n; worth = v })
  where
    here : Entry
    here = get_or entries i d

    put : (e : Entry) → (found' e.span ≡ Some e.worth) ↔ ((e ≡ here) ⊎ ((e.span ≢ here.span) × (found e.span ≡ Some e.worth)))
    put e = elim (eqb_tells here.span e.span) [
      | inl (t, same) ↦
          let now : found' e.span ≡ Some here.worth = updates e.span ∙ ap (λ b. cond b (Some here.worth) (found e.span)) (equal_keys here.span e.span ∙ t) in (
            λ q. inl (same_entry e here (sym same) (some_is _ _ (sym q ∙ now))),
            λ one. elim one [
              | inl q ↦ now ∙ ap (λ (e : Entry). Some e.worth) (sym q)
              | inr (other, q) ↦ absurd (other (sym same))
            ],
          )
      | inr (t, other) ↦
          let still : found' e.span ≡ found e.span = updates e.span ∙ ap (λ b. cond b (Some here.worth) (found e.span)) (equal_keys here.span e.span ∙ t) in (
            λ q. inr (λ same. other (sym same), sym still ∙ q),
            λ one. elim one [
              | inl q ↦ absurd (other (ap (λ (e : Entry). e.span) (sym q)))
              | inr (other', q) ↦ still ∙ q
            ],
          )
    ]

pub map_whole : (entries : List Entry) (i : ℕ) (found : ℕ → Option ℕ) → length entries ≤ i → IsMapOf (take i entries) found → IsMapOf entries found
map_whole entries i found past m = subst (λ es. IsMapOf es found) (take_all i entries past) m

-- a map of all that counts reach
pub map_reached : (k whole : ℕ) (wants : List Want) (entries : List Entry) (found : ℕ → Option ℕ) → AreReached k wants whole (Contains entries) → IsMapOf entries found → IsReached k wants whole found
map_reached k whole wants entries found r m = record {
  exactly = λ n v. (λ e. r.only (record { span = n; worth = v }) ((m n v).0 e), λ (fits, g). there n v fits g);
  each = λ counts is fits.
      let e = r.each counts is fits in
      let span : e.0.span ≡ span_taken k wants counts = e.2 in
      some (span_taken k wants counts) e.0.worth ((m (span_taken k wants counts) e.0.worth).1 (subst (λ e. Contains entries e) (same_entry e.0 (record { span = span_taken k wants counts; worth = e.0.worth }) span refl) e.1));
}
  where
    some : (n v : ℕ) → found n ≡ Some v → IsSome (found n)
    some n v e = rw e refl

    there : (n v : ℕ) → n ≤ whole → IsGreatestAt k wants n v → found n ≡ Some v
    there n v fits g =
        let e = r.each g.counts g.within (omega (arith, fits, g.takes)) in
        let span : e.0.span ≡ n = e.2 ∙ g.takes in
        let h = (r.only e.0 e.1).1 in
        let takes = h.takes in
        let value = h.value in
        let least = h.most g.counts g.within (omega (arith, g.takes, span)) in
        let most = g.most h.counts h.within (omega (arith, takes, span)) in
        let worth : e.0.worth ≡ v = omega (arith, g.value, value, least, most) in
        (m n v).1 (subst (λ e. Contains entries e) (same_entry e.0 (record { span = n; worth = v }) span worth) e.1)
