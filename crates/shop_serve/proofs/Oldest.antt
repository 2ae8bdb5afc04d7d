-- Which connection may go and is the oldest, as one after another is looked at.
use Rattle.std.proofs.Common.{◌≡◌, ◌≤◌, ◌<◌, ℕ, Bool, true, is_some, List, [], ◌∷◌, length, Contains, inl, inr, refl, sym, ap, subst, arith}
use Rattle.std.specs.Prelude.{◌⊎◌, Option, Some, None, IfSome, IsSomeAnd}
use Rattle.std.specs.Time.{instant_nanos}
use Rattle.std.specs.declared.time.Instant.{Instant}
use Rattle.slab.specs.Slab.{Slab, get, slab_len, entries}
use Rattle.slab.proofs.SlabLemmas.{Contains-cons, Contains-cons_cases, Contains-entries}
use Rattle.shop_serve.specs.declared.clients.Client.{Client}
use Rattle.shop_serve.specs.declared.clients.TheConstants.{MAX_CLIENTS}
use Rattle.shop_serve.specs.Clients.{CanOpenOne, EvictsOldest, IsOldest, MayGo, NoneMayGo}

module _ {C : Type 0} (clients : Slab (Client C)) where
  -- this one was found among those that were looked at, and these are left
  pub record IsOldestSo (left : List (ℕ × Client C)) (found : Option (ℕ × Instant)) : Type 0 where
    pub later : (key : ℕ) (client : Client C) → Contains left (key, client) → get clients key ≡ Some client
    pub one : IfSome found (λ f. (client : Client C) × (get clients f.0 ≡ Some client) × MayGo client × (client.since ≡ f.1))
    pub first : (other : ℕ) (another : Client C) → get clients other ≡ Some another → MayGo another
        → Contains left (other, another) ⊎ IsSomeAnd found (λ f. instant_nanos f.1 ≤ instant_nanos another.since)

  pub oldest-first : IsOldestSo (entries clients) None
  oldest-first = record {
    later = λ key client listed. (Contains-entries clients key client).0 listed;
    one = tt;
    first = λ other another there goes. inl ((Contains-entries clients other another).1 there);
  }

  module _ (key : ℕ) (client : Client C) (left : List (ℕ × Client C)) (found : Option (ℕ × Instant)) (so_far : IsOldestSo ((key, client) ∷ left) found) where
    -- it can't go, or isn't older
    pub oldest-passed : (MayGo client → IsSomeAnd found (λ f. instant_nanos f.1 ≤ instant_nanos client.since)) → IsOldestSo left found
    oldest-passed younger = record {
      later = λ other another listed. so_far.later other another (Contains-cons _ _ _ listed);
      one = so_far.one;
      first = λ other another there goes. elim (so_far.first other another there goes) [
        | inr found ↦ inr found
        | inl listed ↦ elim (Contains-cons_cases _ _ _ listed) [
          | inl same ↦ inr (subst (λ l. IsSomeAnd found (λ f. instant_nanos f.1 ≤ instant_nanos l.since)) (ap (λ e. e.1) same)
              (younger (subst MayGo (sym (ap (λ e. e.1) same)) goes)))
          | inr rest ↦ inl rest
        ]
      ];
    }

    -- it may go, and is older
    pub oldest-taken : MayGo client → IfSome found (λ f. instant_nanos client.since ≤ instant_nanos f.1) → IsOldestSo left (Some (key, client.since))
    oldest-taken goes older = record {
      later = λ other another listed. so_far.later other another (Contains-cons _ _ _ listed);
      one = (client, so_far.later key client (0, omega arith, refl), goes, refl);
      first = λ other another there goes. elim (so_far.first other another there goes) [
        | inr before ↦ inr (by_found found older another before)
        | inl listed ↦ elim (Contains-cons_cases _ _ _ listed) [
          | inl same ↦ inr (omega (arith, ap (λ e. instant_nanos e.1.since) same))
          | inr rest ↦ inl rest
        ]
      ];
    }
      where
        by_found : (found : Option (ℕ × Instant)) → IfSome found (λ f. instant_nanos client.since ≤ instant_nanos f.1) → (another : Client C)
            → IsSomeAnd found (λ f. instant_nanos f.1 ≤ instant_nanos another.since) → instant_nanos client.since ≤ instant_nanos another.since
        by_found None older another before = absurd before
        by_found (Some f) older another before = omega (arith, older, before)

  -- none is left
  module _ (left : List (ℕ × Client C)) (found : Option (ℕ × Instant)) (so_far : IsOldestSo left found) (done : left ≡ []) where
    nothing : (e : ℕ × Client C) → Contains left e → ⊥
    nothing e listed = absurd (omega (arith, listed.1, ap length done))

    pub oldest-found : (key : ℕ) (since : Instant) → found ≡ Some (key, since) → IsOldest clients key
    oldest-found key since is =
        let one = subst (λ o. IfSome o (λ f. (client : Client C) × (get clients f.0 ≡ Some client) × MayGo client × (client.since ≡ f.1))) is so_far.one in
        record {
          client = one.0;
          there = one.1;
          goes = one.2;
          first = λ other another there goes. elim (so_far.first other another there goes) [
            | inl listed ↦ absurd (nothing (other, another) listed)
            | inr before ↦ omega (
              arith,
              subst (λ o. IsSomeAnd o (λ f. instant_nanos f.1 ≤ instant_nanos another.since)) is before,
              ap instant_nanos one.3,
            )
          ];
        }

    pub oldest-none : found ≡ None → NoneMayGo clients
    oldest-none is key client there goes = elim (so_far.first key client there goes) [
      | inl listed ↦ nothing (key, client) listed
      | inr before ↦ subst (λ o. IsSomeAnd o (λ f. instant_nanos f.1 ≤ instant_nanos client.since)) is before
    ]

-- one more may be open, though none may go
pub none-evicted : {C : Type 0} (clients : Slab (Client C)) (is_scarce : Bool) → NoneMayGo clients → CanOpenOne clients → EvictsOldest is_scarce clients clients
none-evicted clients is_scarce none (inl few) = inl (few, λ scarce. none, refl)
none-evicted clients is_scarce none (inr (key, oldest)) = absurd (none key oldest.client oldest.there oldest.goes)

module _ {C : Type 0} (clients : Slab (Client C)) (full : slab_len clients < MAX_CLIENTS → ⊥) where
  -- as many are open as may be, and none may go
  pub cannot_open_one : NoneMayGo clients → CanOpenOne clients → ⊥
  cannot_open_one none (inl few) = full few
  cannot_open_one none (inr (key, oldest)) = none key oldest.client oldest.there oldest.goes

  -- there is room exactly where one was found
  pub cleared_found : (found : Option ℕ) (some : Bool) → some ≡ is_some found → IfSome found (IsOldest clients) → (found ≡ None → NoneMayGo clients)
      → (some ≡ true → CanOpenOne clients) × (CanOpenOne clients → some ≡ true)
  cleared_found None some is one none = (λ yes. absurd (cc (is, yes)), λ cleared. absurd (cannot_open_one (none refl) cleared))
  cleared_found (Some key) some is one none = (λ yes. inr (key, one), λ cleared. is)
