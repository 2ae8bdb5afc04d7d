-- Which query takes a search step, and what that leaves.
use Rattle.std.proofs.Common.{◌≡◌, ◌∙◌, ℕ, ◌≤◌, Bool, true, false, is_some, List, [], ◌∷◌, length, Contains, inl, inr, refl, sym, ap, subst, arith}
use Rattle.std.specs.Prelude.{◌⊎◌, Option, Some, None, IfSome, IsSome}
use Rattle.std.specs.declared.time.Instant.{Instant}
use Rattle.slab.specs.Slab.{Slab, get, entries, Updates, with_value}
use Rattle.slab.proofs.SlabLemmas.{Contains-cons, Contains-cons_cases, Contains-entries, Updates-with_value}
use Rattle.shop_serve.specs.declared.clients.Client.{Client}
use Rattle.shop_serve.specs.declared.connections.Connection.{Ghosts as ConnectionGhosts}
use Rattle.shop_serve.specs.declared.searching.Progress.TheVariants.{GoesOn, Answered, NoMemory}
use Rattle.shop_serve.specs.Clients.{AsksAt, NoneAsks, unanswered}
use Rattle.shop_serve.specs.RunningTask.{IsSteppedAt, IsSteppedOnce, IsFinished}
use Rattle.shop_serve.specs.Times.{Times, ReportsNone}
use Rattle.shop_serve.proofs.Slots.{answered-of, has-answer, has-query, one_of, unanswered-updates}

module _ {C P : Type 0} (clients : Slab (Client C)) where
  -- this one was found among those that were looked at, and these are left
  pub record IsFoundSo (left : List (ℕ × Client C)) (found : Option (ℕ × P)) : Type 0 where
    pub later : (key : ℕ) (client : Client C) → Contains left (key, client) → get clients key ≡ Some client
    pub one : IfSome found (λ f. AsksAt clients f.0)
    pub all : (key : ℕ) (client : Client C) → get clients key ≡ Some client → IsSome client.task → Contains left (key, client) ⊎ IsSome found

  pub found-first : IsFoundSo (entries clients) None
  found-first = record {
    later = λ key client listed. (Contains-entries clients key client).0 listed;
    one = tt;
    all = λ key client there asks. inl ((Contains-entries clients key client).1 there);
  }

  module _ (key : ℕ) (client : Client C) (left : List (ℕ × Client C)) (found : Option (ℕ × P)) (so_far : IsFoundSo ((key, client) ∷ left) found) where
    -- it has no query, or one was found
    pub found-passed : (IsSome client.task → IsSome found) → IsFoundSo left found
    found-passed other = record {
      later = λ other another listed. so_far.later other another (Contains-cons _ _ _ listed);
      one = so_far.one;
      all = λ other_key another there asks. elim (so_far.all other_key another there asks) [
        | inr found ↦ inr found
        | inl listed ↦ elim (Contains-cons_cases _ _ _ listed) [
          | inl same ↦ inr (other (subst (λ (l : Client C). IsSome l.task) (sym (ap (λ e. e.1) same)) asks))
          | inr rest ↦ inl rest
        ]
      ];
    }

    -- it is found
    pub found-taken : (place : P) → IsSome client.task → IsFoundSo left (Some (key, place))
    found-taken place asks = record {
      later = λ other another listed. so_far.later other another (Contains-cons _ _ _ listed);
      one = (client, so_far.later key client (0, omega arith, refl), asks);
      all = λ other another there steps_search. inr refl;
    }

  -- none is left
  pub found-none : (left : List (ℕ × Client C)) (found : Option (ℕ × P)) → IsFoundSo left found → left ≡ [] → found ≡ None → NoneAsks clients
  found-none left found so_far done is key (client, there, asks) = elim (so_far.all key client there asks) [
    | inl listed ↦ absurd (omega (arith, listed.1, ap length done))
    | inr some ↦ absurd (cc (subst IsSome is some))
  ]

-- the connection of this key has a query
pub asks-of : {C : Type 0} (clients : Slab (Client C)) (key : ℕ) (client : Client C) → AsksAt clients key → get clients key ≡ Some client → IsSome client.task
asks-of clients key client (there, at, asks) is = let same : there ≡ client = cc (at, is) in subst (λ (l : Client _). IsSome l.task) same asks

-- one was found
pub some-asks : {C : Type 0} (clients : Slab (Client C)) (found : Option ℕ) (some : Bool) → some ≡ is_some found → some ≡ true → IfSome found (AsksAt clients) → NoneAsks clients → ⊥
some-asks clients None some is e asks none = absurd (cc (is, e))
some-asks clients (Some key) some is e asks none = none key asks

-- none was found
pub none-asks : {C : Type 0} (clients : Slab (Client C)) (found : Option ℕ) (some : Bool) → some ≡ is_some found → some ≡ false → (found ≡ None → NoneAsks clients) → NoneAsks clients
none-asks clients None some is e none = none refl
none-asks clients (Some key) some is e none = absurd (cc (is, e))

module _ {C : Type 0} (connection : ConnectionGhosts C) (crowded : Bool) (now : Instant) (key : ℕ) (clients : Slab (Client C)) (client left : Client C) (seen seeing : Times) (is : get clients key ≡ Some client) (asks : IsSome client.task) where
  written : Updates clients (with_value clients key left) key (Some left)
  written = Updates-with_value clients key left (subst IsSome (sym is) refl)

  no_one : one_of (get clients key) ≡ 0
  no_one = ap one_of is ∙ answered-of client (has-query client asks)

  -- it goes on
  pub goes-on : IsSteppedOnce connection crowded now client left → ReportsNone seen seeing → IsSteppedAt connection crowded GoesOn now key clients (with_value clients key left) seen seeing
  goes-on once unread = record {
    client = client;
    there = is;
    asks = asks;
    others = written.others;
    goes_on = λ e. (left, written.changed, once, unread);
    answered = λ e. absurd (cc e);
    closed = λ e. absurd (cc e);
  }

  pub goes-on-fewer : IsSteppedOnce connection crowded now client left → unanswered (with_value clients key left) ≤ unanswered clients
  goes-on-fewer once =
      omega (
        arith,
        unanswered-updates clients (with_value clients key left) key (Some left) written,
        no_one,
        answered-of left (has-query left (subst IsSome (sym (ap (λ (l : Client C). l.task) once.kept)) refl)),
      )

  -- it is answered
  pub task-out : IsFinished connection client left seen seeing → IsSteppedAt connection crowded Answered now key clients (with_value clients key left) seen seeing
  task-out out = record {
    client = client;
    there = is;
    asks = asks;
    others = written.others;
    goes_on = λ e. absurd (cc e);
    answered = λ e. (left, written.changed, out);
    closed = λ e. absurd (cc e);
  }

  pub task-out-fewer : IsFinished connection client left seen seeing → unanswered (with_value clients key left) ≤ unanswered clients
  task-out-fewer out =
      omega (
        arith,
        unanswered-updates clients (with_value clients key left) key (Some left) written,
        no_one,
        answered-of left (has-answer left (subst IsSome (sym (ap (λ (l : Client C). l.answer) out.kept)) refl)),
      )

  -- it is closed
  pub given-up : (new : Slab (Client C)) → Updates (with_value clients key left) new key None → ReportsNone seen seeing → IsSteppedAt connection crowded NoMemory now key clients new seen seeing
  given-up new removed unread = record {
    client = client;
    there = is;
    asks = asks;
    others = λ other differs. removed.others other differs ∙ written.others other differs;
    goes_on = λ e. absurd (cc e);
    answered = λ e. absurd (cc e);
    closed = λ e. (removed.changed, unread);
  }

  pub given-up-fewer : (new : Slab (Client C)) → Updates (with_value clients key left) new key None → unanswered new ≤ unanswered clients
  given-up-fewer new removed =
      omega (arith, unanswered-updates clients (with_value clients key left) key (Some left) written, no_one, unanswered-updates (with_value clients key left) new key None removed, ap one_of written.changed)
