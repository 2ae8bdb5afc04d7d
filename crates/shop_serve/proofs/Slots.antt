-- How many open connections have no answer, as one of them changes.
use Rattle.std.proofs.Common.{◌≡◌, ◌∙◌, ℕ, zero, suc, ◌+◌, ◌≤◌, Bool, true, false, not, is_none, is_some, ◌&&◌, cond, MutBor, List, [], ◌∷◌, get_or, count_by, inr, refl, sym, ap, subst, arith}
use Rattle.std.proofs.lemmas.List.Sums.{sum_by-cons}
use Rattle.std.specs.declared.alloc.Global.{Global}
use Rattle.shop_serve.specs.declared.searching.RunningTask.{RunningTask}
use Rattle.std.specs.Prelude.{Vec, Option, Some, None, Result, Ok, Err, IfOk, IfSome, IsSome, IsOk, OnErr, if◌then◌else◌}
use Rattle.std.specs.Result.{result_ok}
use Rattle.slab.specs.Slab.{Slab, get, Updates, HasRoomFor, CalledAt, RetainsFrom}
use Rattle.shop_serve.specs.declared.clients.Client.{Client}
use Rattle.shop_serve.specs.declared.ports.Port.{Ghosts as PortGhosts}
use Rattle.std.specs.declared.time.Instant.{Instant}
use Rattle.shop_serve.proofs.Counts.{count-but, count-fewer, one, one-most, one-none}
use Rattle.shop_serve.specs.Clients.{ClosesLate, IsFresh, IsOpened, IsTurnedAway, EvictsOldest, in_time, is_late, is_unanswered, unanswered}

-- it is registered under the key that it was put under
pub registered-at : {E : Type 0} (r : Result ℕ E) (reported free : ℕ) (Registered : ℕ → Type 0) → reported ≡ free → Registered reported → IfOk r (λ k. k ≡ free) → IfOk r Registered
registered-at (Ok k) reported free Registered e registered is = subst Registered (e ∙ sym is) registered
registered-at (Err f) reported free Registered e registered is = tt

pub registered-some : {E : Type 0} (r : Result ℕ E) (key : Option ℕ) (Registered : ℕ → Type 0) → key ≡ result_ok r → IfOk r Registered → IfSome key Registered
registered-some (Ok k) key Registered e registered = subst (λ key. IfSome key Registered) (sym e) registered
registered-some (Err f) key Registered e registered = subst (λ key. IfSome key Registered) (sym e) tt

module _ {C : Type 0} where
  -- one for a connection without an answer
  abbrev pub one_of : Option (Client C) → ℕ
  one_of slot = cond (is_unanswered slot) 1 0

  -- whether it has an answer or a query
  pub answered-of : (client : Client C) → is_unanswered (Some client) ≡ false → one_of (Some client) ≡ 0
  answered-of client e = ap (λ b. cond b 1 0) e

  pub unanswered-of : (client : Client C) → is_unanswered (Some client) ≡ true → one_of (Some client) ≡ 1
  unanswered-of client e = ap (λ b. cond b 1 0) e

  pub has-answer : (client : Client C) → IsSome client.answer → is_unanswered (Some client) ≡ false
  has-answer client some = by_answer client.answer some
    where
      by_answer : (o : Option (Vec ℕ Global)) → IsSome o → (is_none o && is_none client.task) ≡ false
      by_answer None some = absurd (cc some)
      by_answer (Some a) some = refl

  pub has-query : (client : Client C) → IsSome client.task → is_unanswered (Some client) ≡ false
  has-query client some = by_both client.answer client.task some
    where
      by_both : (o : Option (Vec ℕ Global)) (t : Option RunningTask) → IsSome t → (is_none o && is_none t) ≡ false
      by_both o None some = absurd (cc some)
      by_both None (Some t) some = refl
      by_both (Some a) (Some t) some = refl

  pub has-neither : (client : Client C) → is_unanswered (Some client) ≡ true → (client.answer ≡ None) × (client.task ≡ None)
  has-neither client e = by_both client.answer client.task refl refl e
    where
      by_both : (o : Option (Vec ℕ Global)) (t : Option RunningTask) → client.answer ≡ o → client.task ≡ t → (is_none o && is_none t) ≡ true → (client.answer ≡ None) × (client.task ≡ None)
      by_both None None a t e = (a, t)
      by_both None (Some x) a t e = absurd (cc e)
      by_both (Some x) o a t e = absurd (cc e)

  -- one of them changes
  pub unanswered-updates : (old new : Slab (Client C)) (key : ℕ) (slot : Option (Client C)) → Updates old new key slot
      → unanswered new + one_of (get old key) ≡ unanswered old + one_of slot
  unanswered-updates old new key slot updates =
      omega (arith, count-but is_unanswered refl key old.slots new.slots updates.others, ap one_of updates.changed)

  pub unanswered-empty : (clients : Slab (Client C)) → clients.slots ≡ [] → unanswered clients ≡ 0
  unanswered-empty clients e = rw e refl

  -- what the port says of itself decides
  pub evicts-said : (said is_scarce : Bool) (old cleared : Slab (Client C)) → said ≡ is_scarce → EvictsOldest said old cleared → EvictsOldest is_scarce old cleared
  evicts-said said is_scarce old cleared e made = subst (λ b. EvictsOldest b old cleared) e made

  module _ {E P : Type 0} (port : PortGhosts P C) (at : P) (now : Instant) (stream : C) (old cleared new : Slab (Client C)) (client : Client C) where
    -- it was put under a free key, under which it is registered
    pub opened-so : (r : Result ℕ E) (key : Option ℕ) → key ≡ result_ok r → IfOk r (λ k. (p : P) × port.is_registered p stream k) → IfOk r (λ k. get cleared k ≡ None) → IfOk r (λ k. Updates cleared new k (Some client))
        → EvictsOldest (port.is_scarce at) old cleared → IsFresh now stream client → IfSome key (λ k. IsOpened port at now stream k old new)
    opened-so (Ok k) key e registered free there made fresh =
        subst (λ key. IfSome key (λ k. IsOpened port at now stream k old new)) (sym e)
        (record { cleared = cleared; made = made; client = client; fresh = fresh; free = free; there = there; registered = registered })
    opened-so (Err f) key e registered free there made fresh = subst (λ key. IfSome key (λ k. IsOpened port at now stream k old new)) (sym e) tt

    -- or there was no memory for it
    pub closed-so : (r : Result ℕ E) (key : Option ℕ) → key ≡ result_ok r → OnErr r (new ≡ record cleared { capacity = new.capacity })
        → (HasRoomFor cleared 1 → IsOk r) → EvictsOldest (port.is_scarce at) old cleared → key ≡ None → IsTurnedAway port at old new
    closed-so (Ok k) key e err fits made none = absurd (cc (e, none))
    closed-so (Err f) key e err fits made none = record { cleared = cleared; made = made; same = ap (λ s. s.slots) err; why = inr (λ free. absurd (cc (fits free))) }

  -- one more is opened, or there was no memory for it
  pub unanswered-inserted : {E : Type 0} (old new : Slab (Client C)) (client : Client C) (key : Result ℕ E) → IfOk key (λ k. Updates old new k (Some client))
      → OnErr key (new ≡ record old { capacity = new.capacity }) → unanswered new ≤ unanswered old + 1
  unanswered-inserted old new client (Ok key) updates err =
      omega (arith, unanswered-updates old new key (Some client) updates, one-most is_unanswered refl (Some client))
  unanswered-inserted old new client (Err e) updates err = omega (arith, ap unanswered err)

  module _ {F : Type 0} (step : F → ℕ → MutBor (Client C) → Bool → MutBor (Client C) → F → Type 0) (now : Instant) (At : F → Type 0)
      (keeps : (f : F) (key : ℕ) (shown : MutBor (Client C)) (keep : Bool) (left : MutBor (Client C)) (next : F) → At f → step f key shown keep left next
      → (left.now ≡ shown.now) × (keep ≡ not (is_late now shown.now)) × At next) where
    unchanged : (f : F) (key : ℕ) (client : Client C) (keep : Bool) (new : Client C) (next : F) → At f → CalledAt step f key client keep new next → new ≡ client
    unchanged f key client keep new next at called = sym called.leaves ∙ (keeps f key called.shown keep called.left next at called.called).0 ∙ called.shows

    later : (f : F) (key : ℕ) (client : Client C) (keep : Bool) (new : Client C) (next : F) → At f → CalledAt step f key client keep new next → At next
    later f key client keep new next at called = (keeps f key called.shown keep called.left next at called.called).2

    kept-slot : (late keep : Bool) (client new : Client C) → keep ≡ not late → new ≡ client
        → (if keep then Some new else None) ≡ (if late then None else Some client)
    kept-slot true keep client new e same = rw e refl
    kept-slot false keep client new e same = rw (e, same) refl

    late-slots : (f : F) (first : ℕ) (old new : List (Option (Client C))) → At f → RetainsFrom step f first old new → (key : ℕ)
        → get_or new key None ≡ in_time now (get_or old key None)
    late-slots f first [] new at run key = rw run refl
    late-slots f first (None ∷ old) new at run zero = rw run.1 refl
    late-slots f first (None ∷ old) new at run (suc key) = rw run.1 (late-slots f (first + 1) old run.0 at run.2 key)
    late-slots f first (Some client ∷ old) new at run zero =
        let called = run.3 in
        let same = unchanged f first client run.0 run.1 run.2 at called in
        let keep = (keeps f first called.shown run.0 called.left run.2 at called.called).1 ∙ ap (λ l. not (is_late now l)) called.shows in
        rw run.5 (kept-slot (is_late now client) run.0 client run.1 keep same)
    late-slots f first (Some client ∷ old) new at run (suc key) = rw run.5 (late-slots run.2 (first + 1) old run.4 (later f first client run.0 run.1 run.2 at run.3) run.6 key)

    -- those that had their time
    pub closes-late : (f : F) (old new : Slab (Client C)) → At f → RetainsFrom step f 0 old.slots new.slots → ClosesLate now old new
    closes-late f old new at run = late-slots f 0 old.slots new.slots at run

  -- no more pass a test where some had their time
  module _ (passes : Option (Client C) → Bool) (none : passes None ≡ false) (now : Instant) where
    in-time-fewer : (slot : Option (Client C)) → one passes none (in_time now slot) ≤ one passes none slot
    in-time-fewer None = omega arith
    in-time-fewer (Some client) = by_test (is_late now client)
      where
        by_test : (late : Bool) → one passes none (if late then None else Some client) ≤ one passes none (Some client)
        by_test true = omega (arith, one-none passes none)
        by_test false = omega arith

    pub late-fewer : (old new : Slab (Client C)) → ClosesLate now old new → count_by passes new.slots ≤ count_by passes old.slots
    late-fewer old new late =
        count-fewer passes none old.slots new.slots (λ key. omega (arith, ap (one passes none) (late key), in-time-fewer (get old key)))

-- none is open
pub none-open : {C : Type 0} (slots : List (Option (Client C))) → count_by is_some slots ≡ 0 → (key : ℕ) → get_or slots key None ≡ None
none-open [] none key = refl
none-open (None ∷ slots) none zero = refl
none-open (None ∷ slots) none (suc key) = none-open slots (omega (arith, none, sum_by-cons (λ o. cond (is_some o) 1 0) None slots)) key
none-open (Some client ∷ slots) none key = absurd (omega (arith, none, sum_by-cons (λ o. cond (is_some o) 1 0) (Some client) slots))
