-- How many connections are open, round after round.
use Rattle.std.proofs.Common.{◌≡◌, ◌≢◌, ℕ, ◌≤◌, ◌<◌, is_some, List, [], ◌∷◌, count_by, inl, inr, refl, ap, arith}
use Rattle.std.specs.Prelude.{Bool, Option, Some, None}
use Rattle.std.specs.declared.time.Instant.{Instant}
use Rattle.slab.specs.Slab.{Slab, get, slab_len}
use Rattle.shop_book.specs.declared.books.Book.{Ghosts}
use Rattle.shop_serve.specs.declared.connections.Connection.{Ghosts as ConnectionGhosts}
use Rattle.shop_serve.specs.declared.ports.Port.{Ghosts as PortGhosts}
use Rattle.shop_serve.specs.declared.clients.ConnectionStatus.{ConnectionStatus}
use Rattle.shop_serve.specs.declared.clients.Client.{Client}
use Rattle.shop_serve.specs.declared.clients.TheConstants.{MAX_CLIENTS}
use Rattle.shop_serve.specs.declared.sites.Site.{Site}
use Rattle.shop_serve.specs.Times.{Times}
use Rattle.shop_serve.specs.Clients.{AreServiced, IsServicedAt, IsOpened, IsTurnedAway, EvictsOldest}
use Rattle.shop_serve.specs.RunningTask.{IsSteppedAt, StepsSearch}
use Rattle.shop_serve.specs.declared.searching.Progress.{Progress}
use Rattle.shop_serve.specs.declared.searching.Progress.TheVariants.{GoesOn, Answered, NoMemory}
use Rattle.shop_serve.specs.Rounds.{AreReceived, AreRounds, FewAreOpen, IsReceived, IsRound, Round}
use Rattle.shop_serve.proofs.Counts.{one, one-most, count-but, count-fewer}
use Rattle.shop_serve.proofs.Slots.{late-fewer}

module _ {C : Type 0} where
  abbrev counted : Option (Client C) → ℕ
  counted slot = one is_some refl slot

  none-few : (clients : Slab (Client C)) → ((key : ℕ) → get clients key ≡ None) → slab_len clients ≤ MAX_CLIENTS
  none-few clients none = omega (arith, count-fewer is_some refl [] clients.slots (λ key. omega (arith, ap counted (none key))))

  cleared-made : (is_scarce : Bool) (old cleared : Slab (Client C)) → slab_len old ≤ MAX_CLIENTS → EvictsOldest is_scarce old cleared → slab_len cleared < MAX_CLIENTS
  cleared-made is_scarce old cleared few (inl (less, none, same)) = omega (arith, less, ap (count_by is_some) same)
  cleared-made is_scarce old cleared few (inr (full, key, oldest, gone)) =
      omega (arith, few, count-but is_some refl key old.slots cleared.slots gone.others, ap counted gone.changed, ap counted oldest.there)

  opened-few : {P : Type 0} (port : PortGhosts P C) (at : P) (now : Instant) (stream : C) (key : ℕ) (old new : Slab (Client C)) → slab_len old ≤ MAX_CLIENTS → IsOpened port at now stream key old new → slab_len new ≤ MAX_CLIENTS
  opened-few port at now stream key old new few o =
      omega (arith, cleared-made (port.is_scarce at) old o.cleared few o.made, count-but is_some refl key o.cleared.slots new.slots o.there.others, ap counted o.there.changed, ap counted o.free)

  turned-few : {P : Type 0} (port : PortGhosts P C) (at : P) (old new : Slab (Client C)) → slab_len old ≤ MAX_CLIENTS → IsTurnedAway port at old new → slab_len new ≤ MAX_CLIENTS
  turned-few port at old new few t = omega (arith, cleared-made (port.is_scarce at) old t.cleared few t.made, ap (count_by is_some) t.same)

  received-few : {P : Type 0} (port : PortGhosts P C) (stream : C) (old new : Slab (Client C)) (seen seeing : Times) → slab_len old ≤ MAX_CLIENTS
      → IsReceived port stream old new seen seeing → slab_len new ≤ MAX_CLIENTS
  received-few port stream old new seen seeing few (now, at, reported, inl away) = turned-few port at old new few away
  received-few port stream old new seen seeing few (now, at, reported, inr here) = opened-few port at now stream here.0 old new few here.1

  arrived-few : {P : Type 0} (port : PortGhosts P C) (arrived : List C) (old new : Slab (Client C)) (seen seeing : Times) → slab_len old ≤ MAX_CLIENTS
      → AreReceived port arrived old new seen seeing → slab_len new ≤ MAX_CLIENTS
  arrived-few port [] old new seen seeing few run = omega (arith, few, ap (λ (s : Slab (Client C)). slab_len s) run.0)
  arrived-few port (stream ∷ arrived) old new seen seeing few run =
      arrived-few port arrived run.0 new run.1 seeing (received-few port stream old run.0 seen run.1 few run.2) run.3

module _ {C : Type 0} (connection : ConnectionGhosts C) (site : Site) {B : Type 0} (book : Ghosts B) {P : Type 0} (port : PortGhosts P C) where
  serviced-fewer : (status : ConnectionStatus) (key : ℕ) (old new : Slab (Client C)) (before after : B) (seen seeing : Times)
      → IsServicedAt connection site book status key old new before after seen seeing → slab_len new ≤ slab_len old
  serviced-fewer status key old new before after seen seeing serviced = by_slot (get old key) refl
    where
      by_slot : (slot : Option (Client C)) → get old key ≡ slot → slab_len new ≤ slab_len old
      by_slot None is = omega (arith, count-but is_some refl key old.slots new.slots serviced.others, ap counted is, ap counted (serviced.absent is).0)
      by_slot (Some client) is = omega (arith, count-but is_some refl key old.slots new.slots serviced.others, ap counted is, one-most is_some refl (get new key))

  each-fewer : (keys : List ℕ) (old new : Slab (Client C)) (before after : B) (seen seeing : Times)
      → AreServiced connection site book keys old new before after seen seeing → slab_len new ≤ slab_len old
  each-fewer [] old new before after seen seeing run = omega (arith, ap (λ (s : Slab (Client C)). slab_len s) run.0)
  each-fewer (key ∷ keys) old new before after seen seeing run =
      omega (arith, serviced-fewer run.0 key old run.1 before run.2 seen run.3 run.4, each-fewer keys run.1 new run.2 after run.3 seeing run.5)

  task-fewer : (crowded : Bool) (progress : Progress) (now : Instant) (key : ℕ) (old new : Slab (Client C)) (seen seeing : Times)
      → IsSteppedAt connection crowded progress now key old new seen seeing → slab_len new ≤ slab_len old
  task-fewer crowded progress now key old new seen seeing t =
      omega (arith, count-but is_some refl key old.slots new.slots t.others, ap counted t.there, one-most is_some refl (get new key))

  steps_search-fewer : (now : Instant) (old new : Slab (Client C)) (before after : B) (seen seeing : Times)
      → StepsSearch connection site book now old new before after seen seeing → slab_len new ≤ slab_len old
  steps_search-fewer now old new before after seen seeing (inl idle) = omega (arith, ap (λ (s : Slab (Client C)). slab_len s) idle.1)
  steps_search-fewer now old new before after seen seeing (inr t) = by_progress t.progress refl
    where
      once : slab_len t.clients ≤ slab_len old
      once = task-fewer t.crowded t.progress now t.key old t.clients seen t.between t.task

      on : t.progress ≢ Answered → slab_len new ≤ slab_len old
      on other = omega (arith, once, ap (λ (s : Slab (Client C)). slab_len s) (t.goes_on other).0)

      by_progress : (p : Progress) → t.progress ≡ p → slab_len new ≤ slab_len old
      by_progress GoesOn e = on (λ is. absurd (cc (e, is)))
      by_progress NoMemory e = on (λ is. absurd (cc (e, is)))
      by_progress Answered e =
          let handed = t.answered e in
          omega (arith, once, serviced-fewer handed.0 t.key t.clients new before after t.between seeing handed.1)

  round-few : (round : Round C) (old new : Slab (Client C)) (before after : B) (seen seeing : Times) → slab_len old ≤ MAX_CLIENTS
      → IsRound connection site book port round old new before after seen seeing → slab_len new ≤ MAX_CLIENTS
  round-few round old new before after seen seeing few r =
      arrived-few port round.arrived r.task new r.third seeing
      (omega (arith, few, steps_search-fewer round.now r.kept r.task r.mid after r.second r.third r.steps_search, each-fewer round.keys old r.serviced before r.mid seen r.first r.each, late-fewer is_some refl round.now r.serviced r.kept r.late)) r.received

  rounds-few : (rounds : List (Round C)) (old new : Slab (Client C)) (before after : B) (seen seeing : Times) → slab_len old ≤ MAX_CLIENTS
      → AreRounds connection site book port rounds old new before after seen seeing → slab_len new ≤ MAX_CLIENTS
  rounds-few [] old new before after seen seeing few run = omega (arith, few, ap (λ (s : Slab (Client C)). slab_len s) run.0)
  rounds-few (round ∷ rounds) old new before after seen seeing few run =
      rounds-few rounds run.0 new run.1 after run.2 seeing (round-few round old run.0 before run.1 run.3.0 run.2 few run.3.2) run.4

  pub few_are_open : FewAreOpen connection site book port
  few_are_open rounds first last before after seen seeing run none = rounds-few rounds first last before after seen seeing (none-few first none) run
