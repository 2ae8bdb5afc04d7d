-- Each connection has its own query and its own answer, round after round.
use Rattle.std.proofs.Common.{◌≡◌, ◌≢◌, ◌∙◌, ℕ, ◌+◌, Bool, true, false, List, [], ◌∷◌, inl, inr, refl, sym, ap, subst}
use Rattle.std.proofs.lemmas.Bool.{eqb-true, eqb-false}
use Rattle.std.specs.Prelude.{Option, Some, None, IfSome, IsSome, nat_eq, if◌then◌else◌}
use Rattle.std.specs.declared.time.Instant.{Instant}
use Rattle.slab.specs.Slab.{Slab, get}
use Rattle.shop_book.specs.declared.books.Book.{Ghosts}
use Rattle.shop_planning.specs.PlanTasks.{instance_in}
use Rattle.shop_serve.specs.declared.connections.Connection.{Ghosts as ConnectionGhosts}
use Rattle.shop_serve.specs.declared.ports.Port.{Ghosts as PortGhosts}
use Rattle.shop_serve.specs.declared.clients.ConnectionStatus.{ConnectionStatus}
use Rattle.shop_serve.specs.declared.clients.Client.{Client}
use Rattle.shop_serve.specs.declared.sites.Site.{Site}
use Rattle.shop_serve.specs.declared.searching.RunningTask.{RunningTask as RunningTaskOf}
use Rattle.shop_serve.specs.declared.searching.Progress.{Progress}
use Rattle.shop_serve.specs.declared.searching.Progress.TheVariants.{GoesOn, Answered, NoMemory}
use Rattle.shop_serve.specs.Clients.{AreServiced, IsServiced, IsServicedAt, IsHandedOn, IsOpened, IsTurnedAway, EvictsOldest, in_time, is_late}
use Rattle.shop_serve.specs.Own.{Leads, WasDone, WasAsked, WasAnswered, HasItsOwn, EachHasItsOwn}
use Rattle.shop_serve.specs.Rounds.{AreReceived, AreRounds, IsReceived, IsRound, Round}
use Rattle.shop_serve.specs.RunningTask.{IsSteppedAt, StepsSearch}
use Rattle.shop_serve.specs.Times.{Times}
use Rattle.shop_serve.proofs.ServedRequests.{answered-then, none_served, more_served}

if_some : {A : Type 0} (o : Option A) (P Q : A → Type 0) → ((a : A) → P a → Q a) → IfSome o P → IfSome o Q
if_some None P Q f p = p
if_some (Some a) P Q f p = f a p

module _ (site : Site) {B : Type 0} (book : Ghosts B) where
  stays : (here : B) → Leads site book here here
  stays here = record { clean_disk = λ h. h; count = 0; served = none_served site book here 0 }

  on : (a b c : B) → Leads site book a b → Leads site book b c → Leads site book a c
  on a b c first second = record {
    clean_disk = λ h. first.clean_disk (second.clean_disk h);
    count = first.count + second.count;
    served = more_served site book a b c first.count second.count second.clean_disk first.served second.served;
  }

  later-done : (a b c : B) (done : B → B → Type 0) → Leads site book b c → WasDone site book a b done → WasDone site book a c done
  later-done a b c done more was = record { old = was.old; new = was.new; earlier = was.earlier; step = was.step; clean_disk = was.clean_disk; later = on was.new b c was.later more }

  later-answer : (a b c : B) (received answer : List ℕ) → Leads site book b c → WasAnswered site book a b received answer → WasAnswered site book a c received answer
  later-answer a b c received answer more (inl was) = inl (later-done a b c _ more was)
  later-answer a b c received answer more (inr was) = inr (was.0, later-done a b c _ more was.1, was.2)

  module _ {C : Type 0} where
    later-own : (a b c : B) (client : Client C) → Leads site book b c → HasItsOwn site book a b client → HasItsOwn site book a c client
    later-own a b c client more own = (
      if_some client.task _ _ (λ t was. later-done a b c _ more was) own.0,
      if_some client.answer _ _ (λ answer was. later-answer a b c client.received.items answer.items more was) own.1,
    )

    -- another connection with the same
    same-own : (a b : B) (client other : Client C) → other.task ≡ client.task → other.answer ≡ client.answer → other.received ≡ client.received → HasItsOwn site book a b client → HasItsOwn site book a b other
    same-own a b client other task answer received own = (
      subst (λ o. IfSome o (λ t. WasAsked site book a b other.received.items (instance_in t.task))) (sym task)
          (subst (λ c. IfSome client.task (λ t. WasAsked site book a b c.items (instance_in t.task))) (sym received) own.0),
      subst (λ o. IfSome o (λ x. WasAnswered site book a b other.received.items x.items)) (sym answer)
          (subst (λ c. IfSome client.answer (λ x. WasAnswered site book a b c.items x.items)) (sym received) own.1),
    )

    -- all that are open have their own
    abbrev Own : B → B → Slab (Client C) → Type 0
    Own a b clients = (key : ℕ) (client : Client C) → get clients key ≡ Some client → HasItsOwn site book a b client

    fewer-own : (a b c : B) (old new : Slab (Client C)) → Leads site book b c → ((key : ℕ) (client : Client C) → get new key ≡ Some client → get old key ≡ Some client) → Own a b old → Own a c new
    fewer-own a b c old new more from own key client is = later-own a b c client more (own key client (from key client is))

    -- it is that of a key, or another
    at-key : (a b c : B) (old new : Slab (Client C)) (key : ℕ) → Leads site book b c → ((other : ℕ) → other ≢ key → get new other ≡ get old other)
        → ((client : Client C) → get new key ≡ Some client → HasItsOwn site book a c client) → Own a b old → Own a c new
    at-key a b c old new key more others one own other client is = by_test (nat_eq other key) refl
      where
        by_test : (b : Bool) → nat_eq other key ≡ b → HasItsOwn site book a c client
        by_test true e = one client (subst (λ k. get new k ≡ Some client) (eqb-true other key e) is)
        by_test false e = later-own a _ c client more (own other client (sym (others other (eqb-false other key e)) ∙ is))

    late-own : (now : Instant) (slot : Option (Client C)) (client : Client C) → in_time now slot ≡ Some client → slot ≡ Some client
    late-own now None client e = absurd (cc e)
    late-own now (Some there) client e = by_test (is_late now there) e
      where
        by_test : (late : Bool) → (if late then None else Some there) ≡ Some client → Some there ≡ Some client
        by_test true e = absurd (cc e)
        by_test false e = e

    cleared-own : (is_scarce : Bool) (old cleared : Slab (Client C)) → EvictsOldest is_scarce old cleared → (key : ℕ) (client : Client C) → get cleared key ≡ Some client → get old key ≡ Some client
    cleared-own is_scarce old cleared (inl (few, none, same)) key client is = ap (λ slots. get (record old { slots = slots }) key) (sym same) ∙ is
    cleared-own is_scarce old cleared (inr (full, gone, oldest, updates)) key client is = by_test (nat_eq key gone) refl
      where
        by_test : (b : Bool) → nat_eq key gone ≡ b → get old key ≡ Some client
        by_test true e = absurd (cc (updates.changed, subst (λ k. get cleared k ≡ Some client) (eqb-true key gone e) is))
        by_test false e = sym (updates.others key (eqb-false key gone e)) ∙ is

module _ {C : Type 0} (connection : ConnectionGhosts C) (site : Site) {B : Type 0} (book : Ghosts B) {P : Type 0} (port : PortGhosts P C) where
  abbrev Open : B → B → Slab (Client C) → Type 0
  Open a b clients = Leads site book a b × Own site book a b clients

  -- one connection, as it is serviced
  client-own : (a b c : B) (seen seeing : Times) (old new : Client C) → Leads site book a b → Leads site book b c → (book.has_clean_disk c → book.has_clean_disk b)
      → HasItsOwn site book a b old → IsServiced connection site book old new b c seen seeing → HasItsOwn site book a c new
  client-own a b c seen seeing old new so_far more clean_disk own serviced = by_answer old.answer refl
    where
      was : HasItsOwn site book a c old
      was = later-own site book a b c old more own

      by_task : old.answer ≡ None → (t : Option _) → old.task ≡ t → HasItsOwn site book a c new
      by_task none (Some t) e =
          let discarded = serviced.1 none (subst IsSome (sym e) refl) in
          same-own site book a c old new (ap (λ (l : Client C). l.task) discarded.kept) (ap (λ (l : Client C). l.answer) discarded.kept) (ap (λ (l : Client C). l.received) discarded.kept) was
      by_task none None e =
          let heard = serviced.2 none e in (
            if_some new.task _ _ (λ t begun. record { old = b; new = c; earlier = so_far; step = begun.asked; clean_disk = clean_disk; later = stays site book c }) heard.begun,
            if_some new.answer _ _ (λ answer whole. inl (record { old = b; new = c; earlier = so_far; step = answered-then site book b c seen seeing new.since new.received.items answer.items whole.answered; clean_disk = clean_disk; later = stays site book c })) heard.answered,
          )

      by_answer : (o : Option _) → old.answer ≡ o → HasItsOwn site book a c new
      by_answer None e = by_task e old.task refl
      by_answer (Some x) e =
          let handed = subst (λ o. IfSome o (λ x. IsHandedOn connection site book old new b c seen seeing x.items)) e serviced.0 in
          same-own site book a c old new handed.asks handed.kept handed.received was

  serviced-own : (status : ConnectionStatus) (key : ℕ) (old new : Slab (Client C)) (a b c : B) (seen seeing : Times) → IsServicedAt connection site book status key old new b c seen seeing
      → Open a b old → Open a c new
  serviced-own status key old new a b c seen seeing serviced (so_far, own) = (
    on site book a b c so_far more,
    at-key site book a b c old new key more serviced.others (λ client is. by_slot client is (get old key) refl) own,
  )
    where
      more : Leads site book b c
      more = record { clean_disk = serviced.clean_disk; count = 1; served = serviced.one }

      by_slot : (client : Client C) → get new key ≡ Some client → (slot : Option (Client C)) → get old key ≡ slot → HasItsOwn site book a c client
      by_slot client is None e = absurd (cc (is, (serviced.absent e).0))
      by_slot client is (Some there) e =
          client-own a b c seen seeing there client so_far more serviced.clean_disk (own key there e)
          (subst (λ slot. IfSome slot (λ left. IsServiced connection site book there left b c seen seeing)) is (serviced.there there e))

  each-own : (keys : List ℕ) (old new : Slab (Client C)) (a b c : B) (seen seeing : Times) → AreServiced connection site book keys old new b c seen seeing → Open a b old → Open a c new
  each-own [] old new a b c seen seeing run here = subst (λ (n : Slab (Client C)). Open a c n) (sym run.0) (subst (λ (d : B). Open a d old) (sym run.1) here)
  each-own (key ∷ keys) old new a b c seen seeing run here =
      each-own keys run.1 new a run.2 c run.3 seeing run.5 (serviced-own run.0 key old run.1 a b run.2 seen run.3 run.4 here)

  -- a query takes a search step
  task-own : (crowded : Bool) (progress : Progress) (now : Instant) (key : ℕ) (old new : Slab (Client C)) (a b : B) (seen seeing : Times) → IsSteppedAt connection crowded progress now key old new seen seeing
      → Own site book a b old → Own site book a b new
  task-own crowded progress now key old new a b seen seeing t own = at-key site book a b b old new key (stays site book b) t.others (λ client is. by_progress client is progress refl) own
    where
      was : HasItsOwn site book a b t.client
      was = own key t.client t.there

      asked : (searching : RunningTaskOf) → t.client.task ≡ Some searching → WasAsked site book a b t.client.received.items (instance_in searching.task)
      asked searching is = subst (λ o. IfSome o (λ t2. WasAsked site book a b t.client.received.items (instance_in t2.task))) is was.0

      by_progress : (client : Client C) → get new key ≡ Some client → (p : Progress) → progress ≡ p → HasItsOwn site book a b client
      by_progress client is GoesOn e =
          let (left, at, once, unread) = t.goes_on e in
          let same : left ≡ client = cc (at, is) in
          subst (HasItsOwn site book a b) (sym once.kept ∙ same) (subst (WasAsked site book a b t.client.received.items) (sym once.same) (asked once.searching once.asks), was.1)
      by_progress client is Answered e =
          let (left, at, out) = t.answered e in
          let same : left ≡ client = cc (at, is) in
          subst (HasItsOwn site book a b) (sym out.kept ∙ same) (tt, inr (instance_in out.searching.task, asked out.searching out.asks, out.reported))
      by_progress client is NoMemory e = absurd (cc (is, (t.closed e).0))

  steps_search-own : (now : Instant) (old new : Slab (Client C)) (a b c : B) (seen seeing : Times) → StepsSearch connection site book now old new b c seen seeing → Open a b old → Open a c new
  steps_search-own now old new a b c seen seeing (inl idle) here = subst (λ (n : Slab (Client C)). Open a c n) (sym idle.1) (subst (λ (d : B). Open a d old) (sym idle.2) here)
  steps_search-own now old new a b c seen seeing (inr t) (so_far, own) = by_progress t.progress refl
    where
      once : Own site book a b t.clients
      once = task-own t.crowded t.progress now t.key old t.clients a b seen t.between t.task own

      rests : t.progress ≢ Answered → Open a c new
      rests other =
          let same = t.goes_on other in
          subst (λ (n : Slab (Client C)). Open a c n) (sym same.0) (subst (λ (d : B). Open a d t.clients) (sym same.1) (so_far, once))

      by_progress : (p : Progress) → t.progress ≡ p → Open a c new
      by_progress GoesOn e = rests (λ is. absurd (cc (e, is)))
      by_progress NoMemory e = rests (λ is. absurd (cc (e, is)))
      by_progress Answered e =
          let handed = t.answered e in serviced-own handed.0 t.key t.clients new a b c t.between seeing handed.1 (so_far, once)

  -- a connection came
  opened-own : (at : P) (now : Instant) (stream : C) (key : ℕ) (old new : Slab (Client C)) (a b : B) → IsOpened port at now stream key old new → Own site book a b old → Own site book a b new
  opened-own at now stream key old new a b o own =
      at-key site book a b b o.cleared new key (stays site book b) o.there.others
      (λ client is. let same : o.client ≡ client = cc (o.there.changed, is) in subst (HasItsOwn site book a b) same (nothing o.client o.fresh.asks o.fresh.waits))
      (fewer-own site book a b b old o.cleared (stays site book b) (cleared-own site book (port.is_scarce at) old o.cleared o.made) own)
    where
      nothing : (client : Client C) → client.task ≡ None → client.answer ≡ None → HasItsOwn site book a b client
      nothing client asks waits = (
        subst (λ o. IfSome o (λ t. WasAsked site book a b client.received.items (instance_in t.task))) (sym asks) tt,
        subst (λ o. IfSome o (λ x. WasAnswered site book a b client.received.items x.items)) (sym waits) tt,
      )

  turned-own : (at : P) (old new : Slab (Client C)) (a b : B) → IsTurnedAway port at old new → Own site book a b old → Own site book a b new
  turned-own at old new a b t own =
      fewer-own site book a b b old new (stays site book b)
      (λ key client is. cleared-own site book (port.is_scarce at) old t.cleared t.made key client (ap (λ slots. get (record t.cleared { slots = slots }) key) (sym t.same) ∙ is)) own

  received-own : (stream : C) (old new : Slab (Client C)) (a b : B) (seen seeing : Times) → IsReceived port stream old new seen seeing → Open a b old → Open a b new
  received-own stream old new a b seen seeing (now, at, reported, inl away) (so_far, own) = (so_far, turned-own at old new a b away own)
  received-own stream old new a b seen seeing (now, at, reported, inr here) (so_far, own) = (so_far, opened-own at now stream here.0 old new a b here.1 own)

  arrived-own : (arrived : List C) (old new : Slab (Client C)) (a b : B) (seen seeing : Times) → AreReceived port arrived old new seen seeing → Open a b old → Open a b new
  arrived-own [] old new a b seen seeing run here = subst (λ (n : Slab (Client C)). Open a b n) (sym run.0) here
  arrived-own (stream ∷ arrived) old new a b seen seeing run here =
      arrived-own arrived run.0 new a b run.1 seeing run.3 (received-own stream old run.0 a b seen run.1 run.2 here)

  round-own : (round : Round C) (old new : Slab (Client C)) (a b c : B) (seen seeing : Times) → IsRound connection site book port round old new b c seen seeing → Open a b old → Open a c new
  round-own round old new a b c seen seeing r here =
      let first = each-own round.keys old r.serviced a b r.mid seen r.first r.each here in
      let kept = fewer-own site book a r.mid r.mid r.serviced r.kept (stays site book r.mid) (λ key client is. late-own site book round.now (get r.serviced key) client (sym (r.late key) ∙ is)) first.1 in
      arrived-own round.arrived r.task new a c r.third seeing r.received
      (steps_search-own round.now r.kept r.task a r.mid c r.second r.third r.steps_search (first.0, kept))

  rounds-own : (rounds : List (Round C)) (old new : Slab (Client C)) (a b c : B) (seen seeing : Times) → AreRounds connection site book port rounds old new b c seen seeing → Open a b old → Open a c new
  rounds-own [] old new a b c seen seeing run here = subst (λ (n : Slab (Client C)). Open a c n) (sym run.0) (subst (λ (d : B). Open a d old) (sym run.1) here)
  rounds-own (round ∷ rounds) old new a b c seen seeing run here =
      rounds-own rounds run.0 new a run.1 c run.2 seeing run.4 (round-own round old run.0 a b run.1 run.3.0 run.2 run.3.2 here)

  pub each_has_its_own : EachHasItsOwn connection site book port
  each_has_its_own rounds first last before after seen seeing run none =
      (rounds-own rounds first last before before after seen seeing run (stays site book before, λ key client is. absurd (cc (none key, is)))).1
