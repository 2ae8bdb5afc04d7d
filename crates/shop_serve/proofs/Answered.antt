-- A connection that reports all, and brings a whole request, is answered.
use Rattle.std.proofs.Common.{◌≡◌, ◌≢◌, ◌∙◌, ℕ, ◌<◌, ◌≤◌, List, [], ◌++◌, length, take, inl, inr, refl, sym, ap, subst, arith}
use Rattle.std.proofs.lemmas.List.{append-nil, length-append}
use Rattle.std.specs.Io.KnownBytes.{Appends, IsAtEnd}
use Rattle.std.specs.declared.alloc.Global.{Global}
use Rattle.std.specs.Prelude.{Vec, ◌⊎◌, Option, Some, None, IfSome, IsSome, IsSomeAnd}
use Rattle.slab.specs.Slab.{Slab, get}
use Rattle.std.specs.declared.time.Instant.{Instant}
use Rattle.shop_book.specs.declared.books.Book.{Ghosts}
use Rattle.shop_request.specs.Reading.{IsReadOn}
use Rattle.shop_request.specs.Parses.{IsUnfinished}
use Rattle.shop_serve.specs.declared.connections.Connection.{Ghosts as ConnectionGhosts}
use Rattle.shop_serve.specs.declared.clients.ConnectionStatus.{ConnectionStatus}
use Rattle.shop_serve.specs.declared.clients.ConnectionStatus.TheVariants.{NoMemory}
use Rattle.shop_serve.specs.declared.clients.Client.{Client}
use Rattle.shop_serve.specs.declared.sites.Site.{Site}
use Rattle.shop_serve.specs.Known.{ReportsAll, BringsRequest, HasOwnAnswer, HasOwnQuery}
use Rattle.shop_serve.specs.Times.{Times}
use Rattle.shop_serve.specs.Clients.{AwaitsMore, IsAnsweredWhole, IsServiced, IsServicedAt, IsBegunWhole, IsClosedBy, IsFresh, IsHeard, IsMute, IsSpent, IsSpoiled}
use Rattle.shop_planning.specs.PlanTasks.{instance_in}
use Rattle.shop_serve.proofs.ServedRequests.{answered-then}

module _ {C : Type 0} (connection : ConnectionGhosts C) (site : Site) {B : Type 0} (book : Ghosts B)
    (now : Instant) (stream : C) (input : List ℕ) (client : Client C) (before after : B) (seen seeing : Times)
    (reports : ReportsAll connection) (brings : BringsRequest connection stream input) (fresh : IsFresh now stream client) where
  comes : connection.remaining client.stream ≡ Some input
  comes = ap connection.remaining fresh.own ∙ brings.comes

  -- what was read of it
  read_of : (rest : Option (List ℕ)) (received : List ℕ) → IsReadOn (connection.remaining client.stream) rest client.received.items received → IsReadOn (Some input) rest [] received
  read_of rest received read = subst (λ old. IsReadOn old rest [] received) comes (subst (λ first. IsReadOn (connection.remaining client.stream) rest first received) fresh.received read)

  first_part : (rest : Option (List ℕ)) (received : List ℕ) → IsReadOn (Some input) rest [] received → (left : List ℕ) × (rest ≡ Some left) × (input ≡ received ++ left)
  first_part None received read = absurd read.2
  first_part (Some left) received read = (left, refl, read.2 ∙ ap (λ l. l ++ left) (sym read.1))

  awaits : AwaitsMore client.received.items client.needed
  awaits = record { here = inl fresh.received; later = λ more few. absurd (omega (arith, few, fresh.needed)) }

  not_waiting : (received : List ℕ) (needed : ℕ) (left : C) → IsReadOn (connection.remaining client.stream) (connection.remaining left) client.received.items received → connection.is_drained left
      → AwaitsMore received needed → ⊥
  not_waiting received needed left read drained more =
      let part = first_part (connection.remaining left) received (read_of (connection.remaining left) received read) in
      let none : Some part.0 ≡ Some [] = sym part.1 ∙ reports.drained left drained in
      let empty : part.0 ≡ [] = cc none in
      brings.whole (subst IsUnfinished (sym (part.2 ∙ ap (λ l. received ++ l) empty ∙ append-nil received)) more.here)

  not_mute : (left : Client C) → IsMute connection client.stream client.received.items left.stream left.received.items → ⊥
  not_mute left (inl lost) = reports.kept left.stream lost
  not_mute left (inr (read, inl ended)) =
      let part = first_part (connection.remaining left.stream) left.received.items (read_of (connection.remaining left.stream) left.received.items read) in
      let none : part.0 ≡ [] = subst IsAtEnd part.1 ended.1 in
      brings.whole (inl (part.2 ∙ ap (λ l. l ++ part.0) ended.0 ∙ none))
  not_mute left (inr (read, inr long)) =
      let part = first_part (connection.remaining left.stream) left.received.items (read_of (connection.remaining left.stream) left.received.items read) in
      absurd (omega (arith, long, brings.few, ap length part.2, length-append left.received.items part.0))

  not_spoiled : (left : Client C) → IsSpoiled connection site book client left → ⊥
  not_spoiled left (inl mute) = not_mute left mute.2
  not_spoiled left (inr (inl over)) = subst (λ o. IsSomeAnd o (λ answer. connection.is_lost left.stream ⊎ (length answer.items < client.sent))) fresh.waits over
  not_spoiled left (inr (inr forsaken)) = absurd (cc (subst IsSome fresh.asks forsaken.0))

  took : (held : Option (List ℕ)) (bytes : List ℕ) → Appends (Some []) held bytes → held ≡ Some bytes
  took None bytes is = absurd is
  took (Some ys) bytes is = ap Some is

  abbrev HasOwn : Option (Client C) → Type 0
  HasOwn place = HasOwnAnswer connection site book input place before after ⊎ HasOwnQuery connection site book input before after

  -- where it is now, or how much it took
  abbrev IsAt : Option (Client C) → Client C → Type 0
  IsAt None left = IsSpent left
  IsAt (Some client) left = client ≡ left

  is_there : (place : Option (Client C)) (left : Client C) (a : Vec ℕ Global) → left.answer ≡ Some a → IsAt place left
      → IfSome place (λ client. (client.stream ≡ left.stream) × (client.sent ≡ left.sent) × IsSomeAnd client.answer (λ x. x.items ≡ a.items))
  is_there None left a e at = tt
  is_there (Some client) left a e at =
      subst (λ (l : Client C). (l.stream ≡ left.stream) × (l.sent ≡ left.sent) × IsSomeAnd l.answer (λ x. x.items ≡ a.items)) (sym at)
      (refl, refl, subst (λ o. IsSomeAnd o (λ (x : Vec ℕ Global). x.items ≡ a.items)) (sym e) refl)

  is_gone : (place : Option (Client C)) (left : Client C) (a : Vec ℕ Global) → left.answer ≡ Some a → IsAt place left → place ≡ None → length a.items ≤ left.sent
  is_gone None left a e at none = subst (λ o. IsSomeAnd o (λ (x : Vec ℕ Global). length x.items ≤ left.sent)) e at
  is_gone (Some client) left a e at none = absurd (cc none)

  answered : (place : Option (Client C)) (left : Client C) → IsAt place left → IsServiced connection site book client left before after seen seeing → HasOwn place
  answered place left at serviced = by_answer left.answer refl
    where
      heard : IsHeard connection site book client left before after seen seeing
      heard = serviced.2 fresh.waits fresh.asks

      by_task : left.answer ≡ None → (t : Option _) → left.task ≡ t → HasOwn place
      by_task none None e =
          let w = heard.waits none e in
          absurd (not_waiting left.received.items left.needed left.stream w.read w.drained (w.awaits awaits))
      by_task none (Some t) e =
          let whole = subst (λ o. IfSome o (IsBegunWhole connection site book client left heard.rest before after seen seeing)) e heard.begun in
          let part = first_part heard.rest left.received.items (read_of heard.rest left.received.items heard.read) in
          inr (record {
            received = left.received.items;
            rest = part.0;
            instance = instance_in t.task;
            split = part.2;
            whole = elim whole.whole [ inl determined ↦ inl determined | inr end ↦ inr (subst IsAtEnd part.1 end) ];
            asked = whole.asked;
          })

      by_answer : (o : Option _) → left.answer ≡ o → HasOwn place
      by_answer None e = by_task e left.task refl
      by_answer (Some a) e =
          let whole = subst (λ o. IfSome o (λ answer. IsAnsweredWhole connection site book client left heard.rest before after seen seeing answer.items)) e heard.answered in
          let part = first_part heard.rest left.received.items (read_of heard.rest left.received.items heard.read) in
          let first : connection.contents client.stream ≡ Some [] = ap connection.contents fresh.own ∙ brings.took in
          inl (record {
            received = left.received.items;
            rest = part.0;
            answer = a.items;
            left = left.stream;
            sent = left.sent;
            split = part.2;
            whole = elim whole.whole [ inl determined ↦ inl determined | inr end ↦ inr (subst IsAtEnd part.1 end) ];
            answered = answered-then site book before after seen seeing left.since left.received.items a.items whole.answered;
            takes = took (connection.contents left.stream) (take left.sent a.items) (whole.takes (Some []) (subst (λ held. Appends (Some []) held []) (sym first) refl));
            stops = whole.stops;
            stays = is_there place left a e at;
            goes = is_gone place left a e at;
          })

  pub whole_is_answered : (status : ConnectionStatus) (key : ℕ) (old new : Slab (Client C)) → get old key ≡ Some client → status ≢ NoMemory
      → IsServicedAt connection site book status key old new before after seen seeing → HasOwn (get new key)
  whole_is_answered status key old new is known serviced = by_place (get new key) refl
    where
      by_reason : IsClosedBy connection site book status client before after seen seeing → HasOwn None
      by_reason (inl wanting) = absurd (known wanting)
      by_reason (inr (left, inl spent)) = answered None left spent.1 spent.0
      by_reason (inr (left, inr spoiled)) = absurd (not_spoiled left spoiled)

      by_place : (place : Option (Client C)) → get new key ≡ place → HasOwn (get new key)
      by_place None e = subst HasOwn (sym e) (by_reason (serviced.closed client is e))
      by_place (Some left) e =
          subst HasOwn (sym e)
          (answered (Some left) left refl (subst (λ slot. IfSome slot (λ left. IsServiced connection site book client left before after seen seeing)) e (serviced.there client is)))
