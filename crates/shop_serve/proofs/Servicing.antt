-- What servicing a connection leaves, and how many have no answer then.
use Rattle.std.proofs.Common.{◌≡◌, ◌≢◌, ◌∙◌, ℕ, ◌+◌, ◌<◌, ◌≤◌, Bool, true, false, List, length, take, inl, inr, refl, sym, ap, subst, arith}
use Rattle.std.specs.Io.KnownBytes.{Appends, IsAtEnd}
use Rattle.std.specs.declared.alloc.Global.{Global}
use Rattle.std.specs.Prelude.{Vec, ◌⊎◌, Option, Some, None, IfSome, IsSome, IsSomeAnd}
use Rattle.slab.specs.Slab.{Slab, get, Updates, with_value}
use Rattle.slab.proofs.SlabLemmas.{Updates-with_value}
use Rattle.std.specs.declared.time.Instant.{Instant}
use Rattle.shop_book.specs.declared.books.Book.{Ghosts}
use Rattle.shop_request.specs.Reading.{IsReadOn}
use Rattle.shop_request.specs.Parses.{IsDetermined}
use Rattle.shop_serve.specs.declared.connections.Connection.{Ghosts as ConnectionGhosts}
use Rattle.shop_serve.specs.declared.clients.ConnectionStatus.{ConnectionStatus}
use Rattle.shop_serve.specs.declared.clients.Client.{Client}
use Rattle.shop_serve.specs.declared.sites.Site.{Site}
use Rattle.shop_serve.specs.declared.transfers.Given.{Given}
use Rattle.shop_serve.specs.declared.transfers.Given.TheVariants as given
use Rattle.shop_planning.specs.PlanTasks.{instance_in}
use Rattle.shop_serve.specs.declared.answers.Made.{Made}
use Rattle.shop_serve.specs.declared.answers.Made.TheVariants.{Answer, PlanTask}
use Rattle.shop_serve.specs.Making.{IsAsked, IsMadeMeanwhile, put_made}
use Rattle.shop_serve.specs.Clients.{is_unanswered, unanswered, StopsAt, TakesAnswer, IsHandedOn, IsAnsweredWhole, IsBegunWhole, IsHeard, IsServiced, IsServicedAt, IsClosedBy, IsSpent, IsSpoiled}
use Rattle.shop_serve.specs.Serving.{Advances, HasServed, IsAnsweredThen}
use Rattle.shop_serve.specs.Times.{Times, Stands, StandsUntil, Reports}
use Rattle.shop_serve.proofs.Slots.{answered-of, has-answer, has-neither, has-query, one_of, unanswered-of, unanswered-updates}
use Rattle.shop_serve.proofs.ServedRequests.{stays, one_advances}

if_some_at : {A : Type 0} (o : Option A) (P Q : A → Type 0) → ((a : A) → o ≡ Some a → P a → Q a) → IfSome o P → IfSome o Q
if_some_at None P Q f p = p
if_some_at (Some a) P Q f p = f a refl p

module _ {C : Type 0} (connection : ConnectionGhosts C) (site : Site) {B : Type 0} (book : Ghosts B) where
  takes-ended : (answer : List ℕ) (old mid new : C) (sent there more : ℕ) → more ≡ there → connection.contents new ≡ connection.contents mid
      → TakesAnswer connection answer old sent mid there → TakesAnswer connection answer old sent new more
  takes-ended answer old mid new sent there more same contents takes before first =
      subst (λ held. Appends before held (take more answer)) (sym contents)
      (subst (λ n. Appends before (connection.contents mid) (take n answer)) (sym same) (takes before first))

  stops-ended : (answer : List ℕ) (mid new : C) (there more : ℕ) → more ≡ there → there ≡ length answer → (connection.has_ended mid → connection.has_ended new)
      → StopsAt connection answer mid there → StopsAt connection answer new more
  stops-ended answer mid new there more same whole keeps (inl ended) = inl (same ∙ whole, keeps ended.1)
  stops-ended answer mid new there more same whole keeps (inr waits) = absurd (omega (arith, whole, waits.0))

  -- it took its whole answer and was given the end of it, and what still came was dropped
  pub serviced-ended : (old mid new : Client C) (before after : B) (seen seeing : Times)
      → (new.received ≡ mid.received) × (new.answer ≡ mid.answer) × (new.sent ≡ mid.sent) → new.since ≡ mid.since → new.task ≡ mid.task
      → connection.contents new.stream ≡ connection.contents mid.stream → (connection.has_ended mid.stream → connection.has_ended new.stream) → IsSomeAnd mid.answer (λ answer. mid.sent ≡ length answer.items)
      → IsServiced connection site book old mid before after seen seeing → IsServiced connection site book old new before after seen seeing
  serviced-ended old mid new before after seen seeing kept since asks contents keeps whole serviced = (
    if_some_at old.answer _ _ (λ answer is handed. record {
      same = handed.same;
      unread = handed.unread;
      since = since ∙ handed.since;
      received = kept.0 ∙ handed.received;
      asks = asks ∙ handed.asks;
      kept = kept.1 ∙ handed.kept;
      takes = takes-ended answer.items old.stream mid.stream new.stream old.sent mid.sent new.sent kept.2 contents handed.takes;
      stops = stops-ended answer.items mid.stream new.stream mid.sent new.sent kept.2 (subst (λ o. IsSomeAnd o (λ a. mid.sent ≡ length a.items)) (handed.kept ∙ is) whole) keeps handed.stops;
    }) serviced.0,
    λ none steps_search. absurd (some_answer (ap (λ (l : Client C). l.answer) (serviced.1 none steps_search).kept ∙ none)),
    λ none rests. let heard = serviced.2 none rests in record {
      rest = heard.rest;
      read = subst (λ received. IsReadOn (connection.remaining old.stream) heard.rest old.received.items received.items) (sym kept.0) heard.read;
      waits = λ waits idle. absurd (some_answer (sym kept.1 ∙ waits));
      begun = subst (λ o. IfSome o (IsBegunWhole connection site book old new heard.rest before after seen seeing)) (sym asks)
          (if_some_at mid.task _ _ (λ searching is b. absurd (some_answer b.none)) heard.begun);
      answered = if_some_at new.answer _ _ (λ answer is whole_answer. record {
        whole = subst (λ received. IsDetermined received.items ⊎ IsAtEnd heard.rest) (sym kept.0) whole_answer.whole;
        answered = subst (λ at. IsAnsweredThen site book before after seen seeing at new.received.items answer.items) (sym since)
            (subst (λ received. IsAnsweredThen site book before after seen seeing mid.since received.items answer.items) (sym kept.0) whole_answer.answered);
        takes = takes-ended answer.items old.stream mid.stream new.stream 0 mid.sent new.sent kept.2 contents whole_answer.takes;
        stops = stops-ended answer.items mid.stream new.stream mid.sent new.sent kept.2 (subst (λ o. IsSomeAnd o (λ a. mid.sent ≡ length a.items)) (sym kept.1 ∙ is) whole) keeps whole_answer.stops;
      }) (subst (λ o. IfSome o (λ answer. IsAnsweredWhole connection site book old mid heard.rest before after seen seeing answer.items)) (sym kept.1) heard.answered);
    },
  )
    where
      some_answer : mid.answer ≡ None → ⊥
      some_answer none = subst (λ o. IsSomeAnd o (λ a. mid.sent ≡ length a.items)) none whole

  -- it was answered or its query begun, and its answer handed over as far as that went
  pub serviced-first : (old mid new : Client C) (before after : B) (seen seeing : Times) (r : Given) → old.answer ≡ None → old.task ≡ None
      → IsReadOn (connection.remaining old.stream) (connection.remaining mid.stream) old.received.items mid.received.items
      → connection.contents mid.stream ≡ connection.contents old.stream
      → ((IsSome mid.answer × (mid.task ≡ None)) ⊎ (IsSome mid.task × (mid.answer ≡ None))) × (mid.sent ≡ 0)
      → IsDetermined mid.received.items ⊎ IsAtEnd (connection.remaining mid.stream)
      → IfSome mid.answer (λ answer. IsAnsweredThen site book before after seen seeing mid.since mid.received.items answer.items)
      → IfSome mid.task (λ t. (t.last ≡ None) × IsAsked site book before after mid.received.items (instance_in t.task))
      → (IsSome mid.task → StandsUntil seen seeing mid.since) → (new.received ≡ mid.received) × (new.answer ≡ mid.answer) → new.since ≡ mid.since → new.task ≡ mid.task
      → (mid.answer ≡ None → (new ≡ mid) × (r ≡ given.Waits)) → r ≢ given.Lost
      → (r ≢ given.Lost → IfSome mid.answer (λ answer. TakesAnswer connection answer.items mid.stream mid.sent new.stream new.sent))
      → (r ≢ given.Lost → IfSome mid.answer (λ answer. StopsAt connection answer.items new.stream new.sent)) → IsServiced connection site book old new before after seen seeing
  serviced-first old mid new before after seen seeing r none rests read contents begins whole own asked timed kept since asks idle stays takes stops = (
    subst (λ o. IfSome o (λ answer. IsHandedOn connection site book old new before after seen seeing answer.items)) (sym none) tt,
    λ none steps_search. absurd (cc (subst IsSome rests steps_search)),
    λ none rests. heard mid.answer refl,
  )
    where
      asks_nothing : (answer : _) → mid.answer ≡ Some answer → mid.task ≡ None
      asks_nothing answer e = elim begins.0 [ inl answered ↦ answered.1 | inr steps_search ↦ absurd (cc (steps_search.1, e)) ]

      thinks_then : mid.answer ≡ None → IsSome mid.task
      thinks_then e = elim begins.0 [ inl answered ↦ absurd (cc (subst IsSome e answered.0)) | inr steps_search ↦ steps_search.0 ]

      heard : (o : Option _) → mid.answer ≡ o → IsHeard connection site book old new before after seen seeing
      heard None e =
          let same = (idle e).0 in
          subst (λ (l : Client C). IsHeard connection site book old l before after seen seeing) (sym same) (record {
            rest = connection.remaining mid.stream;
            read = read;
            waits = λ waits idle. absurd (cc (subst IsSome idle (thinks_then e)));
            begun = if_some_at mid.task _ _ (λ searching is so. record {
              since = timed (thinks_then e);
              whole = whole;
              asked = so.1;
              waits = so.0;
              none = e;
              took = contents;
            }) asked;
            answered = subst (λ o. IfSome o (λ answer. IsAnsweredWhole connection site book old mid (connection.remaining mid.stream) before after seen seeing answer.items)) (sym e) tt;
          })
      heard (Some a) e =
          let there = kept.1 ∙ e in
          let taken = subst (λ o. IfSome o (λ answer. TakesAnswer connection answer.items mid.stream mid.sent new.stream new.sent)) e (takes stays) in
          record {
            rest = connection.remaining mid.stream;
            read = subst (λ received. IsReadOn (connection.remaining old.stream) (connection.remaining mid.stream) old.received.items received.items) (sym kept.0) read;
            waits = λ waits idle. absurd (cc (waits, there));
            begun = subst (λ o. IfSome o (IsBegunWhole connection site book old new (connection.remaining mid.stream) before after seen seeing)) (sym (asks ∙ asks_nothing a e)) tt;
            answered = subst (λ o. IfSome o (λ answer. IsAnsweredWhole connection site book old new (connection.remaining mid.stream) before after seen seeing answer.items)) (sym there) (record {
              whole = subst (λ received. IsDetermined received.items ⊎ IsAtEnd (connection.remaining mid.stream)) (sym kept.0) whole;
              answered = subst (λ at. IsAnsweredThen site book before after seen seeing at new.received.items a.items) (sym since)
                  (subst (λ received. IsAnsweredThen site book before after seen seeing mid.since received.items a.items) (sym kept.0)
                  (subst (λ o. IfSome o (λ answer. IsAnsweredThen site book before after seen seeing mid.since mid.received.items answer.items)) e own));
              takes = λ held first. taken held (subst (λ n. Appends held (connection.contents mid.stream) (take n a.items)) (sym begins.1)
                  (subst (λ known. Appends held known (take 0 a.items)) (sym contents) first));
              stops = subst (λ o. IfSome o (λ answer. StopsAt connection answer.items new.stream new.sent)) e (stops stays);
            });
          }

  -- what was made was put into its connection
  module _ (before after : B) (seen still between seeing : Times) (client : Client C) where
    pub made-own : (made : Made) (now : Instant) → Stands seen still → IsMadeMeanwhile site book before after still between client.received.items made → Reports between seeing now
        → IfSome (put_made client made now).answer (λ answer. IsAnsweredThen site book before after seen seeing (put_made client made now).since (put_made client made now).received.items answer.items)
    made-own (Answer answer) now stands is reports = (still, stands, between, is, reports)
    made-own (PlanTask task) now stands is reports = tt

    pub made-asked : (made : Made) (now : Instant) → IsMadeMeanwhile site book before after still between client.received.items made
        → IfSome (put_made client made now).task (λ t. (t.last ≡ None) × IsAsked site book before after (put_made client made now).received.items (instance_in t.task))
    made-asked (Answer answer) now is = tt
    made-asked (PlanTask task) now is = (refl, is.0)

    pub made-timed : (made : Made) (now : Instant) → Stands seen still → IsMadeMeanwhile site book before after still between client.received.items made → Reports between seeing now
        → IsSome (put_made client made now).task → StandsUntil seen seeing (put_made client made now).since
    made-timed (Answer answer) now stands is reports some = absurd (cc some)
    made-timed (PlanTask task) now stands is reports some = (still, stands, subst (λ t. Reports t seeing now) is.1 reports)

  pub made-whole : (client : Client C) (made : Made) (now : Instant) → IsDetermined client.received.items ⊎ IsAtEnd (connection.remaining client.stream)
      → IsDetermined (put_made client made now).received.items ⊎ IsAtEnd (connection.remaining (put_made client made now).stream)
  made-whole client (Answer answer) now whole = whole
  made-whole client (PlanTask task) now whole = whole

  -- its query is searched
  pub serviced-discarded : (old new : Client C) (before : B) (seen : Times) → old.answer ≡ None → IsSome old.task → new ≡ record old { stream = new.stream }
      → connection.contents new.stream ≡ connection.contents old.stream → IsServiced connection site book old new before before seen seen
  serviced-discarded old new before seen none steps_search kept contents = (
    subst (λ o. IfSome o (λ answer. IsHandedOn connection site book old new before before seen seen answer.items)) (sym none) tt,
    λ none steps_search. record { same = refl; unread = refl; kept = kept; took = contents },
    λ none rests. absurd (cc (subst IsSome rests steps_search)),
  )

  -- it took its whole answer
  pub spent : (mid new : Client C) → (new.received ≡ mid.received) × (new.answer ≡ mid.answer) × (new.sent ≡ mid.sent)
      → IsSomeAnd mid.answer (λ answer. mid.sent ≡ length answer.items) → IsSpent new
  spent mid new kept whole = by_answer mid.answer kept.1 whole
    where
      by_answer : (o : Option _) → new.answer ≡ o → IsSomeAnd o (λ answer. mid.sent ≡ length answer.items) → IsSpent new
      by_answer None e whole = absurd whole
      by_answer (Some answer) e whole =
          subst (λ o. IsSomeAnd o (λ answer. length answer.items ≤ new.sent)) (sym e) (omega (arith, whole, kept.2))

  -- it is lost, or reported to have taken more than its answer, which it isn't when that begins
  pub spoiled-on : (old new : Client C) → IsSome old.answer → connection.is_lost new.stream ⊎ IsSomeAnd old.answer (λ answer. length answer.items < old.sent)
      → IsSpoiled connection site book old new
  spoiled-on old new some why = inr (inl (by_answer old.answer some why))
    where
      by_answer : (o : Option (Vec ℕ Global)) → IsSome o → connection.is_lost new.stream ⊎ IsSomeAnd o (λ answer. length answer.items < old.sent)
          → IsSomeAnd o (λ answer. connection.is_lost new.stream ⊎ (length answer.items < old.sent))
      by_answer None some why = absurd (cc some)
      by_answer (Some answer) some why = why

  pub spoiled-first : (old mid new : Client C) → old.answer ≡ None → old.task ≡ None → mid.sent ≡ 0
      → connection.is_lost new.stream ⊎ IsSomeAnd mid.answer (λ answer. length answer.items < mid.sent) → IsSpoiled connection site book old new
  spoiled-first old mid new none rests begins (inl lost) = inl (none, rests, inl lost)
  spoiled-first old mid new none rests begins (inr over) = by_answer mid.answer refl over
    where
      by_answer : (o : Option _) → mid.answer ≡ o → IsSomeAnd o (λ answer. length answer.items < mid.sent) → IsSpoiled connection site book old new
      by_answer None e over = absurd over
      by_answer (Some answer) e over = absurd (omega (arith, begins, over))

  -- it keeps its answer or its query
  keeps-own : (client left : Client C) (before after : B) (seen seeing : Times) → is_unanswered (Some client) ≡ false
      → IsServiced connection site book client left before after seen seeing → is_unanswered (Some left) ≡ false
  keeps-own client left before after seen seeing own serviced = by_answer client.answer refl
    where
      by_task : client.answer ≡ None → (t : Option _) → client.task ≡ t → is_unanswered (Some left) ≡ false
      by_task none None e = absurd (cc (own, none, e))
      by_task none (Some x) e =
          let discarded = serviced.1 none (subst IsSome (sym e) refl) in
          has-query left (subst IsSome (sym (ap (λ (l : Client C). l.task) discarded.kept ∙ e)) refl)

      by_answer : (o : Option _) → client.answer ≡ o → is_unanswered (Some left) ≡ false
      by_answer None e = by_task e client.task refl
      by_answer (Some a) e =
          let handed = subst (λ o. IfSome o (λ a. IsHandedOn connection site book client left before after seen seeing a.items)) e serviced.0 in
          has-answer left (subst IsSome (sym (handed.kept ∙ e)) refl)

  -- as many fewer have no answer and no query as were served
  fewer : (before after : B) (seen seeing : Times) (client : Client C) (left : Option (Client C)) (from to : ℕ) → to + one_of (Some client) ≡ from + one_of left
      → (is_unanswered (Some client) ≡ false → after ≡ before) → IfSome left (λ l. IsServiced connection site book client l before after seen seeing) → HasServed site book before after 1
      → Advances site book before after from to
  fewer before after seen seeing client left from to sum once serviced one = by_line (is_unanswered (Some client)) refl
    where
      stayed : to ≤ from → after ≡ before → Advances site book before after from to
      stayed within same = subst (λ b. Advances site book before b from to) (sym same) (stays site book before from to within)

      by_left : (slot : Option (Client C)) → left ≡ slot → is_unanswered (Some client) ≡ true → Advances site book before after from to
      by_left None is none = one_advances site book before after from to (omega (arith, sum, unanswered-of client none, ap one_of is)) one
      by_left (Some l) is none = by_new (is_unanswered (Some l)) refl
        where
          heard : IsHeard connection site book client l before after seen seeing
          heard = (subst (λ slot. IfSome slot (λ l. IsServiced connection site book client l before after seen seeing)) is serviced).2 (has-neither client none).0 (has-neither client none).1

          by_new : (b : Bool) → is_unanswered (Some l) ≡ b → Advances site book before after from to
          by_new true e = stayed (omega (arith, sum, unanswered-of client none, ap one_of is, unanswered-of l e)) (heard.waits (has-neither l e).0 (has-neither l e).1).same
          by_new false e = one_advances site book before after from to (omega (arith, sum, unanswered-of client none, ap one_of is, answered-of l e)) one

      kept_left : (slot : Option (Client C)) → left ≡ slot → is_unanswered (Some client) ≡ false → one_of left ≡ 0
      kept_left None is e = ap one_of is
      kept_left (Some l) is e =
          ap one_of is ∙ answered-of l (keeps-own client l before after seen seeing e (subst (λ slot. IfSome slot (λ l. IsServiced connection site book client l before after seen seeing)) is serviced))

      by_line : (b : Bool) → is_unanswered (Some client) ≡ b → Advances site book before after from to
      by_line true e = by_left left refl e
      by_line false e = stayed (omega (arith, sum, answered-of client e, kept_left left refl e)) (once e)

  -- it stays open
  pub advances-stays : (before after : B) (seen seeing : Times) (clients : Slab (Client C)) (key : ℕ) (client left : Client C) → get clients key ≡ Some client
      → (is_unanswered (Some client) ≡ false → after ≡ before) → IsServiced connection site book client left before after seen seeing → HasServed site book before after 1
      → Advances site book before after (unanswered clients) (unanswered (with_value clients key left))
  advances-stays before after seen seeing clients key client left is once serviced one =
      fewer before after seen seeing client (Some left) (unanswered clients) (unanswered (with_value clients key left))
      (subst (λ slot. unanswered (with_value clients key left) + one_of slot ≡ unanswered clients + one_of (Some left)) is
      (unanswered-updates clients (with_value clients key left) key (Some left) (Updates-with_value clients key left (subst IsSome (sym is) refl)))) once serviced one

  -- it is closed
  pub advances-closed : (before after : B) (seen seeing : Times) (clients new : Slab (Client C)) (key : ℕ) (client left : Client C) → get clients key ≡ Some client
      → (is_unanswered (Some client) ≡ false → after ≡ before) → HasServed site book before after 1 → Updates (with_value clients key left) new key None
      → Advances site book before after (unanswered clients) (unanswered new)
  advances-closed before after seen seeing clients new key client left is once one closed =
      let written = Updates-with_value clients key left (subst IsSome (sym is) refl) in
      fewer before after seen seeing client None (unanswered clients) (unanswered new)
      (omega (arith, unanswered-updates clients (with_value clients key left) key (Some left) written, unanswered-updates (with_value clients key left) new key None closed, ap one_of written.changed, ap one_of is))
      once tt one

  -- the connection of a key is closed
  pub serviced-closed : (status : ConnectionStatus) (key : ℕ) (clients new : Slab (Client C)) (client left : Client C) (before after : B) (seen seeing : Times) → get clients key ≡ Some client
      → Updates (with_value clients key left) new key None → (is_unanswered (Some client) ≡ false → after ≡ before) → HasServed site book before after 1 → (book.has_clean_disk after → book.has_clean_disk before)
      → IsClosedBy connection site book status client before after seen seeing → IsServicedAt connection site book status key clients new before after seen seeing
  serviced-closed status key clients new client left before after seen seeing is removed once one clean_disk closed =
      let written = Updates-with_value clients key left (subst IsSome (sym is) refl) in
      record {
        others = λ other differs. removed.others other differs ∙ written.others other differs;
        absent = λ none. absurd (cc (is, none));
        there = λ l e. subst (λ slot. IfSome slot (λ left. IsServiced connection site book l left before after seen seeing)) (sym removed.changed) tt;
        closed = λ l e none. let same : client ≡ l = cc (is, e) in subst (λ l. IsClosedBy connection site book status l before after seen seeing) same closed;
        once = λ l e. let same : client ≡ l = cc (is, e) in subst (λ (l : Client C). is_unanswered (Some l) ≡ false → after ≡ before) same once;
        one = one;
        clean_disk = clean_disk;
      }

  -- it stays
  pub serviced-stays : (status : ConnectionStatus) (key : ℕ) (clients : Slab (Client C)) (client left : Client C) (before after : B) (seen seeing : Times) → get clients key ≡ Some client
      → (is_unanswered (Some client) ≡ false → after ≡ before) → HasServed site book before after 1 → (book.has_clean_disk after → book.has_clean_disk before)
      → IsServiced connection site book client left before after seen seeing → IsServicedAt connection site book status key clients (with_value clients key left) before after seen seeing
  serviced-stays status key clients client left before after seen seeing is once one clean_disk serviced =
      let written = Updates-with_value clients key left (subst IsSome (sym is) refl) in
      record {
        others = λ other differs. written.others other differs;
        absent = λ none. absurd (cc (is, none));
        there = λ l e. let same : client ≡ l = cc (is, e) in
            subst (λ slot. IfSome slot (λ left. IsServiced connection site book l left before after seen seeing)) (sym written.changed)
            (subst (λ l. IsServiced connection site book l left before after seen seeing) same serviced);
        closed = λ l e none. absurd (cc (written.changed, none));
        once = λ l e. let same : client ≡ l = cc (is, e) in subst (λ (l : Client C). is_unanswered (Some l) ≡ false → after ≡ before) same once;
        one = one;
        clean_disk = clean_disk;
      }
