use Rattle.std.proofs.Common.{◌≡◌, ℕ, List, sym, subst}
use Rattle.std.specs.Io.KnownBytes.{IsAtEnd}
use Rattle.std.specs.Prelude.{◌⊎◌, None, IfSome, IsSome}
use Rattle.shop_planning.specs.PlanTasks.{instance_in}
use Rattle.shop_request.specs.Reading.{IsHeadIn}
use Rattle.shop_request.specs.Parses.{IsDetermined}
use Rattle.shop_serve.specs.declared.clients.Client.{Client}
use Rattle.shop_serve.specs.Making.{IsAsked, IsMadeMeanwhile}
use Rattle.shop_serve.specs.Serving.{IsAnsweredThen}
use Rattle.shop_serve.specs.Times.{StandsUntil}
use Rattle.shop_serve.proofs.Servicing.{made-asked, made-own, made-timed, made-whole}
use Rattle.shop_serve.proofs.ServedRequests.{none_served}
use Rattle.shop_serve.proofs.clients.ask.Goals as goal

pub made_of-requires-clause-head : goal.made_of-requires-clause-head
made_of-requires-clause-head g c =
    subst (λ (received : List ℕ). IsHeadIn received c.take_bytes.new.head) (sym c.deref.ensures.value) (c.take_bytes.ensures.head c.in-Whole.is)

pub returns-in-NoMemory-clause-one : goal.returns-in-NoMemory-clause-one
returns-in-NoMemory-clause-one g c = none_served c.args.site.now g.B.Book c.args.book.now 1

pub returns-in-Over-clause-one : goal.returns-in-Over-clause-one
returns-in-Over-clause-one g c = none_served c.args.site.now g.B.Book c.args.book.now 1

pub returns-in-Waits-clause-one : goal.returns-in-Waits-clause-one
returns-in-Waits-clause-one g c = none_served c.args.site.now g.B.Book c.args.book.now 1

pub returns-clause-own : goal.returns-clause-own
returns-clause-own g c =
    let before : Client g.row.C.Denot = record { stream = c.take_bytes.new.stream; since = c.args.client.now.since; received = c.take_bytes.new.received; needed = c.take_bytes.new.needed; task = c.args.client.now.task; answer = c.args.client.now.answer; sent = c.args.client.now.sent } in
    let seen = g.K.ServerClock.times c.args.clock.now in
    let still = g.K.ServerClock.times c.stop.new.self in
    let between = g.K.ServerClock.times c.made_of.new.clock in
    let seeing = g.K.ServerClock.times c.now.new.self in
    let book = c.made_of.new.book in
    let made = subst (λ (received : List ℕ). IsMadeMeanwhile c.args.site.now g.B.Book c.args.book.now book still between received c.in-Some.made) c.deref.ensures.value c.in-Some.ensures.made in
    subst (λ (l : Client g.row.C.Denot). IfSome l.answer (λ answer. IsAnsweredThen c.args.site.now g.B.Book c.args.book.now book seen seeing l.since l.received.items answer.items)) (sym c.put_made.ensures)
    (made-own g.C.Connection c.args.site.now g.B.Book c.args.book.now book seen still between seeing before c.in-Some.made c.now.result c.stop.ensures made c.now.ensures)

pub returns-clause-since : goal.returns-clause-since
returns-clause-since g c whole =
    let before : Client g.row.C.Denot = record { stream = c.take_bytes.new.stream; since = c.args.client.now.since; received = c.take_bytes.new.received; needed = c.take_bytes.new.needed; task = c.args.client.now.task; answer = c.args.client.now.answer; sent = c.args.client.now.sent } in
    let seen = g.K.ServerClock.times c.args.clock.now in
    let still = g.K.ServerClock.times c.stop.new.self in
    let between = g.K.ServerClock.times c.made_of.new.clock in
    let seeing = g.K.ServerClock.times c.now.new.self in
    let book = c.made_of.new.book in
    let made = subst (λ (received : List ℕ). IsMadeMeanwhile c.args.site.now g.B.Book c.args.book.now book still between received c.in-Some.made) c.deref.ensures.value c.in-Some.ensures.made in
    subst (λ (l : Client g.row.C.Denot). IsSome l.task → StandsUntil seen seeing l.since) (sym c.put_made.ensures)
    (made-timed g.C.Connection c.args.site.now g.B.Book c.args.book.now book seen still between seeing before c.in-Some.made c.now.result c.stop.ensures made c.now.ensures)

pub returns-clause-asked : goal.returns-clause-asked
returns-clause-asked g c =
    let before : Client g.row.C.Denot = record { stream = c.take_bytes.new.stream; since = c.args.client.now.since; received = c.take_bytes.new.received; needed = c.take_bytes.new.needed; task = c.args.client.now.task; answer = c.args.client.now.answer; sent = c.args.client.now.sent } in
    let seen = g.K.ServerClock.times c.args.clock.now in
    let still = g.K.ServerClock.times c.stop.new.self in
    let between = g.K.ServerClock.times c.made_of.new.clock in
    let seeing = g.K.ServerClock.times c.now.new.self in
    let book = c.made_of.new.book in
    let made = subst (λ (received : List ℕ). IsMadeMeanwhile c.args.site.now g.B.Book c.args.book.now book still between received c.in-Some.made) c.deref.ensures.value c.in-Some.ensures.made in
    subst (λ (l : Client g.row.C.Denot). IfSome l.task (λ t. (t.last ≡ None) × IsAsked c.args.site.now g.B.Book c.args.book.now book l.received.items (instance_in t.task))) (sym c.put_made.ensures)
    (made-asked g.C.Connection c.args.site.now g.B.Book c.args.book.now book seen still between seeing before c.in-Some.made c.now.result made)

pub returns-clause-whole : goal.returns-clause-whole
returns-clause-whole g c whole =
    let before : Client g.row.C.Denot = record { stream = c.take_bytes.new.stream; since = c.args.client.now.since; received = c.take_bytes.new.received; needed = c.take_bytes.new.needed; task = c.args.client.now.task; answer = c.args.client.now.answer; sent = c.args.client.now.sent } in
    subst (λ (l : Client g.row.C.Denot). IsDetermined l.received.items ⊎ IsAtEnd (g.C.Connection.remaining l.stream)) (sym c.put_made.ensures)
    (made-whole g.C.Connection c.args.site.now g.B.Book before c.in-Some.made _ (c.take_bytes.ensures.whole c.in-Whole.is))
