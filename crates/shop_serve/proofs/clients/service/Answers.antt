use Rattle.std.proofs.Common.{◌≡◌, None, rules}
use Rattle.std.specs.Prelude.{IsSome}
use Rattle.shop_serve.proofs.Servicing.{serviced-first, spoiled-first, spoiled-on}
use Rattle.shop_serve.proofs.ServedRequests.{none_served}
use Rattle.shop_serve.proofs.clients.service.Goals as goal

pub returns-then-is_some-clause-one : goal.returns-then-is_some-clause-one
returns-then-is_some-clause-one g c = none_served c.args.site.now g.B.Book c.args.book.now 1

pub returns-then-is_some-2-clause-one : goal.returns-then-is_some-2-clause-one
returns-then-is_some-2-clause-one g c = none_served c.args.site.now g.B.Book c.args.book.now 1

pub returns-clause-serviced : goal.returns-clause-serviced
returns-clause-serviced g c stays known =
    let none : c.args.client.now.answer ≡ None = search rules in
    let rests : c.args.client.now.task ≡ None = search rules in
    serviced-first g.C.Connection c.args.site.now g.B.Book c.args.client.now c.ask.new.client c.answer_on-2.new.client c.args.book.now c.ask.new.book (g.K.ServerClock.times c.args.clock.now) (g.K.ServerClock.times c.ask.new.clock) c.answer_on-2.result none rests
    (c.ask.ensures.read (λ over. absurd (cc (over, c.in-Whole.is))) (λ none. absurd (cc (none, c.in-Whole.is)))) c.ask.ensures.kept (c.ask.ensures.begins c.in-Whole.is) (c.ask.ensures.whole c.in-Whole.is) c.ask.ensures.own c.ask.ensures.asked (c.ask.ensures.since c.in-Whole.is)
    c.answer_on-2.ensures.kept c.answer_on-2.ensures.since c.answer_on-2.ensures.task c.answer_on-2.ensures.idle stays c.answer_on-2.ensures.takes c.answer_on-2.ensures.stops

pub returns-then-is_some-clause-lost : goal.returns-then-is_some-clause-lost
returns-then-is_some-clause-lost g c lost =
    let some : IsSome c.args.client.now.answer = search rules in
    spoiled-on g.C.Connection c.args.site.now g.B.Book c.args.client.now c.answer_on.new.client some (c.answer_on.ensures.lost lost)

pub returns-clause-lost : goal.returns-clause-lost
returns-clause-lost g c lost =
    let none : c.args.client.now.answer ≡ None = search rules in
    let rests : c.args.client.now.task ≡ None = search rules in
    spoiled-first g.C.Connection c.args.site.now g.B.Book c.args.client.now c.ask.new.client c.answer_on-2.new.client none rests (c.ask.ensures.begins c.in-Whole.is).1
    (c.answer_on-2.ensures.lost lost)
