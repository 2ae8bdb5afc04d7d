use Rattle.std.proofs.Common.{sym, subst}
use Rattle.shop_desk.proofs.Justified.{up_reply}
use Rattle.shop_request.specs.Requests.{asking}
use Rattle.shop_wire.specs.Serves.{HasServedInput, IsInputHandledAt, KeepsElse, parse_message}
use Rattle.shop_wire.specs.Responses.{response_of}
use Rattle.shop_wire.proofs.Acted.{asked_served, else_timed, ticket_served, yield_served}
use Rattle.shop_wire.proofs.asking.respond.Goals as goal

pub returns-in-Message-clause-served : goal.returns-in-Message-clause-served
returns-in-Message-clause-served g c = λ clean_disk m held well_formed.
    subst (λ r. HasServedInput g.B.Book c.args.book.now c.message_reported.new.book m (asking r c.args.text.now) (response_of c.message_reported.result)) (sym c.in-Message.is)
    (c.message_reported.ensures.served clean_disk m held well_formed)

pub returns-in-Plans-clause-served : goal.returns-in-Plans-clause-served
returns-in-Plans-clause-served g c = λ clean_disk m held well_formed.
    subst (λ r. HasServedInput g.B.Book c.args.book.now c.body_reported.new.book m (asking r c.args.text.now) (response_of c.body_reported.result)) (sym c.in-Plans.is)
    (c.body_reported.ensures.served clean_disk m held well_formed)

pub returns-in-Ticket-clause-served : goal.returns-in-Ticket-clause-served
returns-in-Ticket-clause-served g c = λ clean_disk m held well_formed.
    subst (λ r. HasServedInput g.B.Book c.args.book.now c.ticket_reported.new.book m (asking r c.args.text.now) (response_of c.ticket_reported.result)) (sym c.in-Ticket.is)
    (ticket_served g.B.Book c.args.book.now c.ticket_reported.new.book m (c.ticket_reported.ensures.keeps.stays clean_disk m held) well_formed (c.ticket_reported.ensures.keeps.crash clean_disk m held) c.args.text.now (response_of c.ticket_reported.result)
    (c.ticket_reported.ensures.answer clean_disk m held))

pub returns-in-Yield-clause-served : goal.returns-in-Yield-clause-served
returns-in-Yield-clause-served g c = λ clean_disk m held well_formed.
    subst (λ r. HasServedInput g.B.Book c.args.book.now c.yield_reported.new.book m (asking r c.args.text.now) (response_of c.yield_reported.result)) (sym c.in-Yield.is)
    (yield_served g.B.Book c.args.book.now c.yield_reported.new.book m (c.yield_reported.ensures.keeps.stays clean_disk m held) well_formed (c.yield_reported.ensures.keeps.crash clean_disk m held) c.args.text.now (response_of c.yield_reported.result)
    (c.yield_reported.ensures.answer clean_disk m held))

pub returns-in_default-clause-served : goal.returns-in_default-clause-served
returns-in_default-clause-served g c = λ clean_disk m held well_formed.
    asked_served g.B.Book c.args.book.now c.ask_reply.new.book m (c.ask_reply.ensures.keeps.stays clean_disk m held) well_formed (c.ask_reply.ensures.keeps.crash clean_disk m held) c.args.route c.args.text.now c.ask_reply.result
    c.in_default.not-Message c.in_default.not-Plans c.in_default.not-Ticket c.in_default.not-Yield (c.ask_reply.ensures.answer clean_disk m held) c.ask_reply.ensures.store_fault

pub returns-in_default-clause-failures : goal.returns-in_default-clause-failures
returns-in_default-clause-failures g c = up_reply (g.B.Book.failed c.args.book.now) (g.B.Book.failed c.ask_reply.new.book) c.ask_reply.result c.ask_reply.ensures.keeps.failures

pub returns-in-Message-clause-timed : goal.returns-in-Message-clause-timed
returns-in-Message-clause-timed g c = λ clean_disk m held well_formed.
    subst (λ r. IsInputHandledAt g.B.Book c.message_reported.new.book c.args.at m (parse_message (asking r c.args.text.now))) (sym c.in-Message.is) (c.message_reported.ensures.timed clean_disk m held well_formed)

pub returns-in-Plans-clause-timed : goal.returns-in-Plans-clause-timed
returns-in-Plans-clause-timed g c = λ clean_disk m held well_formed.
    subst (λ r. IsInputHandledAt g.B.Book c.body_reported.new.book c.args.at m (parse_message (asking r c.args.text.now))) (sym c.in-Plans.is) tt

pub returns-in-Ticket-clause-timed : goal.returns-in-Ticket-clause-timed
returns-in-Ticket-clause-timed g c = λ clean_disk m held well_formed.
    subst (λ r. IsInputHandledAt g.B.Book c.ticket_reported.new.book c.args.at m (parse_message (asking r c.args.text.now))) (sym c.in-Ticket.is) tt

pub returns-in-Yield-clause-timed : goal.returns-in-Yield-clause-timed
returns-in-Yield-clause-timed g c = λ clean_disk m held well_formed.
    subst (λ r. IsInputHandledAt g.B.Book c.yield_reported.new.book c.args.at m (parse_message (asking r c.args.text.now))) (sym c.in-Yield.is) tt

pub returns-in_default-clause-timed : goal.returns-in_default-clause-timed
returns-in_default-clause-timed g c = λ clean_disk m held well_formed. else_timed g.B.Book c.args.book.now c.ask_reply.new.book m c.args.at c.args.route c.args.text.now c.in_default.not-Message

pub returns-in-Message-clause-stays : goal.returns-in-Message-clause-stays
returns-in-Message-clause-stays g c =
    subst (λ r. KeepsElse g.B.Book c.args.book.now c.message_reported.new.book (asking r c.args.text.now) (response_of c.message_reported.result)) (sym c.in-Message.is) c.message_reported.ensures.stays

pub returns-in-Plans-clause-stays : goal.returns-in-Plans-clause-stays
returns-in-Plans-clause-stays g c = λ clean_disk m held nothing. c.body_reported.ensures.stays clean_disk m held

pub returns-in-Ticket-clause-stays : goal.returns-in-Ticket-clause-stays
returns-in-Ticket-clause-stays g c = λ clean_disk m held nothing. c.ticket_reported.ensures.keeps.stays clean_disk m held

pub returns-in-Yield-clause-stays : goal.returns-in-Yield-clause-stays
returns-in-Yield-clause-stays g c = λ clean_disk m held nothing. c.yield_reported.ensures.keeps.stays clean_disk m held

pub returns-in_default-clause-stays : goal.returns-in_default-clause-stays
returns-in_default-clause-stays g c = λ clean_disk m held nothing. c.ask_reply.ensures.keeps.stays clean_disk m held
