use Rattle.std.proofs.Common.{ap}
use Rattle.shop_commands.proofs.stored.print_text.Goals as goal

pub returns-in-Ticket : goal.returns-in-Ticket
returns-in-Ticket g c =
    let said = c.ticket.ensures in
    rw c.in-Ticket.is (record { printed = said.printed; refused = λ refusal is. ap g.W.Sink.held (said.refused refusal is); write = said.write; keeps = said.keeps })

pub returns-in-Yield : goal.returns-in-Yield
returns-in-Yield g c =
    let said = c.yield_report.ensures in
    rw c.in-Yield.is (record { printed = said.printed; refused = λ refusal is. ap g.W.Sink.held (said.refused refusal is); write = said.write; keeps = said.keeps })
