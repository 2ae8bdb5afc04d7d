use Rattle.shop_text.proofs.ReportedTickets.{ticket_reported, report_response}
use Rattle.shop_text.proofs.laws.texts_are_reported.Goals as goal

pub returns : goal.returns
returns c = record { ticket = ticket_reported; report = report_response }
