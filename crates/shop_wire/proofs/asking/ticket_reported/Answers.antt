use Rattle.std.proofs.Common.{sym, ap, ◌∙◌}
use Rattle.std.specs.Prelude.{option_map}
use Rattle.shop_text.specs.Tickets.{ticket_of}
use Rattle.shop_wire.proofs.Acted.{reported_counted, text_asked, none_asked, up_reported}
use Rattle.shop_wire.specs.Responses.{response_of}
use Rattle.shop_wire.proofs.asking.ticket_reported.Goals as goal

pub returns-in-Some-clause-answer : goal.returns-in-Some-clause-answer
returns-in-Some-clause-answer g c = λ clean_disk m held.
    text_asked _ _ _ _ _ (ap (option_map (ticket_of m)) (sym c.number_in.ensures.value ∙ c.in-Some.is))
    (reported_counted c.ticket_text.result (response_of c.reported_of.result) _ _ _ c.reported_of.ensures.reported (c.ticket_text.ensures.reported clean_disk m held))

pub returns-in-Some-clause-keeps : goal.returns-in-Some-clause-keeps
returns-in-Some-clause-keeps g c =
    let k = c.ticket_text.ensures.keeps in
    record { clean_disk = k.clean_disk; stays = k.stays; crash = k.crash; failures = up_reported c.ticket_text.result _ _ k.failures }

pub returns-in-None-clause-answer : goal.returns-in-None-clause-answer
returns-in-None-clause-answer g c = λ clean_disk m held. none_asked _ _ _ _ (ap (option_map (ticket_of m)) (sym c.number_in.ensures.value ∙ c.in-None.is)) c.refused.ensures.reported
