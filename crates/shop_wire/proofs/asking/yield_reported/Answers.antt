use Rattle.std.proofs.Common.{sym, ap, ◌∙◌}
use Rattle.std.specs.Prelude.{option_map}
use Rattle.shop_text.specs.Yields.{yield_of}
use Rattle.shop_wire.proofs.Acted.{reported_counted, text_asked, none_asked, up_reported}
use Rattle.shop_wire.specs.Responses.{response_of}
use Rattle.shop_wire.proofs.asking.yield_reported.Goals as goal

pub returns-in-Some-clause-answer : goal.returns-in-Some-clause-answer
returns-in-Some-clause-answer g c = λ clean_disk m held.
    text_asked _ _ _ _ _ (ap (option_map (yield_of m)) (sym c.code_in.ensures ∙ c.in-Some.is))
    (reported_counted c.report_text.result (response_of c.reported_of.result) _ _ _ c.reported_of.ensures.reported (c.report_text.ensures.reported clean_disk m held))

pub returns-in-Some-clause-keeps : goal.returns-in-Some-clause-keeps
returns-in-Some-clause-keeps g c =
    let k = c.report_text.ensures.keeps in
    record { clean_disk = k.clean_disk; stays = k.stays; crash = k.crash; failures = up_reported c.report_text.result _ _ k.failures }

pub returns-in-None-clause-answer : goal.returns-in-None-clause-answer
returns-in-None-clause-answer g c = λ clean_disk m held. none_asked _ _ _ _ (ap (option_map (yield_of m)) (sym c.code_in.ensures ∙ c.in-None.is)) c.refused.ensures.reported
