use Rattle.std.proofs.Common.{◌∙◌, ap, sym, refl, Some, Ok, []}
use Rattle.shop_planning.specs.PlanTasks.{instance_in}
use Rattle.shop_request.specs.Requests.{parse_of}
use Rattle.shop_serve.proofs.ServedRequests.{backup_asked, none_served, one_begun, one_served}
use Rattle.shop_serve.proofs.Dated.{backup_timed, routed_timed}
use Rattle.shop_serve.proofs.answers.routed_answer.Goals as goal

pub returns-then-asks_backup-clause-made : goal.returns-then-asks_backup-clause-made
returns-then-asks_backup-clause-made g c =
    ((c.requires.goes, backup_asked c.args.received.now (parse_of c.inbound_of-inbound.result) (sym c.asks_backup.ensures ∙ c.if-asks_backup.true) c.inbound_of-inbound.ensures.parsed), refl)

pub returns-then-asks_backup-clause-step : goal.returns-then-asks_backup-clause-step
returns-then-asks_backup-clause-step g c = none_served c.args.site.now g.B.Book c.args.book.now 1

pub returns-in-Ok-None-clause-step : goal.returns-in-Ok-None-clause-step
returns-in-Ok-None-clause-step g c =
    one_served c.args.site.now g.B.Book c.args.book.now c.begin_inbound.new.book c.args.received.now (Some c.args.received.now) _ _ [] refl c.requires.some c.requires.goes c.begin_inbound.ensures.failures
    (parse_of c.inbound_of-inbound.result, c.inbound_of-inbound.ensures.parsed, c.in-Ok-None.ensures.answered (ap Ok c.in-Ok-None.field-0-is))

pub returns-in-Ok-Some-clause-made : goal.returns-in-Ok-Some-clause-made
returns-in-Ok-Some-clause-made g c =
    (c.requires.goes, (c.in-Ok-Some.ensures.begun (Some c.args.received.now) c.inbound_of-inbound.ensures.parsed c.in-Ok-Some.task (ap Ok c.in-Ok-Some.field-0-is)).0)

pub returns-in-Ok-Some-clause-step : goal.returns-in-Ok-Some-clause-step
returns-in-Ok-Some-clause-step g c =
    one_begun c.args.site.now g.B.Book c.args.book.now c.begin_inbound.new.book c.args.received.now (Some c.args.received.now) (instance_in c.in-Ok-Some.task) refl c.requires.some c.requires.goes c.begin_inbound.ensures.failures
    (c.in-Ok-Some.ensures.begun (Some c.args.received.now) c.inbound_of-inbound.ensures.parsed c.in-Ok-Some.task (ap Ok c.in-Ok-Some.field-0-is)).0

pub returns-in-Err-clause-step : goal.returns-in-Err-clause-step
returns-in-Err-clause-step g c =
    one_served c.args.site.now g.B.Book c.args.book.now c.begin_inbound.new.book c.args.received.now (Some c.args.received.now) _ _ c.in-Err.ensures.err.0 refl c.requires.some c.requires.goes c.begin_inbound.ensures.failures
    (parse_of c.inbound_of-inbound.result, c.inbound_of-inbound.ensures.parsed, c.in-Err.ensures.err.1)

pub returns-then-asks_backup-clause-timed : goal.returns-then-asks_backup-clause-timed
returns-then-asks_backup-clause-timed g c =
    routed_timed c.args.site.now g.B.Book c.args.book.now c.args.book.now c.args.at c.args.received.now (parse_of c.inbound_of-inbound.result) c.inbound_of-inbound.ensures.parsed
    (backup_timed c.args.site.now g.B.Book c.args.book.now c.args.book.now c.args.at (parse_of c.inbound_of-inbound.result) (sym c.asks_backup.ensures ∙ c.if-asks_backup.true))

pub returns-in-Ok-None-clause-timed : goal.returns-in-Ok-None-clause-timed
returns-in-Ok-None-clause-timed g c =
    routed_timed c.args.site.now g.B.Book c.args.book.now c.begin_inbound.new.book c.args.at c.args.received.now (parse_of c.inbound_of-inbound.result) c.inbound_of-inbound.ensures.parsed c.begin_inbound.ensures.timed

pub returns-in-Ok-Some-clause-timed : goal.returns-in-Ok-Some-clause-timed
returns-in-Ok-Some-clause-timed g c =
    routed_timed c.args.site.now g.B.Book c.args.book.now c.begin_inbound.new.book c.args.at c.args.received.now (parse_of c.inbound_of-inbound.result) c.inbound_of-inbound.ensures.parsed c.begin_inbound.ensures.timed

pub returns-in-Err-clause-timed : goal.returns-in-Err-clause-timed
returns-in-Err-clause-timed g c =
    routed_timed c.args.site.now g.B.Book c.args.book.now c.begin_inbound.new.book c.args.at c.args.received.now (parse_of c.inbound_of-inbound.result) c.inbound_of-inbound.ensures.parsed c.begin_inbound.ensures.timed
