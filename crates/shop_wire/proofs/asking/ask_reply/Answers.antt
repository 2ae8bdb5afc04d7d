use Rattle.shop_wire.specs.Serves.{asked_at}
use Rattle.shop_wire.proofs.Acted.{ask_answered, ask_unread, unread_justified}
use Rattle.shop_wire.proofs.asking.ask_reply.Goals as goal

pub returns-in-Ok-clause-answer : goal.returns-in-Ok-clause-answer
returns-in-Ok-clause-answer g c = λ clean_disk m held. ask_answered m (asked_at c.args.route c.args.text.now) c.in-Ok.query c.ask.result c.in-Ok.ensures (c.ask.ensures.answer clean_disk m held)

pub returns-in-Err-clause-answer : goal.returns-in-Err-clause-answer
returns-in-Err-clause-answer g c = λ clean_disk m held. ask_unread m (asked_at c.args.route c.args.text.now) c.in-Err.refusal c.in-Err.ensures

pub returns-in-Err-clause-store_fault : goal.returns-in-Err-clause-store_fault
returns-in-Err-clause-store_fault g c = unread_justified (asked_at c.args.route c.args.text.now) c.in-Err.refusal _ c.in-Err.ensures
