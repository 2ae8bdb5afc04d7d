use Rattle.shop_wire.proofs.Begun.{posed_begun, posed_refused, unread_served}
use Rattle.shop_wire.proofs.plans.build_body.Goals as goal

pub returns-in-Ok-clause-instance : goal.returns-in-Ok-clause-instance
returns-in-Ok-clause-instance g c = λ left parsed.
    posed_begun g.B.Book c.args.book.now c.build_instance.new.book c.args.body.now c.in-Ok.query left c.build_instance.result c.in-Ok.ensures parsed c.build_instance.ensures.answer c.build_instance.ensures.keeps

pub returns-in-Ok-clause-refused : goal.returns-in-Ok-clause-refused
returns-in-Ok-clause-refused g c = posed_refused g.B.Book c.args.book.now c.build_instance.new.book c.args.body.now c.in-Ok.query c.build_instance.result c.in-Ok.ensures c.build_instance.ensures.refused c.build_instance.ensures.keeps

pub returns-in-Err-clause-refused : goal.returns-in-Err-clause-refused
returns-in-Err-clause-refused g c = λ clean_disk m held well_formed. unread_served g.B.Book c.args.book.now c.args.book.now c.args.body.now c.in-Err.refusal m c.in-Err.ensures held well_formed (λ left it. it)
