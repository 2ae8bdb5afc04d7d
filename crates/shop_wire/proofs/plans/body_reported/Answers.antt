use Rattle.shop_wire.specs.Serves.{body_plans}
use Rattle.shop_wire.specs.Responses.{response_of}
use Rattle.shop_wire.proofs.Acted.{plans_served}
use Rattle.shop_wire.proofs.plans.body_reported.Goals as goal

pub returns-clause-served : goal.returns-clause-served
returns-clause-served g c = λ clean_disk m held well_formed.
    let asked = body_plans c.args.body.now in
    plans_served g.B.Book c.args.book.now c.plans_reported.new.book m (c.plans_reported.ensures.keeps.stays clean_disk m held) well_formed (c.plans_reported.ensures.keeps.crash clean_disk m held) c.args.body.now (response_of c.plans_reported.result)
    (c.plans_reported.ensures.answer asked c.plans_in.ensures clean_disk m held) (c.plans_reported.ensures.store_fault asked c.plans_in.ensures)

pub returns-clause-stays : goal.returns-clause-stays
returns-clause-stays g c = c.plans_reported.ensures.keeps.stays

pub returns-clause-clean_disk : goal.returns-clause-clean_disk
returns-clause-clean_disk g c = c.plans_reported.ensures.keeps.clean_disk

pub returns-clause-failures : goal.returns-clause-failures
returns-clause-failures g c = c.plans_reported.ensures.keeps.failures
