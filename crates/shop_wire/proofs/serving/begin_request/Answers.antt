use Rattle.shop_wire.proofs.serving.begin_request.Goals as goal

pub returns-in-Ok-begin_inbound-clause-begun : goal.returns-in-Ok-begin_inbound-clause-begun
returns-in-Ok-begin_inbound-clause-begun g c = λ task e. c.in-Ok-begin_inbound.ensures.begun (g.S.Source.left c.args.source.now) c.in-Ok.ensures.parsed task e
