use Rattle.std.proofs.Common.{refl, inl}
use Rattle.shop_wire.proofs.Failing.{has_failed}
use Rattle.shop_wire.proofs.reader.LineReader.refill.Goals as goal

pub returns-in_default-clause-fault : goal.returns-in_default-clause-fault
returns-in_default-clause-fault g c = (refl, inl (has_failed (g.S.Source.failed c.args.source.now) (g.S.Source.failed c.read.new.self) c.in_default.ensures.failures))
