use Rattle.cut_bound.proofs.UnitSums.{falls_short}
use Rattle.cut_bound.proofs.laws.stock_falls_short.Goals as goal

pub returns : goal.returns
returns c = λ wants k sizes bound all holds more us is makes. falls_short wants k sizes bound all holds more us is makes
