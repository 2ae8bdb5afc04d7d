use Rattle.std.proofs.Common.{arith}
use Rattle.shop_planning.proofs.Reported.{times_within}
use Rattle.shop_planning.proofs.shares.share_of.Goals as goal

pub overflow_cast-times : goal.overflow_cast-times
overflow_cast-times c = omega (arith, times_within c.args.units.now c.args.unit.now, c.times_of-times.ensures, c.requires)
