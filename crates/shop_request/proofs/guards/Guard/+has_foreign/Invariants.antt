use Rattle.std.proofs.Common.{length}
use Rattle.shop_request.proofs.guards.Guard.+has_foreign.Given as goal

abbrev pub decreases-has_foreign : goal.decreases-has_foreign
decreases-has_foreign l = length l.headers.now
