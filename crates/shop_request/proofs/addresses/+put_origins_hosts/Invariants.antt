use Rattle.std.proofs.Common.{length}
use Rattle.shop_request.proofs.addresses.+put_origins_hosts.Given as goal

abbrev pub decreases-put_origins_hosts : goal.decreases-put_origins_hosts
decreases-put_origins_hosts l = length l.origins.now
