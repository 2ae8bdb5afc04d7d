use Rattle.std.proofs.Common.{length}
use Rattle.shop_request.proofs.addresses.+put_hosts.Given as goal

abbrev pub decreases-put_hosts : goal.decreases-put_hosts
decreases-put_hosts l = length l.hosts.now
