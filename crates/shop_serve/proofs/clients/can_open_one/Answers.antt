use Rattle.std.proofs.Common.{arith}
use Rattle.shop_serve.proofs.Oldest.{cleared_found}
use Rattle.shop_serve.proofs.clients.can_open_one.Goals as goal

pub returns-else-len-lt-MAX_CLIENTS : goal.returns-else-len-lt-MAX_CLIENTS
returns-else-len-lt-MAX_CLIENTS g c =
    cleared_found c.args.clients.now (λ few. omega (arith, few, c.len.ensures, c.if-len-lt-MAX_CLIENTS.false)) c.oldest.result c.is_some.result c.is_some.ensures c.oldest.ensures.found c.oldest.ensures.none
