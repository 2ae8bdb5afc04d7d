use Rattle.shop_opening.proofs.InMemory.{ok_then}
use Rattle.shop_opening.proofs.apart.read_apart.Goals as goal

pub returns-in-Ok : goal.returns-in-Ok
returns-in-Ok c = ok_then c.open_shop.result c.open_shop.ensures (λ book opened. (c.in-Ok.pair.log.items, c.in-Ok.pair.store.items, opened))
