use Rattle.shop_serve.proofs.Oldest.{none-evicted}
use Rattle.shop_serve.proofs.clients.evict_oldest.Goals as goal

pub returns-in_default-clause-cleared : goal.returns-in_default-clause-cleared
returns-in_default-clause-cleared g c = none-evicted c.args.clients.now c.args.is_scarce (c.oldest.ensures.none c.in_default.is) c.requires.cleared
