use Rattle.std.proofs.Common.{refl}
use Rattle.shop_statements.proofs.numbers.find_last_act.Goals as goal

pub returns-clause-number : goal.returns-clause-number
returns-clause-number g c clean b was = c.number_of.ensures.number clean b was b.content.last_act refl

pub returns-clause-earlier : goal.returns-clause-earlier
returns-clause-earlier g c clean b was = c.number_of.ensures.earlier clean b was b.content.last_act refl

pub returns-clause-second : goal.returns-clause-second
returns-clause-second g c clean b was = c.number_of.ensures.second clean b was b.content.last_act refl
