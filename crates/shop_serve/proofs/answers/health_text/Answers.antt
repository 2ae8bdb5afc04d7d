use Rattle.std.proofs.Common.{rules, append_assoc}
use Rattle.shop_serve.proofs.answers.health_text.Goals as goal

pub returns : goal.returns
returns c = search (rules, append_assoc)
