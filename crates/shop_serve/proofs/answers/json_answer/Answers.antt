use Rattle.std.proofs.Common.{rules, append_assoc}
use Rattle.shop_serve.proofs.answers.json_answer.Goals as goal

pub returns : goal.returns
returns c = search (rules, append_assoc)
