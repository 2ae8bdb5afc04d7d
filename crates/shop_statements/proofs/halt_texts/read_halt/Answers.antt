use Rattle.std.proofs.Common.{◌∙◌, sym}
use Rattle.shop_statements.proofs.OneHalt.{one_halt}
use Rattle.shop_statements.proofs.halt_texts.read_halt.Goals as goal

pub returns-clause-halt : goal.returns-clause-halt
returns-clause-halt c halt own value is = one_halt c.in_ok-halt.halt halt (c.in_ok-halt.ensures.key ∙ sym own) c.in_ok-halt.ensures.value value (c.in_ok-halt.ensures.exact ∙ is)
