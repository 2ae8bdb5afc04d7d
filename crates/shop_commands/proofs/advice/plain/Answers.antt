use Rattle.shop_advice.proofs.Printed.{some_on_one_line}
use Rattle.shop_commands.proofs.advice.plain.Goals as goal

pub returns : goal.returns
returns c = some_on_one_line c.printed_text.result c.ok.result c.ok.ensures.value c.printed_text.ensures.plain
