use Rattle.shop_commands.proofs.Plain.{second}
use Rattle.shop_commands.proofs.advice.second_lines_are_lines.Goals as goal

pub returns : goal.returns
returns c = second
