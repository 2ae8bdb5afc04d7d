use Rattle.std.proofs.Common.{rules, append_assoc}
use Rattle.shop_commands.proofs.restoring.restored_lines.Goals as goal

pub returns : goal.returns
returns c = search (rules, append_assoc)
