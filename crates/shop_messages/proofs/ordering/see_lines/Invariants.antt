use Rattle.std.proofs.Common.{take}
use Rattle.std.specs.Prelude.{All}
use Rattle.shop_records.specs.Messages.{IsLine}
use Rattle.shop_messages.proofs.ordering.see_lines.Given as goal

abbrev pub invariant-loop-line : goal.invariant-loop-line
invariant-loop-line l = All IsLine (take l.line-index l.lines)
