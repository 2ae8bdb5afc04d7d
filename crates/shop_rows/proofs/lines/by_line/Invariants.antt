use Rattle.std.proofs.Common.{take}
use Rattle.shop_rows.specs.Lines.{AreByLine}
use Rattle.shop_rows.proofs.lines.by_line.Given as goal

abbrev pub invariant-loop-demand : goal.invariant-loop-demand
invariant-loop-demand l = AreByLine l.fn.order (take l.demand-index l.demands) l.lines.items
