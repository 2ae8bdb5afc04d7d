use Rattle.std.proofs.Common.{◌≡◌, take}
use Rattle.shop_rows.proofs.lines.demands_of.Given as goal

abbrev pub invariant-loop-line : goal.invariant-loop-line
invariant-loop-line l = l.list ≡ take l.line-index l.lines
