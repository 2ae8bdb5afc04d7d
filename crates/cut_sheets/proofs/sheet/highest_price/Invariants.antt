use Rattle.std.proofs.Common.{take, ◌≤◌, ◌^◌}
use Rattle.cut_sheets.specs.Table.{ArePriced}
use Rattle.cut_sheets.proofs.sheet.highest_price.Given as goal

abbrev pub invariant-loop-want : goal.invariant-loop-want
invariant-loop-want l = ArePriced l.highest (take l.want-index l.wants) × (l.highest ≤ 2 ^ 30)
