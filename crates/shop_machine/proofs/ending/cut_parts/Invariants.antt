use Rattle.std.proofs.Common.{◌≡◌, take, map}
use Rattle.shop_machine.specs.Ending.{row_part}
use Rattle.shop_machine.proofs.ending.cut_parts.Given as goal

abbrev pub invariant-loop-row : goal.invariant-loop-row
invariant-loop-row l = l.parts ≡ map (row_part l.part l.limits l.act) (take l.row-index l.rows)
