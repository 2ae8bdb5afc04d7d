use Rattle.std.proofs.Common.{◌≡◌, take}
use Rattle.shop_machine.specs.Moving.{cells_counted}
use Rattle.shop_machine.proofs.moving.cells_counted.Given as goal

abbrev pub invariant-loop-part : goal.invariant-loop-part
invariant-loop-part l = l.cells ≡ cells_counted l.column (take l.part-index l.parts)
