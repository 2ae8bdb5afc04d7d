use Rattle.std.proofs.Common.{◌≡◌, take}
use Rattle.shop_rows.specs.PartRows.{parts_in}
use Rattle.shop_rows.proofs.part_rows.PartRows.has_parts_of.Given as goal

abbrev pub invariant-loop-i : goal.invariant-loop-i
invariant-loop-i l = take l.i (parts_in l.self) ≡ take l.i (parts_in l.other)
