use Rattle.std.proofs.Common.{take}
use Rattle.shop_rows.specs.PartRows.{AreAppended}
use Rattle.shop_rows.proofs.part_rows.PartRows.append_all.Given as goal

abbrev pub invariant-loop-part : goal.invariant-loop-part
invariant-loop-part l = AreAppended (take l.part-index l.added) l.fn.self l.self
