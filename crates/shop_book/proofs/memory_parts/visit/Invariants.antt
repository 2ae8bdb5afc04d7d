use Rattle.std.proofs.Common.{take, true}
use Rattle.shop_records.specs.Visits.{HasSeen}
use Rattle.shop_rows.specs.Open.{parts_named}
use Rattle.shop_rows.specs.PartRows.{parts_in}
use Rattle.shop_book.proofs.memory_parts.visit.Given as goal

abbrev pub invariant-loop-name : goal.invariant-loop-name
invariant-loop-name g l = HasSeen g.V.PartVisitor.looks (parts_named (take l.name-index l.names) (parts_in l.parts)) true l.fn.visitor l.visitor
