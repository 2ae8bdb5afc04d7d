use Rattle.std.proofs.Common.{◌≡◌, take}
use Rattle.shop_rows.specs.Open.{parts_named}
use Rattle.shop_rows.specs.PartRows.{parts_in}
use Rattle.shop_book.proofs.memory_parts.listed.Given as goal

abbrev pub invariant-loop-name : goal.invariant-loop-name
invariant-loop-name l = l.rows ≡ parts_named (take l.name-index l.names) (parts_in l.parts)
