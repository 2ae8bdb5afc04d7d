use Rattle.std.proofs.Common.{◌≡◌, map, take}
use Rattle.shop_rows.specs.PartRows.{part_of}
use Rattle.shop_rows.proofs.part_rows.PartRows.named.Given as goal

abbrev pub invariant-loop-row : goal.invariant-loop-row
invariant-loop-row l = l.parts ≡ map (part_of l.self.origins.items) (take l.row-index l.rows)
