use Rattle.std.proofs.Common.{◌≡◌, ◌*◌, ◌≤◌, ◌+◌, ℕ, Bool, true, false, take, get_or, arith, ap}
use Rattle.std.specs.Prelude.{if◌then◌else◌, sum_by}
use Rattle.std.proofs.lemmas.List.Sums.{sum_by_more_le_part}
use Rattle.shop_records.specs.declared.records.Part.{Part}
use Rattle.shop_records.specs.Columns.{is_counted}
use Rattle.shop_machine.proofs.moving.cells_counted.Goals as goal

part_counts : (b : Bool) (n : ℕ) → (if b then n else 0) ≤ n
part_counts true n = omega arith
part_counts false n = omega arith

pub overflow_add-cells : goal.overflow_add-cells
overflow_add-cells c =
    let cells : Part → ℕ = λ part. part.size.w * part.size.h in
    let counted : Part → ℕ = λ part. if is_counted c.args.column part then cells part else 0 in
    let within : sum_by counted (take c.loop-part.part-index c.args.parts.now) + cells (get_or c.args.parts.now c.loop-part.part-index c.part-item.result) ≤ sum_by cells c.args.parts.now =
    sum_by_more_le_part counted cells c.args.parts.now c.loop-part.part-index c.part-item.result c.loop-part-test.true (λ part. part_counts (is_counted c.args.column part) (cells part)) in
    let item : cells c.part-item.result ≡ cells (get_or c.args.parts.now c.loop-part.part-index c.part-item.result) = ap cells c.part-item.is in
    omega (arith, within, item, c.cells-cells.ensures.value, c.loop-part.invariant, c.requires)
