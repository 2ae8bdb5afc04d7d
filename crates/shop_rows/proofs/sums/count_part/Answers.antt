use Rattle.std.proofs.Common.{◌≡◌, ◌+◌, List, sym, ap, ◌∙◌, arith}
use Rattle.std.specs.Prelude.{is_some}
use Rattle.shop_rows.specs.Adding.{has_sums}
use Rattle.shop_rows.specs.Sums.{counted_cells, found_sum, sum_at, sum_in}
use Rattle.shop_rows.specs.declared.sums.Sums.{Sums}
use Rattle.shop_rows.proofs.Counting.{put_over, put_small}
use Rattle.shop_rows.proofs.Summed.{added}
use Rattle.shop_rows.proofs.sums.count_part.Goals as goal

pub with_part-sums-requires : goal.with_part-sums-requires
with_part-sums-requires c = λ column.
    let same : sum_in column c.in-Some.sums ≡ sum_at column c.args.part.now.material c.args.rows.now.items =
    ap (found_sum column) c.in-Some.ensures.row ∙ ap (λ (rows : List Sums). sum_at column c.args.part.now.material rows) c.deref.ensures.value in
    let small = c.requires.small column c.args.part.now.material in
    omega (arith, same, small, c.cells-cells.ensures.value, c.cells-cells.ensures.most)

pub returns-clause-small : goal.returns-clause-small
returns-clause-small c = λ column code.
    put_small column code c.with_part-sums.result c.args.rows.now.items c.put.new.rows.items 18446744073709551616 c.put.ensures.put (c.in_default-wide_column.ensures.none column) (c.requires.small column code)

pub returns-clause-adds : goal.returns-clause-adds
returns-clause-adds c = λ is.
    let key = c.with_part-sums.ensures.code ∙ c.in-Some.ensures.key in
    record {
      adds = λ column code.
          added column code c.with_part-sums.result c.args.rows.now.items c.put.new.rows.items c.put.ensures.put c.args.part.now key
          (c.with_part-sums.ensures.sums column ∙ ap (λ n. n + counted_cells column c.args.part.now) (ap (found_sum column) c.in-Some.ensures.row ∙ ap (λ (rows : List Sums). sum_at column c.args.part.now.material rows) c.deref.ensures.value));
      there = λ code. put_over code c.with_part-sums.result c.args.rows.now.items c.put.new.rows.items c.put.ensures.put (ap (λ m. has_sums m c.args.rows.now.items) key ∙ sym (ap (has_sums c.args.part.now.material) c.deref.ensures.value) ∙ sym (ap is_some c.in-Some.ensures.row));
    }
