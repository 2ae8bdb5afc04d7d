use Rattle.std.proofs.Common.{◌+◌, List, ap, ◌∙◌}
use Rattle.shop_rows.specs.declared.sums.Sums.{Sums}
use Rattle.shop_rows.specs.Sums.{sum_at, counted_cells}
use Rattle.shop_rows.proofs.Summed.{added}
use Rattle.shop_rows.proofs.sums.add_part.Goals as goal

pub returns-clause-adds : goal.returns-clause-adds
returns-clause-adds c = λ column code.
    added column code c.with_part-sums.result c.args.rows.now.items c.put.new.rows.items c.put.ensures.put c.args.part.now (c.with_part-sums.ensures.code ∙ c.sums_of-sums.ensures.code)
    (c.with_part-sums.ensures.sums column ∙ ap (λ n. n + counted_cells column c.args.part.now) (c.sums_of-sums.ensures.sums column ∙ ap (λ (rows : List Sums). sum_at column c.args.part.now.material rows) c.deref.ensures.value))
