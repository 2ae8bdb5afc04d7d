use Rattle.std.proofs.Common.{List, ap, ◌∙◌}
use Rattle.shop_rows.specs.declared.sums.Sums.{Sums}
use Rattle.shop_rows.specs.Sums.{found_sum, sum_at}
use Rattle.shop_rows.proofs.Summed.{taken}
use Rattle.shop_rows.proofs.sums.take_part.Goals as goal

pub returns-in-Some-clause-takes : goal.returns-in-Some-clause-takes
returns-in-Some-clause-takes c = λ column code.
    taken column code c.without_part-sums.result c.args.rows.now.items c.put.new.rows.items c.put.ensures.put c.args.part.now (c.without_part-sums.ensures.code ∙ c.in-Some.ensures.key)
    (c.without_part-sums.ensures.sums column ∙ ap (found_sum column) c.in-Some.ensures.row ∙ ap (λ (rows : List Sums). sum_at column c.args.part.now.material rows) c.deref.ensures.value)
