use Rattle.std.proofs.Common.{leb, ap, ◌∙◌}
use Rattle.std.specs.Prelude.{List, filter}
use Rattle.shop_records.specs.declared.records.Demand.{Demand}
use Rattle.shop_rows.proofs.Listed.{filter_filter}
use Rattle.shop_rows.proofs.lines.between.Goals as goal

pub returns-clause-rows : goal.returns-clause-rows
returns-clause-rows c =
    let demands = c.args.demands.now in
    let span = c.args.span in
    c.upto_number.ensures.rows ∙ ap (λ (rows : List Demand). filter (λ demand. leb demand.number span.last) rows) c.from_number.ensures.rows
    ∙ filter_filter (λ (demand : Demand). leb span.first demand.number) (λ (demand : Demand). leb demand.number span.last) demands
