use Rattle.std.proofs.Common.{leb, ap, ◌∙◌}
use Rattle.std.specs.Prelude.{◌&&◌, ◌==◌, List, filter}
use Rattle.std.proofs.lemmas.List.Elements.{filter_agree}
use Rattle.shop_rows.specs.declared.part_rows.PartRow.{PartRow}
use Rattle.shop_rows.proofs.ByAct.{both_ways}
use Rattle.shop_rows.proofs.Listed.{filter_filter}
use Rattle.shop_rows.proofs.part_rows.of_act.Goals as goal

pub returns : goal.returns
returns c =
    let rows = c.args.rows.now in
    let act = c.args.act in
    c.upto_act.ensures ∙ ap (λ (rows : List PartRow). filter (λ row. leb row.name.act act) rows) c.from_act.ensures.rows
    ∙ filter_filter (λ (row : PartRow). leb act row.name.act) (λ (row : PartRow). leb row.name.act act) rows
    ∙ filter_agree (λ (row : PartRow). leb act row.name.act && leb row.name.act act) (λ (row : PartRow). row.name.act == act) (λ row. both_ways act row.name.act) rows
