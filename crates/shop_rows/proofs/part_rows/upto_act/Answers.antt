use Rattle.std.proofs.Common.{leb, rules, sym}
use Rattle.std.proofs.lemmas.List.Sorted.{IsPartitionPoint-from_clause}
use Rattle.cut_measure.specs.Names.{Name, name_cmp}
use Rattle.shop_rows.specs.Keys.{names_exact, names_total}
use Rattle.shop_rows.specs.PartRows.{row_key}
use Rattle.shop_rows.specs.declared.part_rows.PartRow.{PartRow}
use Rattle.shop_rows.proofs.ByAct.{upto_acts}
use Rattle.shop_rows.proofs.Listed.{parted, point_prefix}
use Rattle.shop_rows.proofs.part_rows.upto_act.Goals as goal

pub returns : goal.returns
returns c =
    let rows = c.args.rows.now in
    let act = c.args.act in
    let point =
    IsPartitionPoint-from_clause (λ (row : PartRow). leb row.name.act act) _ _ c.partition_point-to.ensures.partitioned
    (parted row_key name_cmp names_total names_exact (λ (name : Name). leb name.act act) (upto_acts act) rows c.requires) (λ a r q k. search rules) in
    sym (point_prefix (λ (row : PartRow). leb row.name.act act) rows c.partition_point-to.result c.partition_point-to.ensures.bound point)
