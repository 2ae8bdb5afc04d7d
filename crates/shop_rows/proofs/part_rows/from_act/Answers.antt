use Rattle.std.proofs.Common.{◌≡◌, ◌-◌, length, drop, leb, ltb, not, rules, List, true, sym, subst, ◌∙◌, arith}
use Rattle.std.proofs.lemmas.List.{length-drop, take_all}
use Rattle.std.proofs.lemmas.List.Elements.{filter_agree}
use Rattle.std.proofs.lemmas.List.Sorted.{IsPartitionPoint-from_clause}
use Rattle.cut_measure.specs.Names.{Name, name_cmp}
use Rattle.shop_rows.specs.Keys.{names_exact, names_total}
use Rattle.shop_rows.specs.PartRows.{row_key}
use Rattle.shop_rows.specs.Rows.{rise}
use Rattle.shop_rows.specs.declared.part_rows.PartRow.{PartRow}
use Rattle.shop_rows.proofs.ByAct.{before_act}
use Rattle.shop_rows.proofs.Listed.{not_below, parted, point_back, rise-filter}
use Rattle.shop_rows.proofs.part_rows.from_act.Goals as goal

pub returns-clause-rows : goal.returns-clause-rows
returns-clause-rows c =
    let rows = c.args.rows.now in
    let act = c.args.act in
    let i = c.partition_point-from.result in
    let point =
    IsPartitionPoint-from_clause (λ (row : PartRow). ltb row.name.act act) _ _ c.partition_point-from.ensures.partitioned
    (parted row_key name_cmp names_total names_exact (λ (name : Name). ltb name.act act) (before_act act) rows c.requires) (λ a r q k. search rules) in
    let len : length (drop i rows) ≡ length rows - i = length-drop i rows in
    take_all (length rows - i) (drop i rows) (omega (arith, len)) ∙ sym (point_back (λ (row : PartRow). ltb row.name.act act) rows i c.partition_point-from.ensures.bound point)
    ∙ filter_agree (λ (row : PartRow). not (ltb row.name.act act)) (λ (row : PartRow). leb act row.name.act) (λ row. not_below act row.name.act) rows

pub returns-clause-rising : goal.returns-clause-rising
returns-clause-rising c =
    subst (λ (rows : List PartRow). rise row_key name_cmp rows ≡ true) (sym (returns-clause-rows c)) (rise-filter row_key name_cmp (λ (name : Name). leb c.args.act name.act) c.args.rows.now c.requires)
