use Rattle.std.proofs.Common.{◌≡◌, ◌-◌, length, drop, leb, ltb, not, rules, List, true, sym, subst, ◌∙◌, arith}
use Rattle.std.specs.Ordering.{nat_cmp}
use Rattle.shop_rows.specs.Rows.{rise}
use Rattle.std.specs.Cmp.{nat_cmp_total}
use Rattle.std.specs.FinMap.{nat_cmp-IsAntisymmetric}
use Rattle.std.proofs.lemmas.List.{length-drop, take_all}
use Rattle.std.proofs.lemmas.List.Elements.{filter_agree}
use Rattle.std.proofs.lemmas.List.Sorted.{IsPartitionPoint-from_clause}
use Rattle.shop_records.specs.declared.records.Demand.{Demand}
use Rattle.shop_rows.specs.Keys.{demand_key}
use Rattle.shop_rows.proofs.Listed.{below_number, not_below, parted, point_back, rise-filter}
use Rattle.shop_rows.proofs.lines.from_number.Goals as goal

pub returns-clause-rows : goal.returns-clause-rows
returns-clause-rows c =
    let demands = c.args.demands.now in
    let first = c.args.first in
    let i = c.partition_point-from.result in
    let point =
    IsPartitionPoint-from_clause (λ (demand : Demand). ltb demand.number first) _ _ c.partition_point-from.ensures.partitioned
    (parted demand_key nat_cmp nat_cmp_total nat_cmp-IsAntisymmetric (λ n. ltb n first) (below_number first) demands c.requires) (λ a r q k. search rules) in
    let len : length (drop i demands) ≡ length demands - i = length-drop i demands in
    take_all (length demands - i) (drop i demands) (omega (arith, len)) ∙ sym (point_back (λ (demand : Demand). ltb demand.number first) demands i c.partition_point-from.ensures.bound point)
    ∙ filter_agree (λ (demand : Demand). not (ltb demand.number first)) (λ (demand : Demand). leb first demand.number) (λ demand. not_below first demand.number) demands

pub returns-clause-rising : goal.returns-clause-rising
returns-clause-rising c =
    subst (λ (rows : List Demand). rise demand_key nat_cmp rows ≡ true) (sym (returns-clause-rows c)) (rise-filter demand_key nat_cmp (λ n. leb c.args.first n) c.args.demands.now c.requires)
