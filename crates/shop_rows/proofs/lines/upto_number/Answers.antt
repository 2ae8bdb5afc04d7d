use Rattle.std.proofs.Common.{◌≡◌, leb, List, true, rules, subst, sym}
use Rattle.std.specs.Ordering.{nat_cmp}
use Rattle.shop_rows.specs.Rows.{rise}
use Rattle.std.specs.Cmp.{nat_cmp_total}
use Rattle.std.specs.FinMap.{nat_cmp-IsAntisymmetric}
use Rattle.std.proofs.lemmas.List.Sorted.{IsPartitionPoint-from_clause}
use Rattle.shop_records.specs.declared.records.Demand.{Demand}
use Rattle.shop_rows.specs.Keys.{demand_key}
use Rattle.shop_rows.proofs.Listed.{parted, point_prefix, rise-filter, upto_number}
use Rattle.shop_rows.proofs.lines.upto_number.Goals as goal

pub returns-clause-rows : goal.returns-clause-rows
returns-clause-rows c =
    let demands = c.args.demands.now in
    let last = c.args.last in
    let point =
    IsPartitionPoint-from_clause (λ (demand : Demand). leb demand.number last) _ _ c.partition_point-to.ensures.partitioned
    (parted demand_key nat_cmp nat_cmp_total nat_cmp-IsAntisymmetric (λ n. leb n last) (upto_number last) demands c.requires) (λ a r q k. search rules) in
    sym (point_prefix (λ (demand : Demand). leb demand.number last) demands c.partition_point-to.result c.partition_point-to.ensures.bound point)

pub returns-clause-rising : goal.returns-clause-rising
returns-clause-rising c =
    subst (λ (rows : List Demand). rise demand_key nat_cmp rows ≡ true) (sym (returns-clause-rows c)) (rise-filter demand_key nat_cmp (λ n. leb n c.args.last) c.args.demands.now c.requires)
