use Rattle.std.proofs.Common.{◌≡◌, ◌-◌, length, drop, leb, rules, sym, ◌∙◌, arith}
use Rattle.std.specs.Ordering.{nat_cmp}
use Rattle.std.specs.Cmp.{nat_cmp_total}
use Rattle.std.specs.FinMap.{nat_cmp-IsAntisymmetric}
use Rattle.std.proofs.lemmas.List.{length-drop, take_all}
use Rattle.std.proofs.lemmas.List.Sorted.{IsPartitionPoint-from_clause}
use Rattle.shop_rows.specs.Open.{own_key}
use Rattle.shop_rows.proofs.Listed.{parted, point_back, upto_number, after_number}
use Rattle.shop_rows.proofs.open.numbers_after.Goals as goal

pub returns : goal.returns
returns c =
    let keys = c.args.keys.now in
    let i = c.partition_point-from.result in
    let point =
    IsPartitionPoint-from_clause (λ n. leb n c.args.after) _ _ c.partition_point-from.ensures.partitioned
    (parted own_key nat_cmp nat_cmp_total nat_cmp-IsAntisymmetric (λ n. leb n c.args.after) (upto_number c.args.after) keys c.requires) (λ a r q k. search rules) in
    let len : length (drop i keys) ≡ length keys - i = length-drop i keys in
    take_all (length keys - i) (drop i keys) (omega (arith, len)) ∙ sym (point_back (λ n. leb n c.args.after) keys i c.partition_point-from.ensures.bound point)
    ∙ after_number c.args.after keys
