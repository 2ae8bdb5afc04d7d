use Rattle.std.proofs.Common.{◌≡◌, ◌-◌, length, drop, leb, rules, sym, ◌∙◌, arith}
use Rattle.std.specs.Ordering.{nat_cmp}
use Rattle.std.specs.Cmp.{nat_cmp_total}
use Rattle.std.specs.FinMap.{nat_cmp-IsAntisymmetric}
use Rattle.std.proofs.lemmas.List.{length-drop, take_all}
use Rattle.std.proofs.lemmas.List.Sorted.{IsPartitionPoint-from_clause}
use Rattle.shop_records.specs.declared.journal.Entry.{Entry}
use Rattle.shop_rows.specs.Keys.{entry_key}
use Rattle.shop_rows.proofs.Behind.{behind_number}
use Rattle.shop_rows.proofs.Listed.{parted, point_back, upto_number}
use Rattle.shop_rows.proofs.open.entries_after.Goals as goal

pub returns : goal.returns
returns c =
    let rows = c.args.rows.now in
    let i = c.partition_point-from.result in
    let point =
    IsPartitionPoint-from_clause (λ (entry : Entry). leb entry.number c.args.after) _ _ c.partition_point-from.ensures.partitioned
    (parted entry_key nat_cmp nat_cmp_total nat_cmp-IsAntisymmetric (λ n. leb n c.args.after) (upto_number c.args.after) rows c.requires) (λ a r q k. search rules) in
    let len : length (drop i rows) ≡ length rows - i = length-drop i rows in
    take_all (length rows - i) (drop i rows) (omega (arith, len)) ∙ sym (point_back (λ (entry : Entry). leb entry.number c.args.after) rows i c.partition_point-from.ensures.bound point)
    ∙ behind_number entry_key c.args.after rows
