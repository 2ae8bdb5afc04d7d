use Rattle.std.proofs.Common.{◌≡◌, ◌-◌, Bool, length, drop, not, rules, sym, ap, ◌∙◌, arith}
use Rattle.std.specs.Prelude.{filter}
use Rattle.std.specs.Ordering.{is_lt}
use Rattle.std.proofs.lemmas.List.{length-drop, take_all}
use Rattle.std.proofs.lemmas.List.Sorted.{IsPartitionPoint-from_clause}
use Rattle.cut_measure.specs.Names.{Name, name_cmp}
use Rattle.shop_records.specs.Lists.{is_after}
use Rattle.shop_rows.specs.Keys.{names_total, names_exact}
use Rattle.shop_rows.specs.Open.{own_key}
use Rattle.shop_rows.proofs.Listed.{parted, point_back, all_after, after_names, upto_name}
use Rattle.shop_rows.proofs.names.after_name.Goals as goal

pub returns : goal.returns
returns c =
    let names = c.args.names.now in
    let after = c.in-Some.after in
    let i = c.partition_point-from.result in
    let test : Name → Bool = λ name. not (is_lt (name_cmp after name)) in
    let point =
    IsPartitionPoint-from_clause test _ _ c.partition_point-from.ensures.partitioned
    (parted own_key name_cmp names_total names_exact test (upto_name after) names c.requires) (λ a r q k. search rules) in
    let len : length (drop i names) ≡ length names - i = length-drop i names in
    take_all (length names - i) (drop i names) (omega (arith, len)) ∙ sym (point_back test names i c.partition_point-from.ensures.bound point)
    ∙ after_names after names ∙ ap (λ a. filter (is_after a) names) (sym c.in-Some.is)

pub returns-in_default : goal.returns-in_default
returns-in_default c = all_after c.args.names.now ∙ ap (λ a. filter (is_after a) c.args.names.now) (sym c.in_default.is)
