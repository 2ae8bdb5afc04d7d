use Rattle.std.proofs.Common.{◌+◌, ◌++◌, map, drop, sym, ap, ◌∙◌}
use Rattle.std.specs.Prelude.{option_map}
use Rattle.serde_json.specs.View.{view}
use Rattle.shop_forms.specs.Fields.{all_of}
use Rattle.shop_forms.specs.Forms.{entry_in_list}
use Rattle.shop_forms.proofs.Lists.{values_more, values_end, read_more, read_none, read_all}
use Rattle.shop_replies.proofs.reading.read_entries.Goals as goal

pub returns-in-None : goal.returns-in-None
returns-in-None c =
    sym (c.loop-value.invariant
    ∙ ap (λ ds. option_map (λ more. c.loop-value.rows ++ more) (all_of entry_in_list ds)) (values_more c.args.values.now c.loop-value.value-index c.value-item.result c.loop-value-test.true c.value-item.is)
    ∙ read_none entry_in_list c.loop-value.rows (view c.value-item.result) _ (sym c.in_ok-found.ensures ∙ c.in-None.is))

pub loop-value-preserved : goal.loop-value-preserved
loop-value-preserved c =
    c.loop-value.invariant
    ∙ ap (λ ds. option_map (λ more. c.loop-value.rows ++ more) (all_of entry_in_list ds)) (values_more c.args.values.now c.loop-value.value-index c.value-item.result c.loop-value-test.true c.value-item.is)
    ∙ read_more entry_in_list c.loop-value.rows (view c.value-item.result) _ c.in-Some.entry (sym c.in_ok-found.ensures ∙ c.in-Some.is)
    ∙ ap (λ rows. option_map (λ more. rows ++ more) (all_of entry_in_list (map view (drop (c.loop-value.value-index + 1) c.args.values.now)))) (sym c.in_ok-push-in-Some.ensures.ok)

pub returns : goal.returns
returns c =
    sym (c.loop-value.invariant
    ∙ ap (λ ds. option_map (λ more. c.loop-value.rows ++ more) (all_of entry_in_list ds)) (values_end c.args.values.now c.loop-value.value-index c.loop-value-test.false)
    ∙ read_all entry_in_list c.loop-value.rows)
