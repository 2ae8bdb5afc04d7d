use Rattle.std.proofs.Common.{◌+◌, ◌++◌, map, drop, sym, ap, ◌∙◌}
use Rattle.std.specs.Prelude.{option_map}
use Rattle.serde_json.specs.View.{view}
use Rattle.shop_forms.specs.Fields.{all_of}
use Rattle.shop_forms.proofs.Lists.{values_more, values_end, read_more, read_none, read_all}
use Rattle.shop_plans.specs.Queries.{name_of}
use Rattle.shop_plans.proofs.queries.names_of.Goals as goal

pub returns-in_default : goal.returns-in_default
returns-in_default c =
    sym (c.loop-value.invariant
    ∙ ap (λ ds. option_map (λ more. c.loop-value.names ++ more) (all_of name_of ds)) (values_more c.args.values.now c.loop-value.value-index c.value-item.result c.loop-value-test.true c.value-item.is)
    ∙ read_none name_of c.loop-value.names (view c.value-item.result) _ (sym c.in_default.ensures))

pub loop-value-preserved : goal.loop-value-preserved
loop-value-preserved c =
    c.loop-value.invariant
    ∙ ap (λ ds. option_map (λ more. c.loop-value.names ++ more) (all_of name_of ds)) (values_more c.args.values.now c.loop-value.value-index c.value-item.result c.loop-value-test.true c.value-item.is)
    ∙ read_more name_of c.loop-value.names (view c.value-item.result) _ c.in-Some.name (sym c.in-Some.ensures)
    ∙ ap (λ names. option_map (λ more. names ++ more) (all_of name_of (map view (drop (c.loop-value.value-index + 1) c.args.values.now)))) (sym c.in_ok-push.ensures.ok)

pub returns : goal.returns
returns c =
    sym (c.loop-value.invariant
    ∙ ap (λ ds. option_map (λ more. c.loop-value.names ++ more) (all_of name_of ds)) (values_end c.args.values.now c.loop-value.value-index c.loop-value-test.false)
    ∙ read_all name_of c.loop-value.names)
