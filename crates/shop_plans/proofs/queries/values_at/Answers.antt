use Rattle.std.proofs.Common.{ap, ◌∙◌}
use Rattle.std.specs.Prelude.{option_map, option_and_then}
use Rattle.serde_json.specs.Find.{as_array}
use Rattle.shop_forms.specs.Fields.{elements}
use Rattle.shop_forms.proofs.Lists.{elements_there}
use Rattle.shop_plans.proofs.queries.values_at.Goals as goal

pub returns : goal.returns
returns c =
    elements_there c.as_array.result _ c.as_array.ensures ∙ ap (λ o. option_map elements (option_and_then as_array o)) c.in_ok-get.ensures
