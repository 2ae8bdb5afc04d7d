use Rattle.std.proofs.Common.{◌≡◌, ◌++◌, map, drop}
use Rattle.std.specs.Prelude.{option_map}
use Rattle.serde_json.specs.View.{view}
use Rattle.shop_forms.specs.Fields.{all_of}
use Rattle.shop_plans.specs.Queries.{name_of}
use Rattle.shop_plans.proofs.queries.names_of.Given as goal

abbrev pub invariant-loop-value : goal.invariant-loop-value
invariant-loop-value l = all_of name_of (map view l.values) ≡ option_map (λ more. l.names ++ more) (all_of name_of (map view (drop l.value-index l.values)))
