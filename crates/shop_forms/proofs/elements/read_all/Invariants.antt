use Rattle.std.proofs.Common.{◌≡◌, ◌++◌, map, drop}
use Rattle.std.specs.Prelude.{option_map}
use Rattle.serde_json.specs.View.{view}
use Rattle.shop_forms.specs.Fields.{all_of}
use Rattle.shop_forms.proofs.elements.read_all.Given as goal

abbrev pub invariant-loop-value : goal.invariant-loop-value
invariant-loop-value g l = all_of g.T.Read.meant (map view l.values) ≡ option_map (λ more. l.rows ++ more) (all_of g.T.Read.meant (map view (drop l.value-index l.values)))
