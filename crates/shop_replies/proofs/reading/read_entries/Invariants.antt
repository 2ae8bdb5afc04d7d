use Rattle.std.proofs.Common.{◌≡◌, ◌++◌, map, drop}
use Rattle.std.specs.Prelude.{option_map}
use Rattle.serde_json.specs.View.{view}
use Rattle.shop_forms.specs.Fields.{all_of}
use Rattle.shop_forms.specs.Forms.{entry_in_list}
use Rattle.shop_replies.proofs.reading.read_entries.Given as goal

abbrev pub invariant-loop-value : goal.invariant-loop-value
invariant-loop-value l = all_of entry_in_list (map view l.values) ≡ option_map (λ more. l.rows ++ more) (all_of entry_in_list (map view (drop l.value-index l.values)))
