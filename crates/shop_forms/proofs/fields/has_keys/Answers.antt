use Rattle.serde_json.specs.View.{view}
use Rattle.shop_forms.proofs.FieldFacts.{keys_counted}
use Rattle.shop_forms.proofs.fields.has_keys.Goals as goal

pub returns-in-Some : goal.returns-in-Some
returns-in-Some c = keys_counted c.in-Some.members.now.entries (view c.args.value.now) c.args.count c.len.result c.in-Some.ensures c.len.ensures.len
