use Rattle.std.proofs.Common.{◌∷◌, drop}
use Rattle.json.specs.Token.{begin_array}
use Rattle.shop_forms.specs.Tokens.{elements_tokens, Lacks}
use Rattle.shop_plans.specs.Reported.{name_data}
use Rattle.shop_plans.proofs.answers.write_names.Given as goal

abbrev pub invariant-loop-part : goal.invariant-loop-part
invariant-loop-part l = Lacks l.fn.writer l.writer (begin_array ∷ elements_tokens name_data l.parts) (elements_tokens name_data (drop l.part-index l.parts))
