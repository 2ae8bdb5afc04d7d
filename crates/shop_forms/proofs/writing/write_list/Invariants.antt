use Rattle.std.proofs.Common.{◌∷◌, drop}
use Rattle.json.specs.Token.{begin_array}
use Rattle.shop_forms.proofs.ListedRows.{cut_data}
use Rattle.shop_forms.specs.Tokens.{elements_tokens, Lacks}
use Rattle.shop_forms.proofs.writing.write_list.Given as goal

abbrev pub invariant-loop-n : goal.invariant-loop-n
invariant-loop-n l = Lacks l.fn.writer l.writer (begin_array ∷ elements_tokens cut_data l.numbers) (elements_tokens cut_data (drop l.n-index l.numbers))
