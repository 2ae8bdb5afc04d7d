use Rattle.std.proofs.Common.{◌∷◌, take, drop}
use Rattle.std.specs.Prelude.{All}
use Rattle.json.specs.Token.{begin_array}
use Rattle.shop_forms.specs.Forms.{entry_data, HasWideEntry}
use Rattle.shop_forms.specs.Tokens.{elements_tokens, Lacks}
use Rattle.shop_replies.proofs.history.write_entries.Given as goal

abbrev pub invariant-loop-entry : goal.invariant-loop-entry
invariant-loop-entry l =
    Lacks l.fn.writer l.writer (begin_array ∷ elements_tokens entry_data l.entries) (elements_tokens entry_data (drop l.entry-index l.entries))
    × All HasWideEntry (take l.entry-index l.entries)
