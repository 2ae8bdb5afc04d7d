use Rattle.std.proofs.Common.{◌∷◌, take, drop}
use Rattle.std.specs.Prelude.{All}
use Rattle.json.specs.Token.{begin_array}
use Rattle.shop_forms.specs.Tokens.{elements_tokens, Lacks}
use Rattle.shop_forms.proofs.elements.write_rows.Given as goal

abbrev pub invariant-loop-row : goal.invariant-loop-row
invariant-loop-row g l =
    Lacks l.fn.writer l.writer (begin_array ∷ elements_tokens g.T.Listed.said l.rows) (elements_tokens g.T.Listed.said (drop l.row-index l.rows))
    × All g.T.Listed.is_wide (take l.row-index l.rows)
