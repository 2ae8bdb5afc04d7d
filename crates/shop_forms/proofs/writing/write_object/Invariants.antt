use Rattle.std.proofs.Common.{◌∷◌, drop}
use Rattle.json.specs.Token.{begin_object}
use Rattle.shop_forms.specs.Tokens.{Lacks}
use Rattle.shop_forms.proofs.Pieces.{rest}
use Rattle.shop_forms.proofs.writing.write_object.Given as goal

abbrev pub invariant-loop-member : goal.invariant-loop-member
invariant-loop-member l = Lacks l.fn.writer l.writer (begin_object ∷ rest l.members) (rest (drop l.member-index l.members))
