use Rattle.std.proofs.Common.{sym, ◌∙◌, arith}
use Rattle.std.proofs.lemmas.Fmt.{decimal_injective}
use Rattle.cut_tree.proofs.token.number.Goals as goal

pub returns-then-n-eq0 : goal.returns-then-n-eq0
returns-then-n-eq0 c = λ n one small same.
    let e = decimal_injective n c.in_ok-n.n (omega arith) (omega (arith, c.in_ok-n.ensures.0)) (same ∙ sym c.in_ok-n.ensures.1) in
    omega (arith, e, c.if-n-eq0.true)
