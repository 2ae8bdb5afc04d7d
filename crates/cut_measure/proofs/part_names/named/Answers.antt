use Rattle.std.proofs.Common.{lit<, sym, ◌∙◌, inl, inr, arith, ◌≡◌}
use Rattle.std.proofs.lemmas.Str.Pattern.{split_parts}
use Rattle.std.proofs.lemmas.Fmt.{decimal_injective}
use Rattle.cut_measure.proofs.NameTexts.{no_name, name_parts}
use Rattle.cut_measure.proofs.part_names.named.Goals as goal

pub returns-in_err-act : goal.returns-in_err-act
returns-in_err-act c =
    let none = rw c.in_err-act.was at (split_parts 47 c.args.text.now c.split_once.result c.split_once.ensures.cases (lit< tt)) in
    rw c.from_residual.ensures (λ n is same. no_name c.args.text.now none n same)

pub returns-in_err-act-2 : goal.returns-in_err-act-2
returns-in_err-act-2 c =
    let parts = rw c.in_ok-act.was at (split_parts 47 c.args.text.now c.split_once.result c.split_once.ensures.cases (lit< tt)) in
    rw c.from_residual-in_err-act-2.ensures
    (λ n is same. c.in_err-act-2.ensures n.act (omega (arith, is.1))
    ((name_parts c.args.text.now c.in_ok-act.act.now c.in_ok-act.node.now parts.0 parts.1 n is same).0 ∙ sym c.as_bytes.ensures.value))

pub returns-in_err-node : goal.returns-in_err-node
returns-in_err-node c =
    let parts = rw c.in_ok-act.was at (split_parts 47 c.args.text.now c.split_once.result c.split_once.ensures.cases (lit< tt)) in
    rw c.from_residual-in_err-node.ensures
    (λ n is same. c.in_err-node.ensures n.node is.2
    ((name_parts c.args.text.now c.in_ok-act.act.now c.in_ok-act.node.now parts.0 parts.1 n is same).1 ∙ sym c.as_bytes-2.ensures.value))

pub returns-then-act-lt1 : goal.returns-then-act-lt1
returns-then-act-lt1 c = λ n is same.
    let parts = rw c.in_ok-act.was at (split_parts 47 c.args.text.now c.split_once.result c.split_once.ensures.cases (lit< tt)) in
    let act : c.in_ok-act-2.act ≡ n.act =
    decimal_injective c.in_ok-act-2.act n.act (omega (arith, c.in_ok-act-2.ensures.0)) (omega (arith, is.1))
    (c.in_ok-act-2.ensures.1 ∙ c.as_bytes.ensures.value ∙ sym (name_parts c.args.text.now c.in_ok-act.act.now c.in_ok-act.node.now parts.0 parts.1 n is same).0) in
    elim c.then-act-lt1.either [ inl p ↦ omega (arith, p, act, is.0) | inr p ↦ omega (arith, p.1, act, is.1) ]
