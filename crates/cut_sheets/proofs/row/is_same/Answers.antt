use Rattle.std.proofs.Common.{get_or, refl, ap, below_more, arith}
use Rattle.std.proofs.lemmas.Grind.{same_number_lists}
use Rattle.cut_wants.proofs.NumberRows.{value_at, same_length}
use Rattle.cut_sheets.proofs.row.is_same.Goals as goal

pub returns-then-worth : goal.returns-then-worth
returns-then-worth g c =
    let f = g.T.Number.value in
    let one = value_at f c.args.one.now c.loop-p.p c.index-one-p.result (omega arith) c.index-one-p.is in
    let two = value_at f c.args.other.now c.loop-p.p c.index-other-p.result (omega arith) c.index-other-p.is in
    (λ e. absurd (cc), λ e. absurd (c.if-worth.true (omega (arith, one, two, c.worth.ensures, c.worth-in-loop-p.ensures, ap (λ xs. get_or xs c.loop-p.p 0) e))))

pub loop-p-preserved : goal.loop-p-preserved
loop-p-preserved g c =
    let f = g.T.Number.value in
    let one = value_at f c.args.one.now c.loop-p.p c.index-one-p.result (omega arith) c.index-one-p.is in
    let two = value_at f c.args.other.now c.loop-p.p c.index-other-p.result (omega arith) c.index-other-p.is in
    below_more _ _ c.loop-p.invariant (omega (arith, one, two, c.worth.ensures, c.worth-in-loop-p.ensures, c.if-worth.false))

pub returns : goal.returns
returns g c =
    let f = g.T.Number.value in
    let one = same_length f c.args.one.now in
    let two = same_length f c.args.other.now in
    (λ e. same_number_lists _ _ (omega (arith, one, two)) (λ k lt. c.loop-p.invariant k (omega (arith, one))), λ e. refl)
