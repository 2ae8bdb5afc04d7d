use Rattle.std.proofs.Common.{refl, arith}
use Rattle.cut_wants.proofs.NumberRows.{value_at, value_set, value_others}
use Rattle.cut_classes.proofs.row.offer.Goals as goal

pub returns-then-at-row-clause-at : goal.returns-then-at-row-clause-at
returns-then-at-row-clause-at g c = λ lt.
    let here = value_at g.T.Number.value c.args.row.now c.args.at c.index-row-at.result lt c.index-row-at.is in
    value_set g.T.Number.value c.args.row.now c.args.at c.args.at _ c.raised.result lt (omega (arith, here, c.raised.ensures, c.of.ensures, c.of-then-at-row.ensures)) refl

pub returns-then-at-row-clause-others : goal.returns-then-at-row-clause-others
returns-then-at-row-clause-others g c = λ p ne. value_others g.T.Number.value c.args.row.now c.args.at p c.raised.result ne
