use Rattle.std.proofs.Common.{refl, arith}
use Rattle.cut_wants.proofs.NumberRows.{value_at, value_others, value_set}
use Rattle.cut_classes.proofs.row.join_place.Goals as goal

pub returns-clause-raised : goal.returns-clause-raised
returns-clause-raised g c =
    let f = g.T.Number.value in
    let here = value_set f c.args.row.now c.args.at c.args.at (f c.best_sum.result) c.best_sum.result c.requires.at refl refl in
    let before = value_at f c.args.row.now c.args.at c.index-row-at.result c.requires.at c.index-row-at.is in
    omega (arith, here, before, c.best_sum.ensures.raised)

pub returns-clause-others : goal.returns-clause-others
returns-clause-others g c = λ p ne. value_others g.T.Number.value c.args.row.now c.args.at p c.best_sum.result ne

pub returns-clause-most : goal.returns-clause-most
returns-clause-most g c = λ p has.
    let f = g.T.Number.value in
    let here = value_set f c.args.row.now c.args.at c.args.at (f c.best_sum.result) c.best_sum.result c.requires.at refl refl in
    omega (arith, here, c.best_sum.ensures.most p has)

pub returns-clause-least : goal.returns-clause-least
returns-clause-least g c = λ bound le all.
    let f = g.T.Number.value in
    let here = value_set f c.args.row.now c.args.at c.args.at (f c.best_sum.result) c.best_sum.result c.requires.at refl refl in
    let before = value_at f c.args.row.now c.args.at c.index-row-at.result c.requires.at c.index-row-at.is in
    omega (arith, here, c.best_sum.ensures.least bound (omega (arith, before, le)) all)
