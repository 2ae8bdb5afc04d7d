use Rattle.std.proofs.Common.{◌≡◌, ◌-◌, refl, sym, ◌∙◌, true, false, arith, inl, inr}
use Rattle.std.proofs.lemmas.Bool.{cases_lt}
use Rattle.cut_wants.proofs.NumberRows.{value_at, value_set, value_others}
use Rattle.cut_sheets.proofs.row.raise_place.Goals as goal

pub returns-clause-at : goal.returns-clause-at
returns-clause-at g c =
    let f = g.T.Number.value in
    let before = value_at f c.args.row.now (c.args.at - 1) c.index-row-at.result (omega arith) c.index-row-at.is in
    let here = value_at f c.args.row.now c.args.at c.index-row-at-2.result (omega arith) c.index-row-at-2.is in
    value_set f c.args.row.now c.args.at c.args.at _ c.index-row-at.result (omega arith) (elim (cases_lt (f c.index-row-at.result) (f c.index-row-at-2.result)) [ inl lt ↦ absurd (let e : true ≡ false = sym (c.is_less.ensures.1 lt) ∙ c.if-is_less.false in cc) | inr ge ↦ omega (arith, before, here) ]) refl

pub returns-clause-others : goal.returns-clause-others
returns-clause-others g c = λ p ne. value_others g.T.Number.value c.args.row.now c.args.at p c.index-row-at.result ne
