use Rattle.std.proofs.Common.{◌≡◌, length, arith, inl, inr, sym, ◌∙◌}
use Rattle.std.proofs.lemmas.Bool.{eqb-true, eqb-false}
use Rattle.cut_measure.proofs.Digits.{number_from, no_number}
use Rattle.cut_measure.proofs.numbers.read_number.Goals as goal
use Rattle.cut_measure.proofs.numbers.read_number.Goals.{then-is_empty-via-then-is_empty, then-is_empty-via-else-is_empty+then-digits-gt1}

pub returns-then-is_empty : goal.returns-then-is_empty
returns-then-is_empty c = λ n small.
    elim c.then-is_empty.branch [
      | then-is_empty-via-then-is_empty w ↦ no_number n c.args.digits.now small (inl (eqb-true (length c.args.digits.now) 0 (sym c.is_empty.ensures ∙ w.if-is_empty.true)))
      | then-is_empty-via-else-is_empty+then-digits-gt1 w ↦ no_number n c.args.digits.now small (inr w.if-digits-gt1.true)
    ]

pub returns : goal.returns
returns c =
    let some : length c.args.digits.now ≡ 0 → ⊥ = eqb-false (length c.args.digits.now) 0 (sym c.is_empty.ensures ∙ c.if-is_empty.false) in
    number_from c.digits_value_of.result c.args.digits.now (omega (arith, some))
    (λ zero. elim c.if-digits-gt1.either [ inl p ↦ omega (arith, some, p.1) | inr p ↦ absurd (p zero) ]) c.digits_value_of.ensures
