use Rattle.std.proofs.Common.{◌≡◌, arith, sym, ◌∙◌}
use Rattle.shop_wire.proofs.Meant.{ranged_none, ranged_some, one_numeral}
use Rattle.shop_wire.proofs.paths.number_of.Goals as goal
use Rattle.shop_wire.proofs.paths.number_of.Goals.{then-number-least-via-then-number-least, then-number-least-via-else-number-least+then-number-most}

pub returns-then-number-least-clause-value : goal.returns-then-number-least-clause-value
returns-then-number-least-clause-value c = ranged_none c.args.least c.args.most c.args.part.now (λ n low high is.
    let same : n ≡ c.in_ok-number.number = one_numeral n c.in_ok-number.number (omega (arith, high)) c.in_ok-number.ensures.0 (is ∙ sym c.in_ok-number.ensures.1) in
    elim c.then-number-least.branch [
      | then-number-least-via-then-number-least w ↦ omega (arith, same, low, w.if-number-least.true)
      | then-number-least-via-else-number-least+then-number-most w ↦ omega (arith, same, high, w.if-number-most.true)
    ])

pub returns-clause-value : goal.returns-clause-value
returns-clause-value c = sym (ranged_some c.args.least c.args.most c.args.part.now c.in_ok-number.number c.in_ok-number.ensures.0 c.in_ok-number.ensures.1 (omega (arith, c.if-number-least.false)) (omega (arith, c.if-number-most.false)))
