use Rattle.std.proofs.Common.{◌≡◌, ◌+◌, ◌-◌, get_or, arith, inl, inr, ap, ◌∙◌}
use Rattle.std.specs.Str.Parse.{AllDigits, digits_value}
use Rattle.std.specs.Char.{digit_value}
use Rattle.std.proofs.lemmas.Str.Parse.{digit_at}
use Rattle.std.proofs.lemmas.List.{take_all}
use Rattle.std.proofs.lemmas.Int.Digits.{digits_more, digits_value_more}
use Rattle.cut_measure.proofs.Digits.{digits_value-take, digit_value-ascii}
use Rattle.cut_measure.proofs.numbers.digits_value_of.Goals as goal

pub returns-then-not-is_ascii_digit : goal.returns-then-not-is_ascii_digit
returns-then-not-is_ascii_digit c = λ h. (
    let d = digit_at c.args.digits.now c.loop-digit.digit-index h.0 c.loop-digit-test.true in
    let n = rw c.if-not-is_ascii_digit.true at c.is_ascii_digit.ensures.cases in
    elim n [ inl l ↦ omega arith | inr l ↦ omega arith ])

pub returns-in_err-checked_mul : goal.returns-in_err-checked_mul
returns-in_err-checked_mul c =
    rw c.from_residual.ensures
    (λ h. c.in_err-checked_mul.ensures (omega (
      arith,
      c.loop-digit.invariant.1,
      digits_value_more 10 c.args.digits.now c.loop-digit.digit-index c.loop-digit-test.true,
      digits_value-take c.args.digits.now (c.loop-digit.digit-index + 1),
      h.1,
    )))

pub returns-in_err-value : goal.returns-in_err-value
returns-in_err-value c =
    let n = rw c.if-not-is_ascii_digit.false at c.is_ascii_digit.ensures.cases in
    rw c.from_residual-in_err-value.ensures
    (λ h. c.in_err-value.ensures (omega (
      arith,
      c.loop-digit.invariant.1,
      c.from.ensures,
      c.in_ok-checked_mul.ensures.1,
      digit_value-ascii (get_or c.args.digits.now c.loop-digit.digit-index 0) n.0 n.1,
      digits_value_more 10 c.args.digits.now c.loop-digit.digit-index c.loop-digit-test.true,
      digits_value-take c.args.digits.now (c.loop-digit.digit-index + 1),
      h.1,
    )))

pub loop-digit-preserved : goal.loop-digit-preserved
loop-digit-preserved c =
    let n = rw c.if-not-is_ascii_digit.false at c.is_ascii_digit.ensures.cases in
    let e : digit_value (get_or c.args.digits.now c.loop-digit.digit-index 0) ≡ get_or c.args.digits.now c.loop-digit.digit-index 0 - 48 = digit_value-ascii _ n.0 n.1 in (
      digits_more 10 c.args.digits.now c.loop-digit.digit-index c.loop-digit-test.true c.loop-digit.invariant.0 (omega (arith, e, n.0, n.1)),
      omega (
        arith,
        e,
        c.loop-digit.invariant.1,
        c.from.ensures,
        c.in_ok-checked_mul.ensures.1,
        c.in_ok-value.ensures.1,
        digits_value_more 10 c.args.digits.now c.loop-digit.digit-index c.loop-digit-test.true,
      ),
      omega (arith, c.in_ok-value.ensures.0, c.in_ok-value.ensures.1),
    )

pub returns : goal.returns
returns c =
    let whole = take_all c.loop-digit.digit-index c.args.digits.now c.loop-digit-test.false in
    let a : AllDigits 10 c.args.digits.now = rw (← whole) c.loop-digit.invariant.0 in
    let v : c.loop-digit.value ≡ digits_value 10 c.args.digits.now = c.loop-digit.invariant.1 ∙ ap (digits_value 10) whole in
    ((a, omega (arith, v, c.loop-digit.invariant.2)), v)
