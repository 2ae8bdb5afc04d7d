use Rattle.std.proofs.Common.{◌≡◌, ◌+◌, ◌-◌, get_or, arith}
use Rattle.std.specs.Char.{digit_value}
use Rattle.std.proofs.lemmas.Int.Digits.{digits_value_more}
use Rattle.shop_request.proofs.Numbers.{digits_value-take, digit_value-ascii, digit_at}
use Rattle.shop_request.proofs.fields.short_number.Goals as goal

pub returns-then-value-gt-MAX_BODY_LEN : goal.returns-then-value-gt-MAX_BODY_LEN
returns-then-value-gt-MAX_BODY_LEN c =
    let n = digit_at c.args.digits.now c.loop-digit.digit-index c.requires c.loop-digit-test.true in
    let e : digit_value (get_or c.args.digits.now c.loop-digit.digit-index 0) ≡ get_or c.args.digits.now c.loop-digit.digit-index 0 - 48 = digit_value-ascii _ n.0 n.1 in
    omega (
      arith,
      e,
      n.0,
      c.from.ensures,
      c.loop-digit.invariant.0,
      c.if-value-gt-MAX_BODY_LEN.true,
      digits_value_more 10 c.args.digits.now c.loop-digit.digit-index c.loop-digit-test.true,
      digits_value-take c.args.digits.now (c.loop-digit.digit-index + 1),
    )

pub loop-digit-preserved : goal.loop-digit-preserved
loop-digit-preserved c =
    let n = digit_at c.args.digits.now c.loop-digit.digit-index c.requires c.loop-digit-test.true in
    let e : digit_value (get_or c.args.digits.now c.loop-digit.digit-index 0) ≡ get_or c.args.digits.now c.loop-digit.digit-index 0 - 48 = digit_value-ascii _ n.0 n.1 in (
      omega (
        arith,
        e,
        n.0,
        c.from.ensures,
        c.loop-digit.invariant.0,
        digits_value_more 10 c.args.digits.now c.loop-digit.digit-index c.loop-digit-test.true,
      ),
      omega (arith, c.if-value-gt-MAX_BODY_LEN.false),
    )
