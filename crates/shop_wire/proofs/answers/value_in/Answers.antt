use Rattle.std.proofs.Common.{◌≤◌, length, arith, inl, inr, refl}
use Rattle.serde_json.specs.View.{view}
use Rattle.shop_wire.proofs.Answered.{data_read, data_none, data_long, not_memory}
use Rattle.shop_wire.proofs.answers.value_in.Goals as goal

pub returns-then-line-gt-MAX_LINE_LEN : goal.returns-then-line-gt-MAX_LINE_LEN
returns-then-line-gt-MAX_LINE_LEN c = inr (refl, data_long c.args.line.now (omega (arith, c.if-line-gt-MAX_LINE_LEN.true)))

pub returns-in-Ok : goal.returns-in-Ok
returns-in-Ok c =
    let short : length c.args.line.now ≤ 131072 = omega (arith, c.if-line-gt-MAX_LINE_LEN.false) in
    data_read c.args.line.now (view c.in-Ok.value) short c.in-Ok.ensures.ok.0 c.in-Ok.ensures.ok.1

pub returns-then-is_memory : goal.returns-then-is_memory
returns-then-is_memory c = inl refl

pub returns-else-is_memory : goal.returns-else-is_memory
returns-else-is_memory c = inr (refl, data_none c.args.line.now (c.in-Err.ensures.err (not_memory c.is_memory.result c.is_memory.ensures.1 c.if-is_memory.false)))
