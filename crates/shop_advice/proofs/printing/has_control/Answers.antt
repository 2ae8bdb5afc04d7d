use Rattle.std.proofs.Common.{sym, ◌∙◌}
use Rattle.std.proofs.lemmas.Str.{IsUtf8-past_char, chars_past_char}
use Rattle.shop_advice.proofs.Printed.{control_empty}
use Rattle.shop_advice.proofs.printing.has_control.Goals as goal

pub returns-then-is_control : goal.returns-then-is_control
returns-then-is_control c =
    let so_far = c.loop-letter.invariant in
    let step = chars_past_char _ _ c.in-Some.letter so_far.0 c.in-Some.ensures.steps.0 in
    let found = sym c.is_control.ensures ∙ c.if-is_control.true in
    rw (step, found) at so_far.1

pub loop-letter-preserved : goal.loop-letter-preserved
loop-letter-preserved c =
    let so_far = c.loop-letter.invariant in
    let parts = c.in-Some.ensures.steps.0 in
    let passed = sym c.is_control.ensures ∙ c.if-is_control.false in
    (IsUtf8-past_char _ _ c.in-Some.letter so_far.0 parts, rw (chars_past_char _ _ c.in-Some.letter so_far.0 parts, passed) at so_far.1)

pub returns : goal.returns
returns c = sym (control_empty _ c.in-None.ensures.steps.0.0) ∙ c.loop-letter.invariant.1
