use Rattle.std.proofs.Common.{◌∙◌, sym, append_assoc, append-nil}
use Rattle.std.proofs.lemmas.Str.{IsUtf8-past_char}
use Rattle.shop_advice.proofs.Printed.{plain_printed, printed_empty, printed_step}
use Rattle.shop_advice.proofs.printing.printed.Goals as goal

pub loop-letter-preserved : goal.loop-letter-preserved
loop-letter-preserved c =
    let so_far = c.loop-letter.invariant in
    let parts = c.in-Some.ensures.steps.0 in
    let step = printed_step c.args.has_lines _ _ c.in-Some.letter so_far.0 parts in
    (IsUtf8-past_char _ _ c.in-Some.letter so_far.0 parts, rw (c.in_ok-push_printed.ensures, append_assoc) (rw step at so_far.1))

pub returns-clause-text : goal.returns-clause-text
returns-clause-text c =
    sym (append-nil _) ∙ rw (printed_empty c.args.has_lines _ c.in-None.ensures.steps.0.0) at c.loop-letter.invariant.1

pub returns-clause-plain : goal.returns-clause-plain
returns-clause-plain c = plain_printed c.args.has_lines c.args.text.now _ (returns-clause-text c)
