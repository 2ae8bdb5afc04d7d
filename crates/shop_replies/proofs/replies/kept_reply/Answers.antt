use Rattle.std.proofs.Common.{sym, ap, ◌∙◌}
use Rattle.std.specs.Prelude.{option_and_then}
use Rattle.shop_forms.specs.Forms.{reply_of, kept_reply_of}
use Rattle.shop_replies.proofs.Printed.{kept_back, not_memory}
use Rattle.shop_replies.proofs.replies.kept_reply.Goals as goal

pub returns-in-Ok-clause-back : goal.returns-in-Ok-clause-back
returns-in-Ok-clause-back c = λ answer made is.
    c.made.ensures ∙ sym (ap (option_and_then reply_of) c.in-Ok.ensures.ok) ∙ ap kept_reply_of is ∙ kept_back answer made

pub returns-else-is_memory-clause-back : goal.returns-else-is_memory-clause-back
returns-else-is_memory-clause-back c = λ answer made is.
    sym (ap (option_and_then reply_of) (c.in-Err.ensures.err (not_memory c.is_memory.result c.is_memory.ensures.1 c.if-is_memory.false))) ∙ ap kept_reply_of is ∙ kept_back answer made
