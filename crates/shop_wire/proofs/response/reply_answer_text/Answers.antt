use Rattle.std.proofs.Common.{refl, ◌∙◌}
use Rattle.shop_wire.proofs.Written.{same_answer}
use Rattle.shop_wire.proofs.response.reply_answer_text.Goals as goal

pub returns : goal.returns
returns c = c.in_ok-text.ensures ∙ same_answer _ _ _ _ _ _ c.reply_status.ensures.value refl (c.as_str.ensures.value ∙ c.in_ok-body.ensures)
