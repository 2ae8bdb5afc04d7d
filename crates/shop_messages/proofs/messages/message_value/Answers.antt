use Rattle.std.proofs.Common.{sym, ap, ◌∙◌}
use Rattle.serde_json.specs.Read.{read}
use Rattle.shop_forms.proofs.Back.{same_some, message_text_read}
use Rattle.shop_messages.proofs.messages.message_value.Goals as goal

pub returns-clause-value : goal.returns-clause-value
returns-clause-value c =
    same_some _ _ (sym c.in_ok-value.ensures ∙ ap read c.in_ok-text.ensures.text ∙ message_text_read c.args.message.now c.message_text.ensures.message)
