use Rattle.std.proofs.Common.{◌++◌, sym, ap, ◌∙◌}
use Rattle.json.specs.Print.{print}
use Rattle.json.specs.Tree.{json_tokens}
use Rattle.serde_json.specs.Read.{read}
use Rattle.serde_json.specs.Written.{outline}
use Rattle.shop_forms.specs.Forms.{reply_data}
use Rattle.shop_forms.proofs.Back.{same_some, reported_text_read}
use Rattle.shop_replies.proofs.Printed.{reply_text_printed}
use Rattle.shop_replies.proofs.replies.reply_value.Goals as goal

pub returns : goal.returns
returns c =
    let reply = c.args.reply.now in
    let written = c.in_ok-write_reply.ensures.value.tokens ∙ ap (λ ts. ts ++ json_tokens (outline (reply_data reply))) c.new_writer-writer.ensures.tokens in
    let text = c.written_text.ensures ∙ ap print written ∙ reply_text_printed reply in
    same_some _ _ (sym c.in_ok-value.ensures ∙ ap read text ∙ reported_text_read reply c.in_ok-write_reply.ensures.wide)
