use Rattle.std.proofs.Common.{◌≡◌, Option, Some, sym, ap, subst, ◌∙◌}
use Rattle.shop_records.specs.declared.messages.Reply.{Reply}
use Rattle.shop_records.specs.Messages.{IsMade}
use Rattle.shop_forms.specs.Forms.{json_texts}
use Rattle.shop_desk.proofs.Steps.{again_kept}
use Rattle.shop_desk.proofs.desk_calls.answer_again.Goals as goal

one_some : (a b : Reply) → ◌≡◌ {A = Option Reply} (Some a) (Some b) → a ≡ b
one_some a b e = cc

pub returns-in-Ok-Some : goal.returns-in-Ok-Some
returns-in-Ok-Some c =
    λ message text message_id kept.
    let back = c.in-Ok-Some.ensures.back kept.answer kept.keeps.made (c.as_str.ensures.value ∙ kept.keeps.reply) in
    let same : kept.answer ≡ c.in-Ok-Some.reply = one_some kept.answer c.in-Ok-Some.reply (sym back ∙ c.in-Ok-Some.field-0-is) in
    again_kept json_texts c.args.kept.now message c.in-Ok-Some.reply
    (subst IsMade same kept.keeps.made)
    (c.is_same.ensures.same c.if-not-is_same.false ∙ text)
    (kept.keeps.reply ∙ ap json_texts.of_reply same)
