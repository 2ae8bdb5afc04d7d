-- The text that is printed of a reply, and the reply that a kept text is.
use Rattle.std.proofs.Common.{◌≡◌, ap, ◌∙◌, Bool, true, false, Some}
use Rattle.std.specs.Prelude.{option_and_then}
use Rattle.json.specs.Print.{print}
use Rattle.json.specs.Tree.{json_tokens}
use Rattle.serde_json.specs.Written.{compact_text, outline}
use Rattle.serde_json.proofs.Texts.{print-outline}
use Rattle.shop_records.specs.declared.journal.ReportedEntry.{ReportedEntry}
use Rattle.shop_records.specs.declared.messages.Reply.{Reply}
use Rattle.shop_records.specs.Messages.{IsMade}
use Rattle.shop_forms.specs.Forms.{entry_data, reply_of, reply_data, json_texts, kept_reply_of}
use Rattle.shop_forms.proofs.Back.{reply_back, reply_text_read}

pub reply_text_printed : (answer : Reply) → print (json_tokens (outline (reply_data answer))) ≡ json_texts.of_reply answer
unfolding json_texts
reply_text_printed answer = print-outline (reply_data answer)

pub entry_text_printed : (reported : ReportedEntry) → print (json_tokens (outline (entry_data reported))) ≡ compact_text (entry_data reported)
entry_text_printed reported = print-outline (entry_data reported)

pub kept_back : (answer : Reply) → IsMade answer → kept_reply_of (json_texts.of_reply answer) ≡ Some answer
unfolding json_texts
kept_back answer h = ap (option_and_then reply_of) (reply_text_read answer h) ∙ reply_back answer h

pub not_memory : {M : Type 0} (b : Bool) → (M → b ≡ true) → b ≡ false → ¬ M
not_memory b reported is m = cc (reported m)
