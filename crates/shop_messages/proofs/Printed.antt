-- The text that is printed of a message.
use Rattle.std.proofs.Common.{◌≡◌}
use Rattle.json.specs.Print.{print}
use Rattle.json.specs.Tree.{json_tokens}
use Rattle.serde_json.specs.Written.{outline}
use Rattle.serde_json.proofs.Texts.{print-outline}
use Rattle.shop_records.specs.declared.messages.Message.{Message}
use Rattle.shop_forms.specs.Forms.{message_data, json_texts}

pub message_text_printed : (message : Message) → print (json_tokens (outline (message_data message))) ≡ json_texts.of_message message
unfolding json_texts
message_text_printed message = print-outline (message_data message)
