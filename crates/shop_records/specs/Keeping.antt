-- What rows of texts keep: an accepted message with its reply, and the reply to an import.
use Rattle.std.specs.Prelude.{◌≡◌, ◌≢◌, Option, Some, None}
use Rattle.shop_records.specs.declared.texts.Kept.{Kept}
use Rattle.shop_records.specs.declared.imports.ImportRow.{ImportRow}
use Rattle.shop_records.specs.declared.messages.Message.{Message}
use Rattle.shop_records.specs.declared.messages.Reply.{Reply}
use Rattle.shop_records.specs.Messages.{Texts, IsMade}

-- the row keeps this message with this reply
pub record KeepsReply (texts : Texts) (row : Kept) (message : Message) (answer : Reply) : Type 0 where
  pub made : IsMade answer
  pub command : row.command ≡ texts.of_message message
  pub reply : row.reply ≡ texts.of_reply answer

-- the reply that a kept import's row stores, or that it stores none
abbrev pub StoresReply : Texts → ImportRow → Option Reply → Type 0
StoresReply texts row (Some answer) = IsMade answer × (row.reply ≡ texts.of_reply answer)
StoresReply texts row None = (answer : Reply) → IsMade answer → row.reply ≢ texts.of_reply answer
