-- The materials of a shop file, added as messages of terminal 0.
use Rattle.std.specs.Prelude.{◌≡◌, ℕ, suc, ◌+◌, ◌<◌, List, [], ◌∷◌, length, take, All, Some, None, get_or}
use Rattle.shop_files.specs.declared.shops.MaterialEntry.{MaterialEntry}
use Rattle.shop_records.specs.declared.messages.Command.TheVariants.{AddMaterial}
use Rattle.shop_records.specs.declared.messages.Message.{Message}
use Rattle.shop_records.specs.declared.messages.Reply.{Reply}
use Rattle.shop_records.specs.Messages.{refusal_in}
use Rattle.shop_records.specs.WellFormed.{IsWellFormed}
use Rattle.shop_desk.specs.Handled.{HasRun}
use Rattle.shop_forms.specs.Forms.{json_texts}
use Rattle.shop_book.specs.declared.books.Book.{Ghosts}
use Rattle.shop_book.specs.Kept.{OnContent}
use Rattle.shop_opening.specs.declared.shops.AddFault.{AddFault}
use Rattle.shop_opening.specs.declared.shops.AddFault.TheVariants.{NoMemory, Refused}
use Rattle.shop_opening.specs.declared.shops.EntryRefused.{EntryRefused}

-- an entry as the message of this number of terminal 0
abbrev pub message_of : ℕ → MaterialEntry → Message
message_of number e = record { terminal = 0; number = number; command = AddMaterial e.code e.kind e.kerf e.min_long e.min_short }

-- entries as messages, numbered from this one on
abbrev pub messages_from : ℕ → List MaterialEntry → List Message
messages_from number [] = []
messages_from number (e ∷ es) = message_of number e ∷ messages_from (suc number) es

-- the messages of a shop file: the first is number 1
abbrev pub shop_messages : List MaterialEntry → List Message
shop_messages entries = messages_from 1 entries

abbrev pub IsAccepted : Reply → Type 0
IsAccepted answer = refusal_in answer ≡ None

-- the reply of this number, from 1, is this refusal, and those before it are none
pub record IsFirstRefused (replies : List Reply) (e : EntryRefused) : Type 0 where
  pub at : ℕ
  pub number : e.entry ≡ at + 1
  pub there : at < length replies
  pub refused : (d : Reply) → refusal_in (get_or replies at d) ≡ Some e.refusal
  pub before : All IsAccepted (take at replies)

-- The shop's messages were handled, and this holds of the replies: each well-formed content that a book with a clean disk held
-- led to one that it holds now by a run of the machine.
abbrev pub HasShop : {B : Type 0} → Ghosts B → B → B → List MaterialEntry → (List Reply → Type 0) → Type 0
HasShop book before after entries replied =
    (replies : List Reply) × replied replies × OnContent book before after (λ m. IsWellFormed json_texts m → HasRun json_texts book before after m (shop_messages entries) replies)

-- not all are there: nothing was done, or an entry was refused
abbrev pub ShopFailed : {B : Type 0} → Ghosts B → B → B → List MaterialEntry → AddFault → Type 0
ShopFailed book before after entries NoMemory = after ≡ before
ShopFailed book before after entries (Refused e) = HasShop book before after entries (λ replies. IsFirstRefused replies e)
