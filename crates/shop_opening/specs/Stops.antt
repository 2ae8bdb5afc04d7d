-- What a stop leaves of an open store, after messages that were answered.
use Rattle.std.specs.Prelude.{◌≡◌, ◌⊎◌, IsTrue, List, [], ◌∷◌, Some}
use Rattle.sqlite_disk.specs.declared.Disk.{Ghosts as DiskGhosts}
use Rattle.sqlite_store.specs.FileStore as store
use Rattle.sqlite_store.specs.declared.store.FileStore.{FileStore}
use Rattle.sqlite_trees.specs.Tree.{Trees}
use Rattle.sqlite_wal.specs.Recovery.{Image}
use Rattle.sqlite.specs.Files.{file_state}
use Rattle.sqlite.specs.Held.{Held, AreDatabases}
use Rattle.shop_records.specs.declared.messages.Message.{Message}
use Rattle.shop_records.specs.declared.messages.Reply.{Reply}
use Rattle.shop_records.specs.declared.refusals.Refusal.{Refusal}
use Rattle.shop_records.specs.Messages.{refusal_in}
use Rattle.shop_records.specs.Content.{Content}
use Rattle.shop_machine.specs.Machine.{StepNew}
use Rattle.shop_forms.specs.Forms.{json_texts}

-- A stop left this image of the files of a connection: the store that it was over is one from which a crash recovers nothing else
-- than from the connection's, and this is an image that a crash may leave of it.
pub record IsLeftOf {D : Type 0} {g : DiskGhosts D} (last : Held (FileStore D g)) (image : Image) : Type 0 where
  pub taken : FileStore D g
  pub less : (db : Trees) → store.recovers taken db → (file_state last).may_leave db
  pub numbered : IsTrue (store.view taken).is_numbered
  pub sound : AreDatabases (store.recovers taken)
  pub may : (store.state taken).may_leave image

-- this message is one of these, and was refused
abbrev pub WasRefused : List Message → List Reply → Message → Type 0
WasRefused [] answers message = ⊥
WasRefused (m ∷ ms) [] message = ⊥
WasRefused (m ∷ ms) (answer ∷ answers) message =
    ((m ≡ message) × ((refusal : Refusal) × (refusal_in answer ≡ Some refusal))) ⊎ WasRefused ms answers message

-- this content is one step of the machine further, by a message that was refused
pub record IsOneMore (refused : Message → Type 0) (next found : Content) : Type 0 where
  pub message : Message
  pub was : refused message
  pub other : Reply
  pub step : StepNew json_texts next message other found

-- it is the content after the last answer, or one step further
abbrev pub IsAfter : (Message → Type 0) → Content → Content → Type 0
IsAfter refused next found = (found ≡ next) ⊎ IsOneMore refused next found
