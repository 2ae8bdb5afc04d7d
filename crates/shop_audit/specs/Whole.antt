-- When a content is whole, and when a book holds what messages gave it that were done anew.
use Rattle.std.specs.Prelude.{◌≡◌, ℕ, List, Some, length}
use Rattle.shop_records.specs.Messages.{Texts}
use Rattle.shop_records.specs.Content.{Content, entry_at, kept_at}
use Rattle.shop_records.specs.WellFormed.{IsWellFormed}
use Rattle.shop_records.specs.declared.journal.Entry.{Entry as EntryRow}
use Rattle.shop_records.specs.declared.texts.Kept.{Kept}
use Rattle.shop_records.specs.declared.texts.MessageId.{MessageId}
use Rattle.shop_machine.specs.History.{Entry, GivesAll, entered_message_ids, message_ids_of}
use Rattle.shop_book.specs.declared.books.Book.{Ghosts}

-- A content is whole where a history gives it of which no entry was forgotten, so that the messages of its entries, in their
-- order, are that history's: both are reported here from the newest on.
pub record IsWhole (texts : Texts) (content : Content) : Type 0 where
  pub history : List Entry
  pub gives : GivesAll texts history content
  pub entries : message_ids_of history ≡ entered_message_ids content

-- a history gives the content, and no entry of it was forgotten
pub record IsGiven (texts : Texts) (content : Content) : Type 0 where
  pub history : List Entry
  pub gives : GivesAll texts history content
  pub well_formed : IsWellFormed texts content

-- the entries of a content, and what it keeps of messages, are in another one
pub record IsWithin (one other : Content) : Type 0 where
  pub entries : (number : ℕ) (entry : EntryRow) → entry_at one number ≡ Some entry → entry_at other number ≡ Some entry
  pub kept : (message_id : MessageId) (row : Kept) → kept_at one message_id ≡ Some row → kept_at other message_id ≡ Some row

-- the book holds a content that a history of so many messages gives, whose entries and what it keeps of them are in this one
pub record HoldsPart {F : Type 0} (texts : Texts) (book : Ghosts F) (whole : Content) (held : F) (count : ℕ) : Type 0 where
  pub content : Content
  pub given : IsGiven texts content
  pub many : length given.history ≡ count
  pub within : IsWithin content whole
  pub holds : book.holds held content
