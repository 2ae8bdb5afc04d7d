-- The words of commands.
use Rattle.std.specs.Prelude.{ℕ, List, codes}
use Rattle.shop_records.specs.declared.messages.Command.{Command}
use Rattle.shop_records.specs.declared.messages.Command.TheVariants.{AddMaterial, Receive, AddOrder, Reserve, Done, Break, Release, Scrap, GiveBack, Import, Amend, Undo, Note, Extend, Begin}
use Rattle.shop_records.specs.declared.journal.Word.{Word}
use Rattle.shop_records.specs.declared.journal.Word.TheVariants as word

-- the text of a word
abbrev pub word_name : Word → List ℕ
word_name word.Material = codes "material"
word_name word.Receive = codes "receive"
word_name word.Order = codes "order"
word_name word.Reserve = codes "reserve"
word_name word.Done = codes "done"
word_name word.Break = codes "break"
word_name word.Release = codes "release"
word_name word.Scrap = codes "scrap"
word_name word.Return = codes "return"
word_name word.Import = codes "import"
word_name word.Amend = codes "amend"
word_name word.Undo = codes "undo"
word_name word.Note = codes "note"
word_name word.Extend = codes "extend"
word_name word.Begin = codes "begin"

-- the word of a command
abbrev pub word_of : Command → Word
word_of (AddMaterial material kind kerf min_long min_short) = word.Material
word_of (Receive material batch w h count) = word.Receive
word_of (AddOrder order lines) = word.Order
word_of (Reserve part text) = word.Reserve
word_of (Done number) = word.Done
word_of (Break number halt rest) = word.Break
word_of (Release number) = word.Release
word_of (Scrap part) = word.Scrap
word_of (GiveBack part) = word.Return
word_of (Import order form text) = word.Import
word_of (Amend demand wanted) = word.Amend
word_of (Undo number) = word.Undo
word_of (Note order due text) = word.Note
word_of (Extend order lines) = word.Extend
word_of (Begin number) = word.Begin
