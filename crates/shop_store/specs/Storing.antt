-- The tables' answers as a storage's, and what it remembers of the entries.
use Rattle.std.specs.Prelude.{◌≡◌, Result, Ok, Err}
use Rattle.sqlite.specs.State.{State, HasCleanDisk}
use Rattle.shop_records.specs.Content.{Content, entry_count, last_time}
use Rattle.shop_records.specs.Lists.{entries_behind}
use Rattle.shop_tables.specs.Held.{HoldsContent}
use Rattle.shop_book.specs.Ends.{AreEnds}
use Rattle.shop_book.specs.FiledEntries.{AreEntriesFiled}
use Rattle.shop_book.specs.declared.storage.StorageFault.{StorageFault}
use Rattle.shop_book.specs.declared.storage.StorageFault.TheVariants as storage
use Rattle.shop_statements.specs.declared.faults.TableFault.{TableFault}
use Rattle.shop_statements.specs.declared.faults.TableFault.TheVariants as table
use Rattle.shop_store.specs.declared.remembered.Remembered.{Remembered}

-- These are the number and the time of a content's last entry, 0 and 0 where there is none, and the times of the first entries
-- of messages that ended jobs; and each entry is filed.
pub record IsRemembered (m : Content) (it : Remembered) : Type 0 where
  pub of_last : it.number ≡ entry_count m
  pub time : it.at ≡ last_time m
  pub of_jobs : AreEnds (entries_behind m 0) it.ends
  pub filed : AreEntriesFiled it.index (entries_behind m 0)

-- the connection holds the content and, unless the disk failed, this is what is remembered of its entries
abbrev pub HoldsTables : State → Remembered → Content → Type 0
HoldsTables s it m = HoldsContent s m × (HasCleanDisk s → IsRemembered m it)

abbrev pub fault_by_tables : TableFault → StorageFault
fault_by_tables table.NoMemory = storage.NoMemory
fault_by_tables table.Store = storage.Store

abbrev pub read_by_tables : {T : Type 0} → Result T TableFault → Result T StorageFault
read_by_tables (Ok x) = Ok x
read_by_tables (Err fault) = Err (fault_by_tables fault)
