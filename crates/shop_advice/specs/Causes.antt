-- What is reported about each cause.
use Rattle.std.specs.Prelude.{ℕ, List, [], ◌∷◌, ◌++◌, codes}
use Rattle.std.specs.Fmt.{signed_decimal}
use Rattle.shop_advice.specs.declared.causes.FileCause.{FileCause}
use Rattle.shop_advice.specs.declared.causes.FileCause.TheVariants as file
use Rattle.shop_advice.specs.declared.causes.StoreCause.{StoreCause}
use Rattle.shop_advice.specs.declared.causes.StoreCause.TheVariants as store
use Rattle.shop_advice.specs.declared.causes.BackupCause.{BackupCause}
use Rattle.shop_advice.specs.declared.causes.BackupCause.TheVariants as backup
use Rattle.shop_advice.specs.declared.causes.RowKey.{RowKey}
use Rattle.shop_advice.specs.declared.causes.RowKey.TheVariants as key
use Rattle.shop_advice.specs.declared.causes.RowName.{RowName}
use Rattle.shop_advice.specs.declared.causes.StoreTable.{StoreTable}
use Rattle.shop_advice.specs.declared.causes.StoreTable.TheVariants as table
use Rattle.shop_advice.specs.declared.causes.VersionCause.{VersionCause}
use Rattle.shop_advice.specs.declared.causes.VersionCause.TheVariants as version
use Rattle.shop_advice.specs.declared.causes.ShopCause.{ShopCause}
use Rattle.shop_advice.specs.declared.causes.ShopCause.TheVariants as shop

-- of a file that can't be read
abbrev pub file_text : FileCause → List ℕ
file_text file.Missing = codes "there is no such file"
file_text file.Folder = codes "it is a folder; name a file"
file_text file.NotAllowed = codes "this account may not read it"
file_text file.Long = codes "it is over 1048576 bytes long"
file_text file.NoText = codes "it is no UTF-8 text"
file_text file.Unreadable = codes "it can't be read"

-- of a store that can't be opened
abbrev pub store_text : StoreCause → List ℕ
store_text store.NoFolder = codes "its folder isn't there; make it first"
store_text store.Folder = codes "it is a folder; name a file in it"
store_text store.NotAllowed = codes "this account may not read and write it, or may not write in its folder"
store_text store.ReadOnly = codes "its disk is read-only"
store_text store.InUse = codes "another program has it open"
store_text store.Journal = codes "a rollback journal lies beside it; open it once with sqlite3"
store_text store.NotPlain = codes "it is no plain file with one name; name one, and no hard link to it"
store_text store.Missing = codes "there is no such store"
store_text store.DanglingLink = codes "it is a link to a file that isn't there"
store_text store.NoLog = codes "its log isn't beside it; put both files of a copy in place, or an empty file FILE-wal where there is none"
store_text store.LoneLog = codes "a log lies there without its store; put the store beside it"
store_text store.DamagedLog = codes "its log is damaged; put a copy of it and its log in its place"
store_text store.OtherForm = codes "it is a database of another form than cutshop's; name another file"
store_text store.Bound = codes "it has a trigger or a view on the shop's tables; take it away with sqlite3"
store_text store.NoDatabase = codes "it is no SQLite database; name another file"
store_text store.Damaged = codes "it or its disk is damaged; put a copy of it and its log in its place"
store_text store.Full = codes "the disk is full; make room"
store_text store.Moved = codes "other files have its names now; start this program anew"
store_text store.Before = codes "put FILE.before away first"
store_text store.Failed = codes "it or its log can't be read and written; look at the permissions of both and of their folder, and at the room on their disk"

-- of a folder in which no backup can be made, or that is none
abbrev pub backup_text : BackupCause → List ℕ
backup_text backup.NoFolder = codes "it isn't there; make it first"
backup_text backup.Other = codes "it is no folder; name one"
backup_text backup.NotAllowed = codes "this account may not read it and make files in it"
backup_text backup.ReadOnly = codes "its disk is read-only"
backup_text backup.Full = codes "its disk is full; make room"
backup_text backup.Open = codes "others may write in it"
backup_text backup.Another = codes "the folder is another than at the start; is its disk mounted?"
backup_text backup.NoNumber = codes "each number up to 1000000 is taken; name another folder"
backup_text backup.Moved = codes "the store's names lead to other files than those that are open; start this program anew"
backup_text backup.Unread = codes "the store and its log can't be read"
backup_text backup.NoBackup = codes "it is no backup"
backup_text backup.Failed = codes "files can't be made in it"

-- of a database that has other tables
abbrev pub version_text : VersionCause → List ℕ
version_text version.Newer = codes "a newer cutshop made it; run that one"
version_text version.Foreign = codes "it has the tables of another program; name another file"
version_text version.Contradicting = codes "its totals or rows contradict each other; put a copy of it and its log in its place"
version_text (version.Row row) = codes "a row stands for nothing that a shop has; put a copy of it and its log in its place: "

-- a table's name in the store
abbrev pub table_text : StoreTable → List ℕ
table_text table.Materials = codes "materials"
table_text table.Parts = codes "parts"
table_text table.Jobs = codes "jobs"
table_text table.Orders = codes "orders"
table_text table.Demands = codes "demands"
table_text table.Journal = codes "journal"
table_text table.Begun = codes "begun"
table_text table.Notes = codes "notes"

-- a key behind a space, where it is one
abbrev pub key_text : RowKey → List ℕ
key_text key.Unknown = []
key_text (key.Number n) = 32 ∷ signed_decimal n
key_text (key.Part act node) = 32 ∷ signed_decimal act ++ 47 ∷ signed_decimal node
key_text (key.Code code) = 32 ∷ code

-- which row it is: its table and, behind a space, its key, where that is one
abbrev pub row_text : RowName → List ℕ
row_text row = table_text row.table ++ key_text row.key

-- of a shop file; after some stands a key, or what TOML wants
abbrev pub shop_text : ShopCause → List ℕ
shop_text shop.Long = codes "it is over 65536 bytes long"
shop_text shop.NoText = codes "it is no UTF-8 text"
shop_text shop.NoDocument = codes "it is no TOML: "
shop_text shop.OtherKey = codes "write [[material]] above each material, and no key named "
shop_text shop.NoList = codes "material is no list; write [[material]] above each material"
shop_text shop.Many = codes "it has over 1000 materials"
shop_text shop.NoTable = codes "it is no table; write [[material]] above each material"
shop_text shop.UnknownKey = codes "no key is named "
shop_text shop.MissingKey = codes "the material has no key "
shop_text shop.Code = codes "the code is 1 to 16 of A-Z, 0-9 and -; write it as \"STEEL-40\""
shop_text shop.Kind = codes "the kind is \"bar\" or \"sheet\""
shop_text shop.Length = codes "write millimetres as a text, as \"1250.5\", with 1 to 6 digits, and one behind a point: "
shop_text shop.Changed = codes "it was changed meanwhile; start again"
