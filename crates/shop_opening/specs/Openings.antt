-- What the files of a store show, what an opening of them gives, and why there is none.
use Rattle.std.specs.Prelude.{◌≡◌, ◌≢◌, ◌⊎◌, ℕ, List, [], Option, IfSome, Result, Ok, Err}
use Rattle.std.specs.FinMap.{FinMap, empty}
use Rattle.sqlite_disk.specs.declared.Disk.{Ghosts as DiskGhosts}
use Rattle.sqlite_disk.specs.declared.Files.{Files}
use Rattle.sqlite_store.specs.declared.store.FileStore.{FileStore}
use Rattle.sqlite_trees.specs.Tree.{Trees}
use Rattle.sqlite_trees.specs.declared.store.Store.{Ghosts as StoreGhosts}
use Rattle.sqlite_wal.specs.Recovery.{Image}
use Rattle.sqlite_wal.specs.Files.{outcomes}
use Rattle.sqlite.specs.declared.error.Error.{Error}
use Rattle.sqlite.specs.declared.error.Error.TheVariants.{SqliteFailure}
use Rattle.sqlite.specs.declared.error.ErrorCode.{ErrorCode}
use Rattle.sqlite.specs.declared.error.ErrorCode.TheVariants.{OutOfMemory, DatabaseBusy, DiskFull, NotADatabase, DatabaseCorrupt}
use Rattle.sqlite.specs.declared.file.Leftover.{Leftover}
use Rattle.sqlite.specs.Files.{file_state, image_of, FailsToOpenFiles, HoldsDatabase, IsCleanLeft, IsEmpty, IsNothing, LeavesFiles}
use Rattle.sqlite.specs.Held.{Held}
use Rattle.sqlite.specs.State.{State, HasCleanDisk}
use Rattle.cut_measure.specs.Codes.{code_cmp}
use Rattle.shop_records.specs.Content.{Content, fresh}
use Rattle.shop_records.specs.WellFormed.{HasLines}
use Rattle.shop_records.specs.declared.records.Totals.{Totals}
use Rattle.shop_statements.specs.Earlier.{StandsInEarlier, StandsInSecond}
use Rattle.shop_statements.specs.Shown.{Books}
use Rattle.shop_tables.specs.Changing.{HasSums}
use Rattle.shop_tables.specs.Held.{books, HoldsContent, LeavesOnly, StandsFor}
use Rattle.shop_book.specs.declared.ledger.Ledger.{Ledger}
use Rattle.shop_store.specs.SqlBooks.{HoldsLedger}
use Rattle.shop_store.specs.declared.posted.LedgerBook.{LedgerBook}
use Rattle.shop_store.specs.declared.remembered.Remembered.{Remembered}
use Rattle.shop_store.specs.declared.sql_storage.SqlStorage.{SqlStorage}
use Rattle.shop_book.specs.declared.books.BookFault.{BookFault}
use Rattle.shop_book.specs.declared.books.BookFault.TheVariants as book
use Rattle.shop_advice.specs.declared.causes.StoreCause.{StoreCause}
use Rattle.shop_advice.specs.declared.causes.StoreCause.TheVariants.{InUse, Full, NoDatabase, Damaged}
use Rattle.shop_advice.specs.declared.causes.VersionCause.{VersionCause}
use Rattle.shop_opening.specs.declared.stores.OpenFault.{OpenFault}
use Rattle.shop_opening.specs.declared.stores.OpenFault.TheVariants.{NoMemory, Store, Version}

-- ---- what files show

-- The trees stand in an older version for the content, whose orders have their lines, and for the sums of its parts as totals.
pub record StandsForOlder (Stands : Trees → Books → Type 0) (db : Trees) (m : Content) : Type 0 where
  pub lines : HasLines m
  pub totals : FinMap code_cmp Totals
  pub sums : HasSums (books m totals empty)
  pub stands : Stands db (books m totals empty)

-- in version 2 or in version 1, in which there is no entry
abbrev pub StandsForEarlier : Trees → Content → Type 0
StandsForEarlier db m = StandsForOlder StandsInSecond db m ⊎ StandsForOlder StandsInEarlier db m

-- The trees stand for the content, in version 3, or in version 2 or 1; or there are no tables, and nothing was done yet.
abbrev pub ShowsIn : Trees → Content → Type 0
ShowsIn db m = StandsFor db m ⊎ (StandsForEarlier db m ⊎ (IsEmpty db × (m ≡ fresh)))

-- The files hold a database that shows the content; or they hold none yet, and nothing was done yet.
abbrev pub ShowsContent : Image → Content → Type 0
ShowsContent image m = ((db : Trees) × HoldsDatabase image db × ShowsIn db m) ⊎ (IsNothing image × (m ≡ fresh))

-- ---- what an opening gives

-- Files with this image were opened as a book over this connection, with this as what is remembered of its entries, and with this
-- ledger. It holds each content that they showed, what a crash leaves of it stands for that alone, and no failure is counted
-- yet.
pub record IsOpenedOn {D : Type 0} {g : DiskGhosts D} (image : Image) (conn : Held (FileStore D g)) (it : Remembered) (ledger : Ledger) (failures : ℕ) : Type 0 where
  pub holds : (m : Content) → ShowsContent image m → HoldsLedger (file_state conn) it ledger m
  pub leaves : (m : Content) → ShowsContent image m → LeavesOnly (file_state conn) m
  pub uncounted : failures ≡ 0

-- files that hold these bytes
abbrev pub pair_image : (log store : List ℕ) → Image
pair_image log store = record { log = log; db = store }

-- Files in memory were opened as a book over this connection, as files with some bytes are. Of a real file no bytes are reported, so
-- that it is not said with which.
abbrev pub IsBookApart : {D : Type 0} {g : DiskGhosts D} → Held (FileStore D g) → Remembered → Ledger → ℕ → Type 0
IsBookApart conn it ledger failures = (log store : List ℕ) × IsOpenedOn (pair_image log store) conn it ledger failures

-- ---- what a close leaves

-- A connection was closed, and these are its files: the store's file alone, without a log, shows each content that it held, as it reads
-- now and after a crash.
pub record IsMerged {D : Type 0} {g : DiskGhosts D} (conn : Held (FileStore D g)) (files : Files D) : Type 0 where
  pub alone : (m : Content) → HoldsContent (file_state conn) m → ∥ ShowsContent (record (image_of g files) { log = [] }) m ∥₁
  pub crash : (m : Content) → HoldsContent (file_state conn) m → (image : Image) → outcomes g files.log files.db image → ∥ ShowsContent (record image { log = [] }) m ∥₁

-- ---- why there is none

-- what a refusal of the port with this code is: lack of memory is reported as that, and every other refusal as the store's, by its
-- cause as far as the code reports it
pub record IsCodeFault (code : ErrorCode) (fault : OpenFault) : Type 0 where
  pub memory : code ≡ OutOfMemory → fault ≡ NoMemory
  pub used : code ≡ DatabaseBusy → fault ≡ Store InUse
  pub full : code ≡ DiskFull → fault ≡ Store Full
  pub damaged : (code ≡ NotADatabase) ⊎ (code ≡ DatabaseCorrupt) → (fault ≡ Store NoDatabase) ⊎ (fault ≡ Store Damaged)
  pub other : code ≢ OutOfMemory → (cause : StoreCause) × (fault ≡ Store cause)

-- what a refusal of the port is: one by a code is what that is, and any other the store's
pub record IsOpenFault (error : Error) (fault : OpenFault) : Type 0 where
  pub coded : (code : ErrorCode) → error ≡ SqliteFailure code → IsCodeFault code fault
  pub other : ((code : ErrorCode) → error ≢ SqliteFailure code) → (cause : StoreCause) × (fault ≡ Store cause)

-- what is reported about files that were looked at, and not opened
abbrev pub IsLookFault : OpenFault → Type 0
IsLookFault fault = (fault ≡ NoMemory) ⊎ ((cause : StoreCause) × (fault ≡ Store cause))

-- what it is that the tables weren't taken over
abbrev pub IsAdoptFault : BookFault → OpenFault → Type 0
IsAdoptFault book.NoMemory fault = fault ≡ NoMemory
IsAdoptFault book.Store fault = (fault ≡ Store Full) ⊎ (fault ≡ Store Damaged)
IsAdoptFault book.WrongVersion fault = (cause : VersionCause) × (fault ≡ Version cause)

-- what a crash leaves shows the content
abbrev pub LeavesShown : State → Content → Type 0
LeavesShown s m = HasCleanDisk s → (db : Trees) → s.may_leave db → ShowsIn db m

module _ {D : Type 0} {g : DiskGhosts D} (image : Image) where
  -- The port refused files with this image by this error, and this is left of them: they can be opened as before, as the port has
  -- it (`LeavesFiles`), and it had this cause.
  abbrev pub IsPortLeft : Error → Leftover D g → Type 0
  IsPortLeft error left =
      (files : Files D) × (image_of g files ≡ image) × (IsCleanLeft left → FailsToOpenFiles files left error × LeavesFiles files left)

  -- The tables of files with this image weren't taken over. A crash leaves what shows each content that they showed; and none that
  -- show one are refused for their version.
  pub record AreTablesLeft (why : BookFault) (last : Held (FileStore D g)) : Type 0 where
    pub leaves : (m : Content) → ShowsContent image m → LeavesShown (file_state last) m
    pub version : why ≡ book.WrongVersion → HasCleanDisk (file_state last) → (m : Content) → ShowsContent image m → ⊥

-- Files with this image weren't opened as a book, and this is the fault: the port refused them, or their tables weren't taken over.
abbrev pub AreRefused : {D : Type 0} → DiskGhosts D → Image → OpenFault → Type 0
AreRefused {D = D} g image fault =
    ((error : Error) × (left : Option (Leftover D g)) × IfSome left (IsPortLeft image error) × IsOpenFault error fault)
    ⊎ ((why : BookFault) × (last : Held (FileStore D g)) × AreTablesLeft image why last × IsAdoptFault why fault)

-- What an opening of files with this image comes to: a book that is open on them, or the fault for which there is none.
abbrev pub IsOpening : {D : Type 0} {g : DiskGhosts D} {s : StoreGhosts (FileStore D g)} → Image → Result (LedgerBook (SqlStorage (FileStore D g) s)) OpenFault → Type 0
IsOpening image (Ok book) = IsOpenedOn image book.storage.conn book.storage.remembered book.ledger book.failures
IsOpening {g = g} image (Err fault) = AreRefused g image fault
