-- What the commands on a store do: tickets, yield reports, and serving. A real file reports no bytes and a real store no content, so what was
-- read is said of the bytes that a reader of files may find at a path, and what was opened of what a store's opener may give.
use Rattle.std.specs.Prelude.{◌≡◌, ◌≤◌, ◌⊎◌, None, Some, length, ℕ, List, ◌++◌, codes, string_bytes, is_some, Option, Result, Ok, Err, All}
use Rattle.std.specs.Fmt.{decimal}
use Rattle.shop_files.specs.Shops.{IsShopFile, IsShopFault}
use Rattle.shop_files.specs.declared.limits.TheConstants.{MAX_TEXT_LEN}
use Rattle.shop_files.specs.declared.shops.MaterialEntry.{MaterialEntry}
use Rattle.shop_files.specs.declared.shops.ShopFault.{ShopFault}
use Rattle.shop_records.specs.Content.{Content}
use Rattle.shop_records.specs.declared.refusals.Refusal.{Refusal}
use Rattle.shop_request.specs.Guards.{IsGuardOf}
use Rattle.shop_request.specs.declared.addresses.Address.{Address}
use Rattle.shop_serve.specs.Runs.{IsRun}
use Rattle.shop_serve.specs.Serving.{HasServed, most_served}
use Rattle.shop_serve.specs.Sites.{HasPage}
use Rattle.shop_serve.specs.declared.ports.PortCause.{PortCause}
use Rattle.shop_serve.specs.declared.ports.PortCause.TheVariants as port_cause
use Rattle.shop_serve.specs.declared.sites.Site.{Site}
use Rattle.shop_advice.specs.declared.causes.BackupCause.{BackupCause}
use Rattle.shop_advice.specs.declared.causes.StoreCause.TheVariants as store_cause
use Rattle.shop_commands.specs.declared.files.TheConstants.{MAX_PAGE_LEN}
use Rattle.shop_words.specs.declared.words.Serving.{Serving}
use Rattle.shop_words.specs.declared.words.TheConstants.{VERSION}
use Rattle.shop_opening.specs.declared.shops.EntryRefused.{EntryRefused}
use Rattle.shop_opening.specs.declared.stores.OpenFault.{OpenFault}
use Rattle.shop_opening.specs.Shops.{HasShop, IsAccepted, IsFirstRefused}
use Rattle.shop_book.specs.declared.books.Book.{Ghosts}
use Rattle.shop_book.specs.declared.books.BookFault.{BookFault}
use Rattle.shop_book.specs.Failures.{CountsFailure}
use Rattle.shop_book.specs.Kept.{Unchanged, OnContent}
use Rattle.shop_text.specs.Printing.{CountsPrint, IsPrinted}
use Rattle.shop_text.specs.Tickets.{ticket_of}
use Rattle.shop_text.specs.Yields.{yield_of}
use Rattle.shop_text.specs.declared.printing.PrintFault.{PrintFault}
use Rattle.shop_text.specs.declared.printing.PrintFault.TheVariants as print
use Rattle.shop_commands.specs.declared.faults.Fault.{Fault}
use Rattle.shop_commands.specs.declared.faults.Fault.TheVariants.{File, Entry, Refused, Write, NoMemory, Store, Port, Backup}
use Rattle.shop_commands.specs.declared.stored.StoreText.{StoreText}
use Rattle.shop_commands.specs.declared.stored.StoreText.TheVariants.{Ticket, Yield}
use Rattle.shop_commands.specs.Faults.{shop_fault, store_fault}
use Rattle.shop_commands.specs.Sinks.{SinkChange, Adds, AddsPrefix, AddsNone, SinkFailed}

-- bytes that a shop file holds spell these entries
abbrev pub IsShopRead : (holds : List ℕ → ℕ → List ℕ → Type 0) → (path : List ℕ) → List MaterialEntry → Type 0
IsShopRead holds path entries = (bytes : List ℕ) × holds path MAX_TEXT_LEN bytes × IsShopFile bytes entries

-- the shop file can't be read, or bytes that it holds have this fault
abbrev pub IsShopUnread : (holds : List ℕ → ℕ → List ℕ → Type 0) → (path : List ℕ) → Fault → Type 0
IsShopUnread holds path fault =
    ((fault ≡ NoMemory) ⊎ (fault ≡ File)) ⊎ ((bytes : List ℕ) × holds path MAX_TEXT_LEN bytes × (f : ShopFault) × IsShopFault bytes f × (fault ≡ shop_fault f))

-- a page is asked for, and these are the bytes of its file, which isn't too long; or none is
abbrev pub IsPageRead : (holds : List ℕ → ℕ → List ℕ → Type 0) → (path page : Option (List ℕ)) → Type 0
IsPageRead holds None page = page ≡ None
IsPageRead holds (Some path) page = (bytes : List ℕ) × (page ≡ Some bytes) × holds path MAX_PAGE_LEN bytes × (length bytes ≤ MAX_PAGE_LEN)

-- the page can't be read, is too long, or memory ran out
abbrev pub IsPageUnread : Fault → Type 0
IsPageUnread fault = (fault ≡ NoMemory) ⊎ (fault ≡ File)

-- the files of a store that was opened aren't found under its names
abbrev pub IsUnnamed : Fault → Type 0
IsUnnamed fault = (fault ≡ NoMemory) ⊎ (fault ≡ Store store_cause.Moved)

-- no backup can be made in the folder, or memory ran out
abbrev pub IsUnbacked : Fault → Type 0
IsUnbacked fault = (fault ≡ NoMemory) ⊎ ((cause : BackupCause) × (fault ≡ Backup cause))

-- memory ran out before a run was drawn, or the system gives none
abbrev pub IsUndrawn : Fault → Type 0
IsUndrawn fault = (fault ≡ NoMemory) ⊎ (fault ≡ Port port_cause.NoRun)

-- where a server is reached that is asked for
abbrev pub IsAddressOf : Serving → Address → Type 0
IsAddressOf s address = (address.port ≡ s.port) × (address.hosts.now ≡ s.hosts.items) × (address.origins.now ≡ s.origins.items)

-- what is served at an address, with the page of a path, and with backups where there is a folder for them; under some run
abbrev pub IsSite : (holds : List ℕ → ℕ → List ℕ → Type 0) → Address → (path folder : Option (List ℕ)) → Site → Type 0
IsSite holds address path folder site =
    ((page : Option (List ℕ)) × IsPageRead holds path page × HasPage site page × IsGuardOf address (is_some page) (is_some folder) (string_bytes site.run) site.guard)
    × IsRun (string_bytes site.run) × (string_bytes site.version ≡ VERSION.now)

-- the opener gave no book, and this reports why
abbrev pub IsUnopened : {B : Type 0} → (Result B OpenFault → Type 0) → Fault → Type 0
IsUnopened gives fault = (why : OpenFault) × gives (Err why) × (fault ≡ store_fault why)

abbrev pub listening_line : ℕ → List ℕ
listening_line port = codes "listening on 127.0.0.1:" ++ decimal port ++ codes "\n"

-- the port can't be listened to, or memory for its line runs out, or the line can't be written
abbrev pub IsUnannounced : ℕ → Fault → (out : SinkChange) → Type 0
IsUnannounced port fault out =
    ((((cause : PortCause) × (fault ≡ Port cause)) ⊎ (fault ≡ NoMemory)) × AddsNone out) ⊎ ((fault ≡ Write) × AddsPrefix out (listening_line port) × SinkFailed out)

-- the text that is asked for of a content, or why there is none
abbrev pub text_of : StoreText → Content → Result (List ℕ) Refusal
text_of (Ticket job) m = ticket_of m job
text_of (Yield material) m = yield_of m material

module _ {B : Type 0} (book : Ghosts B) where
  -- What was to be said of a book was printed or not: so it is for each content that it held, if its disk is still clean; a
  -- refusal writes nothing, and after `Write` a write had failed. The book is as it was, and a failure is counted only with 99.
  pub record Prints (before after : B) (said : Content → Result (List ℕ) Refusal) (out : SinkChange) (result : Result (Unit {0}) PrintFault) : Type 0 where
    pub printed : OnContent book before after (λ m. IsPrinted (book.failed before) (book.failed after) out.old out.new result (said m))
    pub refused : (refusal : Refusal) → result ≡ Err (print.Refused refusal) → AddsNone out
    pub write : result ≡ Err print.Write → SinkFailed out
    pub keeps : Unchanged book (CountsPrint result) before after

  -- A book that the opener gave was printed from: on each content that it held, with a clean disk, this came of what there is
  -- to say. It holds what it held, a crash leaves nothing that it couldn't before, and a failure is counted only with 99.
  pub record IsPrintedFrom (gives : Result B OpenFault → Type 0) (said : Content → Result (List ℕ) Refusal) (out : SinkChange) (result : Result (Unit {0}) PrintFault) : Type 0 where
    pub before : B
    pub after : B
    pub given : gives (Ok before)
    pub printed : OnContent book before after (λ m. IsPrinted (book.failed before) (book.failed after) out.old out.new result (said m))
    pub keeps : Unchanged book (CountsPrint result) before after

  abbrev pub IsTextDone : (Result B OpenFault → Type 0) → (Content → Result (List ℕ) Refusal) → (out : SinkChange) → Type 0
  IsTextDone gives said out = IsPrintedFrom gives said out (Ok tt)

  -- a store that isn't opened and a refusal write nothing, and a failed write leaves a first part
  abbrev pub IsTextStopped : (Result B OpenFault → Type 0) → (Content → Result (List ℕ) Refusal) → Fault → (out : SinkChange) → Type 0
  IsTextStopped gives said fault out =
      (IsUnopened gives fault × AddsNone out)
      ⊎ (((r : Refusal) × (fault ≡ Refused r) × IsPrintedFrom gives said out (Err (print.Refused r)) × AddsNone out)
      ⊎ ((fault ≡ Write) × IsPrintedFrom gives said out (Err print.Write) × SinkFailed out))

  -- All entries are there, as the machine has it.
  abbrev pub IsShopped : B → B → List MaterialEntry → Type 0
  IsShopped before after entries = HasShop book before after entries (All IsAccepted)

  -- The entries are there, the port was reported, it was looked how many messages are kept, which changes nothing, and at most as many
  -- requests were served as the limit says.
  pub record IsBookServed (site : Site) (before after : B) (entries : List MaterialEntry) (port : ℕ) (limit : Option ℕ) (out : SinkChange) : Type 0 where
    pub mid : B
    pub shop : IsShopped before mid entries
    pub reported : Adds out (listening_line port)
    pub counted : B
    pub count : Result ℕ BookFault
    pub keeps : Unchanged book (CountsFailure count) mid counted
    pub dated : B
    pub last : Result (ℕ × ℕ) BookFault
    pub dates : Unchanged book (CountsFailure last) counted dated
    pub served : HasServed site book dated after (most_served limit)

  -- memory ran out, and nothing was done, or an entry was refused
  abbrev pub AddFailed : B → B → List MaterialEntry → Fault → Type 0
  AddFailed before after entries fault =
      ((fault ≡ NoMemory) × (after ≡ before)) ⊎ ((e : EntryRefused) × (fault ≡ Entry e) × HasShop book before after entries (λ replies. IsFirstRefused replies e))

  -- memory ran out before the first connection; or no more could be accepted, or the store's names led to other files
  abbrev pub IsUnaccepted : Site → B → B → Option ℕ → Fault → Type 0
  IsUnaccepted site before after limit fault = ((fault ≡ NoMemory) × (after ≡ before)) ⊎ (((fault ≡ Port port_cause.Refused) ⊎ (fault ≡ Store store_cause.Moved)) × HasServed site book before after (most_served limit))

  -- the same, but that serving stopped
  pub record IsBookLeft (site : Site) (before after : B) (entries : List MaterialEntry) (port : ℕ) (limit : Option ℕ) (fault : Fault) (out : SinkChange) : Type 0 where
    pub mid : B
    pub shop : IsShopped before mid entries
    pub reported : Adds out (listening_line port)
    pub counted : B
    pub count : Result ℕ BookFault
    pub keeps : Unchanged book (CountsFailure count) mid counted
    pub dated : B
    pub last : Result (ℕ × ℕ) BookFault
    pub dates : Unchanged book (CountsFailure last) counted dated
    pub left : IsUnaccepted site dated after limit fault

  -- the store's names lead to other files by now, or no backup can be made of it, and nothing was done; or the entries aren't all there; or they are, and the port isn't reported; or
  -- it is, and serving stopped
  abbrev pub IsBookUnserved : Site → (before after : B) → List MaterialEntry → (port : ℕ) → Option ℕ → Fault → (out : SinkChange) → Type 0
  IsBookUnserved site before after entries port limit fault out =
      ((IsUnnamed fault ⊎ IsUnbacked fault) × (after ≡ before) × AddsNone out)
      ⊎ (AddFailed before after entries fault × AddsNone out)
      ⊎ ((IsShopped before after entries × IsUnannounced port fault out) ⊎ IsBookLeft site before after entries port limit fault out)

  -- the entries of this shop file were added to the book of a store, which was served with this page
  abbrev pub IsServeDone : (Result B OpenFault → Type 0) → (holds : List ℕ → ℕ → List ℕ → Type 0) → Address → (shop : List ℕ) → (limit : Option ℕ) → (page folder : Option (List ℕ)) → (out : SinkChange) → Type 0
  IsServeDone gives holds address shop limit page folder out =
      (entries : List MaterialEntry) × IsShopRead holds shop entries × (site : Site) × IsSite holds address page folder site
      × (before after : B) × gives (Ok before) × IsBookServed site before after entries address.port limit out

  -- the shop file's fault; or its entries were read, and then the page's fault came, or that of the folder of backups, or no run was
  -- drawn; or the store's, or what stopped the serving of its book
  abbrev pub IsServeStopped : (Result B OpenFault → Type 0) → (holds : List ℕ → ℕ → List ℕ → Type 0) → Address → (shop : List ℕ) → (limit : Option ℕ) → (page folder : Option (List ℕ)) → Fault → (out : SinkChange) → Type 0
  IsServeStopped gives holds address shop limit page folder fault out =
      (IsShopUnread holds shop fault × AddsNone out)
      ⊎ ((entries : List MaterialEntry) × IsShopRead holds shop entries
      × (((IsPageUnread fault ⊎ IsUnbacked fault ⊎ IsUndrawn fault) × AddsNone out)
      ⊎ ((site : Site) × IsSite holds address page folder site
      × ((IsUnopened gives fault × AddsNone out)
      ⊎ ((before after : B) × gives (Ok before) × IsBookUnserved site before after entries address.port limit fault out)))))
