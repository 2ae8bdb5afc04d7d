-- What the program did: what was written, and with which status it ended.
use Rattle.std.specs.Prelude.{◌≡◌, ◌≢◌, ◌⊎◌, ℕ, true, false, List, [], ◌++◌, Result, Ok, Err, codes, option_map}
use Rattle.clap.specs.Kinds.{IsAmong}
use Rattle.clap.specs.Faults as clap
use Rattle.clap.specs.Words.{Text, subcommand_of}
use Rattle.clap.specs.declared.error.kind.ErrorKind.{ErrorKind}
use Rattle.clap.specs.declared.error.kind.ErrorKind.TheVariants.{DisplayHelp, DisplayVersion, OutOfMemory}
use Rattle.shop_advice.specs.Printing.{printed}
use Rattle.shop_book.specs.declared.books.Book.{Ghosts}
use Rattle.shop_opening.specs.declared.stores.OpenFault.{OpenFault}
use Rattle.shop_files.specs.declared.limits.TheConstants.{MAX_TEXT_LEN}
use Rattle.shop_text.specs.Tickets.{ticket_of}
use Rattle.shop_text.specs.Yields.{yield_of}
use Rattle.shop_wire.specs.Lines.{AreLines}
use Rattle.shop_wire.specs.Replays.{IsReplayedFresh}
use Rattle.shop_commands.specs.declared.faults.Fault.{Fault}
use Rattle.shop_commands.specs.declared.faults.Fault.TheVariants.{File, Read, Write, NoMemory}
use Rattle.shop_words.specs.declared.words.Request.{Request}
use Rattle.shop_words.specs.declared.words.Request.TheVariants.{Replay, Plan, PlanOrder, PlanLines, Orders, Serve, Ticket, Yield, History, Audit, Restore}
use Rattle.shop_words.specs.declared.words.TheConstants.{VERSION}
use Rattle.shop_words.specs.CommandLine.{AsksFor, AsksNothing, shop_app}
use Rattle.shop_words.specs.Mistakes.{IsMistakeOf, mistake_text}
use Rattle.shop_words.specs.declared.mistakes.Mistake.{Mistake}
use Rattle.shop_commands.specs.Advice.{IsFaultReported, fault_line, no_memory_line}
use Rattle.shop_commands.specs.Audits.{IsAuditDone, IsAuditStopped, IsHistoryDone, IsHistoryStopped, number_of}
use Rattle.shop_commands.specs.Orders.{IsOrdersDone, IsOrdersStopped}
use Rattle.shop_commands.specs.Plans.{IsFileLines, IsFileLinesFault, IsFilePlan, IsFileFault, IsFileWhole, IsFileWholeFault}
use Rattle.shop_request.specs.declared.addresses.Address.{Address}
use Rattle.shop_commands.specs.Stored.{IsAddressOf, IsTextDone, IsTextStopped, IsServeDone, IsServeStopped}
use Rattle.shop_commands.specs.Restoring.{IsRestoreDone, IsRestoreStopped}
use Rattle.shop_commands.specs.Sinks.{SinkChange, Adds, AddsPrefix, AddsNone, AddsSome, IsWritten, SinkFailed}
use Rattle.shop_commands.specs.Sources.{SourceChange, SourceFailed}

-- each line of the input has its reply
abbrev pub IsReplayDone : (input : SourceChange) → (out : SinkChange) → Type 0
IsReplayDone input out = (lines : List (List ℕ)) × AreLines input.left lines × IsReplayedFresh out.old out.new lines []

-- what is made of the bytes that a file holds was written
abbrev pub IsPlanDone : (holds : List ℕ → ℕ → List ℕ → Type 0) → (file : List ℕ) → (List ℕ → List ℕ → Type 0) → (out : SinkChange) → Type 0
IsPlanDone holds file made out = (bytes plan : List ℕ) × holds file MAX_TEXT_LEN bytes × made bytes plan × Adds out plan

-- a fault stopped it: some first lines have their replies, which were written but for some last bytes, after `Read` all of them;
-- after `Read` the input had failed, and after `Write` a write had
abbrev pub IsReplayStopped : Fault → (input : SourceChange) → (out : SinkChange) → Type 0
IsReplayStopped fault input out =
    (lines more : List (List ℕ)) × AreLines input.left (lines ++ more) × (unwritten : List ℕ) × (fault ≡ Read → unwritten ≡ [])
    × IsReplayedFresh out.old out.new lines unwritten × (fault ≡ Read → SourceFailed input)
    × (fault ≡ Write → SinkFailed out)

-- a fault stopped it: the file can't be read, memory ran out, or nothing can be made of its bytes, or a write failed and some first bytes of what was made
-- were written
abbrev pub IsPlanStopped : (holds : List ℕ → ℕ → List ℕ → Type 0) → (file : List ℕ) → (List ℕ → List ℕ → Type 0) → (List ℕ → Fault → Type 0) → Fault → (out : SinkChange) → Type 0
IsPlanStopped holds file made stops File out = AddsNone out
IsPlanStopped holds file made stops NoMemory out = AddsNone out
IsPlanStopped holds file made stops Write out = (bytes plan : List ℕ) × holds file MAX_TEXT_LEN bytes × made bytes plan × AddsPrefix out plan × SinkFailed out
IsPlanStopped holds file made stops fault out = ((bytes : List ℕ) × holds file MAX_TEXT_LEN bytes × stops bytes fault) × AddsNone out

-- the same of what is made of two files: either can't be read, or nothing can be made of their bytes, and nothing was written; or a write failed
abbrev pub IsMadeStopped : (holds : List ℕ → ℕ → List ℕ → Type 0) → (file : List ℕ) → (List ℕ → List ℕ → Type 0) → (List ℕ → Fault → Type 0) → Fault → (out : SinkChange) → Type 0
IsMadeStopped holds file made stops fault out =
    (((fault ≡ NoMemory) ⊎ (fault ≡ File)) × AddsNone out)
    ⊎ ((((bytes : List ℕ) × holds file MAX_TEXT_LEN bytes × stops bytes fault) × AddsNone out)
    ⊎ ((bytes plan : List ℕ) × holds file MAX_TEXT_LEN bytes × made bytes plan × (fault ≡ Write) × AddsPrefix out plan × SinkFailed out))

-- the line of the version
abbrev pub version_line : List ℕ
version_line = codes "cutshop " ++ VERSION.now ++ codes "\n"

-- The fault's line and what stands after it were written, or where memory for them ran out, those of that; of either a first
-- part alone where the sink failed.
abbrev pub ReportsFault : Fault → (err : SinkChange) → Type 0
ReportsFault fault err =
    ((reported : List ℕ) × IsFaultReported fault reported × IsWritten err reported) ⊎ IsWritten err (fault_line NoMemory ++ no_memory_line)

-- what was done has status 0 and nothing is reported, and what stopped has status 1 and is reported
abbrev pub Concludes : Result (Unit {0}) Fault → (err : SinkChange) → ℕ → Type 0
Concludes (Ok _) err status = (status ≡ 0) × AddsNone err
Concludes (Err fault) err status = (status ≡ 1) × ReportsFault fault err

-- ---- over what the opener of stores gives for a path, and over what that gives which only reads their files; and over the bytes that a file
-- of a path may hold, up to one more than so many

module _ {B A : Type 0} (book : Ghosts B) (apart : Ghosts A) (gives : List ℕ → Result B OpenFault → Type 0) (reads : List ℕ → Result A OpenFault → Type 0) (holds : List ℕ → ℕ → List ℕ → Type 0) where
  abbrev pub IsDone : Request → (input : SourceChange) → (out : SinkChange) → Type 0
  IsDone Replay input out = IsReplayDone input out
  IsDone (Plan file kerf step) input out = IsPlanDone holds file.now (λ bytes. IsFilePlan bytes kerf step) out
  IsDone (PlanOrder file kerf step calls stages) input out = IsPlanDone holds file.now (λ bytes. IsFileWhole bytes kerf step stages) out
  IsDone (Serve s) input out =
      (address : Address) × IsAddressOf s address × IsServeDone book (gives s.store.now) holds address s.shop.now s.limit (option_map (λ p. p.now) s.page) (option_map (λ p. p.now) s.backup) out
  IsDone (PlanLines asked) input out = IsPlanDone holds asked.file.now (λ bytes. IsFileLines holds bytes asked) out
  IsDone (Orders file shop reported) input out = IsOrdersDone holds file.now (option_map (λ p. p.now) shop) reported out
  IsDone (Ticket store job false) input out = IsTextDone book (gives store.now) (λ m. ticket_of m job) out
  IsDone (Ticket store job true) input out = IsTextDone apart (reads store.now) (λ m. ticket_of m job) out
  IsDone (Yield store material false) input out = IsTextDone book (gives store.now) (λ m. yield_of m material) out
  IsDone (Yield store material true) input out = IsTextDone apart (reads store.now) (λ m. yield_of m material) out
  IsDone (History store after false) input out = IsHistoryDone book (gives store.now) (number_of after) out
  IsDone (History store after true) input out = IsHistoryDone apart (reads store.now) (number_of after) out
  IsDone (Audit store read_only) input out = IsAuditDone apart (reads store.now) out
  IsDone (Restore store from) input out = IsRestoreDone store.now from.now out

  abbrev pub IsStopped : Request → Fault → (input : SourceChange) → (out : SinkChange) → Type 0
  IsStopped Replay fault input out = IsReplayStopped fault input out
  IsStopped (Plan file kerf step) fault input out = IsPlanStopped holds file.now (λ bytes. IsFilePlan bytes kerf step) (λ bytes. IsFileFault bytes kerf step) fault out
  IsStopped (PlanOrder file kerf step calls stages) fault input out =
      IsPlanStopped holds file.now (λ bytes. IsFileWhole bytes kerf step stages) (λ bytes. IsFileWholeFault bytes kerf step) fault out
  IsStopped (Serve s) fault input out =
      (address : Address) × IsAddressOf s address × IsServeStopped book (gives s.store.now) holds address s.shop.now s.limit (option_map (λ p. p.now) s.page) (option_map (λ p. p.now) s.backup) fault out
  IsStopped (PlanLines asked) fault input out = IsMadeStopped holds asked.file.now (λ bytes. IsFileLines holds bytes asked) (λ bytes. IsFileLinesFault holds bytes asked) fault out
  IsStopped (Orders file shop reported) fault input out = IsOrdersStopped holds file.now (option_map (λ p. p.now) shop) reported fault out
  IsStopped (Ticket store job false) fault input out = IsTextStopped book (gives store.now) (λ m. ticket_of m job) fault out
  IsStopped (Ticket store job true) fault input out = IsTextStopped apart (reads store.now) (λ m. ticket_of m job) fault out
  IsStopped (Yield store material false) fault input out = IsTextStopped book (gives store.now) (λ m. yield_of m material) fault out
  IsStopped (Yield store material true) fault input out = IsTextStopped apart (reads store.now) (λ m. yield_of m material) fault out
  IsStopped (History store after false) fault input out = IsHistoryStopped book (gives store.now) (number_of after) fault out
  IsStopped (History store after true) fault input out = IsHistoryStopped apart (reads store.now) (number_of after) fault out
  IsStopped (Audit store read_only) fault input out = IsAuditStopped (reads store.now) fault out
  IsStopped (Restore store from) fault input out = IsRestoreStopped store.now from.now fault out

  -- what was asked was done and nothing was reported, with status 0; or a fault was reported, with status 1
  abbrev pub IsConcluded : (input : SourceChange) → (out err : SinkChange) → Request → ℕ → Type 0
  IsConcluded input out err request status =
      ((status ≡ 0) × IsDone request input out × AddsNone err)
      ⊎ ((status ≡ 1) × ((fault : Fault) × IsStopped request fault input out × ReportsFault fault err))

module _ (out err : SinkChange) where
  -- help was written and nothing was reported, with status 0; or the output failed, and that was reported, with status 1
  abbrev pub IsHelped : ℕ → Type 0
  IsHelped status =
      ((status ≡ 0) × AddsSome out × AddsNone err) ⊎ ((status ≡ 1) × AddsSome out × SinkFailed out × ReportsFault Write err)

  -- the version was written and nothing was reported, with status 0; or the output failed, and that was reported
  abbrev pub IsVersionReported : ℕ → Type 0
  IsVersionReported status =
      ((status ≡ 0) × Adds out version_line × AddsNone err)
      ⊎ ((status ≡ 1) × AddsPrefix out version_line × SinkFailed out × ReportsFault Write err)

  -- What `clap` said of this kind was reported: help, the version, or a mistake, with status 2 and nothing as output; or that memory
  -- ran out.
  abbrev pub IsReported : ErrorKind → ℕ → Type 0
  IsReported kind status =
      ((kind ≡ DisplayHelp) × IsHelped status)
      ⊎ ((kind ≡ DisplayVersion) × IsVersionReported status)
      ⊎ ((kind ≢ DisplayHelp) × (kind ≢ DisplayVersion) × (kind ≢ OutOfMemory) × (status ≡ 2) × AddsNone out × AddsSome err)
      ⊎ ((status ≡ 1) × AddsNone out × ReportsFault NoMemory err)

-- a mistake's text, in which control characters of words are printed as numbers
abbrev pub printed_mistake : Mistake → List ℕ
printed_mistake mistake = printed true (mistake_text mistake)

-- a mistake was reported, with status 2; or that memory for its text ran out
abbrev pub IsMistakeReported : Mistake → (err : SinkChange) → ℕ → Type 0
IsMistakeReported mistake err status = ((status ≡ 2) × IsWritten err (printed_mistake mistake)) ⊎ ((status ≡ 1) × ReportsFault NoMemory err)

-- what `clap` finds wrong with the words
abbrev pub faults_of : List Text → List ErrorKind
faults_of words = clap.fault_of shop_app words

-- The words ask for something, which was done or stopped by a fault; or `clap` said something to them; or it took them, and they
-- ask for nothing, by a mistake that was reported.
abbrev pub IsPerformed : {B A : Type 0} → Ghosts B → Ghosts A → (List ℕ → Result B OpenFault → Type 0) → (List ℕ → Result A OpenFault → Type 0) → (List ℕ → ℕ → List ℕ → Type 0) → List Text → (input : SourceChange) → (out err : SinkChange) → ℕ → Type 0
IsPerformed book apart gives reads holds words input out err status =
    ((request : Request) × (faults_of words ≡ []) × AsksFor (subcommand_of shop_app words) request × IsConcluded book apart gives reads holds input out err request status)
    ⊎ ((kind : ErrorKind) × ((kind ≡ OutOfMemory) ⊎ IsAmong kind (faults_of words)) × IsReported out err kind status)
    ⊎ ((faults_of words ≡ []) × AsksNothing (subcommand_of shop_app words)
    × ((mistake : Mistake) × IsMistakeOf (subcommand_of shop_app words) mistake × IsMistakeReported mistake err status) × AddsNone out)
