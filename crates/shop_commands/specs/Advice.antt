-- The second line of a fault: what it was, and why.
use Rattle.std.specs.Prelude.{◌≡◌, ◌⊎◌, ⊤, ℕ, ◌+◌, ◌*◌, ◌/◌, ◌==◌, Bool, true, false, List, [], ◌∷◌, ◌++◌, codes, if◌then◌else◌, string_bytes}
use Rattle.std.specs.Fmt.{decimal}
use Rattle.std.specs.List.{list_any}
use Rattle.shop_files.specs.declared.problems.TextCause.{TextCause}
use Rattle.shop_files.specs.declared.problems.TextCause.TheVariants as text
use Rattle.shop_records.specs.declared.refusals.Refusal.{Refusal}
use Rattle.shop_records.specs.declared.refusals.Refusal.TheVariants as refusal
use Rattle.shop_advice.specs.Causes.{backup_text, file_text, store_text, version_text, shop_text}
use Rattle.shop_serve.specs.declared.ports.PortCause.{PortCause}
use Rattle.shop_serve.specs.declared.ports.PortCause.TheVariants as port
use Rattle.shop_commands.specs.declared.advice.Advice.{Advice}
use Rattle.shop_commands.specs.declared.advice.Cause.{Cause}
use Rattle.shop_commands.specs.declared.advice.Cause.TheVariants as cause
use Rattle.shop_commands.specs.declared.faults.Fault.{Fault}
use Rattle.shop_commands.specs.declared.faults.Fault.TheVariants.{File, Text, Order, ShopText, ShopEntry, Entry, Refused, Read, Write, NoMemory, Store, Version, Port, Backup, Audit}
use Rattle.shop_commands.specs.declared.faults.Torn.TheVariants as torn
use Rattle.shop_commands.specs.Faults.{fault_text}

-- ---- what is reported about each cause

-- of the first fault of a problem's text
abbrev pub problem_text : TextCause → List ℕ
problem_text text.Long = codes "the text is over 65536 bytes long, or this number is one too many"
problem_text text.Byte = codes "only digits, spaces, tabs and line ends may stand here"
problem_text text.Number = codes "this number is out of its range"
problem_text text.Short = codes "the text ends before its last number"
problem_text text.NoMemory = codes "memory ran out"

-- of a refusal: of a ticket, a report, a plan, or an entry of a shop file
abbrev pub refused_text : Refusal → List ℕ
refused_text refusal.NumberReused = codes "another entry was read here before; put it back, and write new ones behind the last"
refused_text refusal.NoMaterial = codes "it has no such material"
refused_text refusal.MaterialExists = codes "the store has this material with another kind, kerf or limits"
refused_text refusal.BadMaterial = codes "the kerf or a limit is out of its range for this kind"
refused_text refusal.NoJob = codes "it has no such job"
refused_text refusal.NothingFits = codes "no piece fits the rectangle"
refused_text refusal.BadWant = codes "it has too many kinds of pieces; write at most 40, and 100 with --whole"
refused_text refusal.TableTooLarge = codes "it can't be read again; write it to a file to be told what helps"
refused_text refusal.BadStep = codes "it can't be read again; write it to a file to be told what helps"
refused_text refusal.NoMemory = codes "memory ran out"
refused_text refusal.StoreFault = codes "the store failed, or its rows contradict each other; look at its disk"
refused_text r = codes "the shop refuses it"

abbrev pub port_text : PortCause → List ℕ
port_text port.InUse = codes "another program listens to it; end that one, or take another port"
port_text port.NotAllowed = codes "this account may not listen to it; take one from 1024 on"
port_text port.Refused = codes "the system refuses it, or accepts no connection any more"
port_text port.NoRun = codes "the system gives no random numbers, by which each start is told from others"

abbrev pub cause_text : Cause → List ℕ
cause_text (cause.File c) = file_text c
cause_text (cause.Problem c) = problem_text c
cause_text (cause.Shop c) = shop_text c
cause_text (cause.Refused r) = refused_text r
cause_text cause.Whole = codes "plan it with --whole, and without --step"
cause_text cause.LongBar = codes "a bar is at most 15000.0 mm long"
cause_text cause.Steps = codes "a step is "
cause_text cause.Size = codes "a size is 0.1x0.1 to 20000.0x6000.0 in millimetres, and of a bar 0.1 to 20000.0"
cause_text cause.NoFit = codes "no piece fits a unit of these sizes"
cause_text cause.Lines = codes "it has no line of the material, or over 100; or a bar's that isn't 0.1 wide or may be turned; or a size stands twice"
cause_text cause.Made = codes "there was no store, and an empty one was made"
cause_text (cause.Store c) = store_text c
cause_text (cause.Version c) = version_text c
cause_text (cause.Port c) = port_text c
cause_text (cause.Backup c) = backup_text c
cause_text cause.Memory = codes "memory ran out; end other programs, or give this one more; its shop takes some "
cause_text cause.Input = codes "it can't be read to its end"
cause_text cause.Output = codes "it can't be written; is its disk full, or its reader gone?"
cause_text cause.Before = codes " messages were kept before entries began"
cause_text cause.Reply = codes "another reply"
cause_text cause.Row = []

-- what stands between what is reported about and the cause
abbrev pub joint : Cause → List ℕ
joint cause.Before = []
joint c = codes ": "

-- about how many megabytes a store of so many bytes takes; three times as many where its files are read into memory whole
abbrev pub wanted_megabytes : (is_apart : Bool) → (bytes : ℕ) → ℕ
wanted_megabytes is_apart bytes =
    if is_apart then 3 * (bytes / 1000000 + 1) + 16 else bytes / 1000000 + 1 + 16

abbrev pub wanted_text : (is_apart : Bool) → (bytes : ℕ) → List ℕ
wanted_text is_apart bytes = decimal (wanted_megabytes is_apart bytes) ++ codes " MB"

-- why the lines of an order file aren't planned
abbrev pub lines_cause : Refusal → Cause
lines_cause refusal.BadSize = cause.Size
lines_cause refusal.NothingFits = cause.NoFit
lines_cause refusal.BadWant = cause.Lines
lines_cause r = cause.Refused r

-- ---- which cause stands after which line

-- what helps after these refusals alone
abbrev pub IsOfStep : Refusal → Type 0
IsOfStep refusal.TableTooLarge = ⊤
IsOfStep refusal.BadStep = ⊤
IsOfStep r = ⊥

-- This cause may be reported after the line of this fault: `fault store` speaks of stores, and of the cause that the fault has.
abbrev pub FitsFault : Fault → Cause → Type 0
FitsFault File (cause.File c) = ⊤
FitsFault (Text fault) (cause.Problem c) = c ≡ fault.cause
FitsFault ShopText (cause.Shop c) = ⊤
FitsFault (ShopEntry entry) (cause.Shop c) = ⊤
FitsFault (Entry e) (cause.Refused r) = r ≡ e.refusal
FitsFault (Refused r) (cause.Refused s) = s ≡ r
FitsFault (Refused r) cause.Whole = IsOfStep r
FitsFault (Refused r) cause.LongBar = IsOfStep r
FitsFault (Refused r) cause.Steps = IsOfStep r
FitsFault (Refused r) cause.Size = r ≡ refusal.BadSize
FitsFault (Refused r) cause.NoFit = r ≡ refusal.NothingFits
FitsFault (Refused r) cause.Lines = r ≡ refusal.BadWant
FitsFault (Refused r) cause.Made = ⊤
FitsFault Read cause.Input = ⊤
FitsFault Write cause.Output = ⊤
FitsFault NoMemory cause.Memory = ⊤
FitsFault (Store c) (cause.Store d) = d ≡ c
FitsFault (Version c) (cause.Version d) = d ≡ c
FitsFault (Port c) (cause.Port d) = d ≡ c
FitsFault (Backup c) (cause.Backup d) = d ≡ c
FitsFault (Audit (torn.Before count)) cause.Before = ⊤
FitsFault (Audit (torn.Reply entry)) cause.Reply = ⊤
FitsFault (Audit (torn.Row row)) cause.Row = ⊤
FitsFault fault c = ⊥

abbrev pub has_line_feed : List ℕ → Bool
has_line_feed words = list_any (λ b. b == 10) words

-- it is on one line
abbrev pub IsPlain : List ℕ → Type 0
IsPlain words = has_line_feed words ≡ false

-- an advice of this cause, which is one line
pub record IsOf (c : Cause) (a : Advice) : Type 0 where
  pub cause : a.cause ≡ c
  pub about : IsPlain (string_bytes a.about)
  pub word : IsPlain (string_bytes a.word)

-- a cause that helps where a step is refused
abbrev pub HelpsStep : Cause → Type 0
HelpsStep cause.Whole = ⊤
HelpsStep cause.LongBar = ⊤
HelpsStep cause.Steps = ⊤
HelpsStep c = ⊥

-- an advice that helps there, which is one line
pub record IsStepHelp (a : Advice) : Type 0 where
  pub helps : HelpsStep a.cause
  pub about : IsPlain (string_bytes a.about)
  pub word : IsPlain (string_bytes a.word)

-- an advice for a fault, which is one line
pub record IsAdviceOf (fault : Fault) (a : Advice) : Type 0 where
  pub fits : FitsFault fault a.cause
  pub about : IsPlain (string_bytes a.about)
  pub word : IsPlain (string_bytes a.word)

-- the second line: what it was, and why
abbrev pub advice_line : Advice → List ℕ
advice_line a = codes "  " ++ string_bytes a.about ++ joint a.cause ++ cause_text a.cause ++ string_bytes a.word ++ codes "\n"

-- the second line where memory ran out
abbrev pub no_memory_line : List ℕ
no_memory_line = codes "  memory ran out; end other programs, or give this one more\n"

-- ---- the lines of a fault

-- the line of a fault
abbrev pub fault_line : Fault → List ℕ
fault_line fault = fault_text fault ++ 10 ∷ []

-- the fault is an order file's, whose line reports all
abbrev pub is_order : Fault → Bool
is_order (Order fault) = true
is_order fault = false

-- What stands after a fault's line: nothing after an order file's; else one line, which reports a cause that fits, or that memory
-- ran out.
abbrev pub FollowsFault : Fault → List ℕ → Type 0
FollowsFault fault line =
    ((is_order fault ≡ true) × (line ≡ []))
    ⊎ ((is_order fault ≡ false) × ((line ≡ no_memory_line) ⊎ ((a : Advice) × IsAdviceOf fault a × (line ≡ advice_line a))))

-- one line, which begins with two spaces: no line feed stands before its end
abbrev pub IsSecondLine : List ℕ → Type 0
IsSecondLine line = (words : List ℕ) × IsPlain words × (line ≡ codes "  " ++ words ++ codes "\n")

-- a fault's line, and what stands after it
abbrev pub IsFaultReported : Fault → List ℕ → Type 0
IsFaultReported fault reported = (line : List ℕ) × FollowsFault fault line × (reported ≡ fault_line fault ++ line)
