-- Order files that are read by the program.
use Rattle.std.specs.Prelude.{◌≡◌, ◌⊎◌, ℕ, ◌==◌, ◌&&◌, not, Bool, List, [], ◌∷◌, ◌++◌, length, nat_lt, Option, Some, None, codes, if◌then◌else◌}
use Rattle.std.specs.Fmt.{decimal}
use Rattle.std.specs.List.{before_first, list_any}
use Rattle.std.specs.Str.{IsUtf8}
use Rattle.shop_files.specs.Orders.{IsOrders, HasOrdersFault}
use Rattle.shop_files.specs.declared.limits.TheConstants.{MAX_TEXT_LEN, MAX_LINES}
use Rattle.shop_files.specs.declared.orders.OrderLine.{OrderLine}
use Rattle.shop_files.specs.declared.shops.MaterialEntry.{MaterialEntry}
use Rattle.shop_problems.specs.declared.judging.BadField.{BadField}
use Rattle.shop_problems.specs.Judged.{first_bad_field}
use Rattle.shop_files.specs.declared.orders.OrdersFault.{OrdersFault}
use Rattle.shop_files.specs.declared.orders.OrdersFault.TheVariants as orders
use Rattle.shop_records.specs.declared.imports.Form.TheVariants.{Csv}
use Rattle.shop_records.specs.declared.messages.Command.TheVariants.{Import}
use Rattle.shop_forms.specs.Forms.{json_texts}
use Rattle.shop_words.specs.declared.words.ImportAs.{ImportAs}
use Rattle.shop_commands.specs.declared.faults.Fault.{Fault}
use Rattle.shop_commands.specs.declared.faults.Fault.TheVariants.{File, Order, NoMemory, Write}
use Rattle.shop_commands.specs.declared.faults.OrderCause.{OrderCause}
use Rattle.shop_commands.specs.declared.faults.OrderCause.TheVariants as cause
use Rattle.shop_commands.specs.Stored.{IsShopRead, IsShopUnread}
use Rattle.shop_commands.specs.Sinks.{SinkChange, Adds, AddsPrefix, AddsNone, SinkFailed}

-- ---- what is wrong at the first fault

-- the text up to its first line feed has that byte
abbrev pub first_line_has : ℕ → List ℕ → Bool
first_line_has byte text = list_any (λ b. b == byte) (before_first (λ b. b == 10) text)

-- semicolons stand where commas should
abbrev pub has_semicolons : List ℕ → Bool
has_semicolons text = first_line_has 59 text && not (first_line_has 44 text)

abbrev pub header_cause : List ℕ → OrderCause
header_cause text =
    if nat_lt MAX_TEXT_LEN (length text) then cause.Long
    else if has_semicolons text then cause.Semicolons
    else cause.Header

-- what is wrong in a field, by its place from 0
abbrev pub field_cause : ℕ → OrderCause
field_cause field =
    if field == 0 then cause.Line else if field == 1 then cause.Material else if field == 2 then cause.Length
    else if field == 3 then cause.Width else if field == 4 then cause.Turn else if field == 5 then cause.Count
    else if field == 6 then cause.Worth else cause.Fields

-- the header is row 0
abbrev pub cause_of : List ℕ → (row field : ℕ) → OrderCause
cause_of text row field =
    if row == 0 then header_cause text
    else if nat_lt MAX_LINES row then cause.Many
    else field_cause field

-- what stops the work at a fault of a text
abbrev pub fault_in : List ℕ → OrdersFault → Fault
fault_in text (orders.At row field) = Order (record { row = row; field = field; cause = cause_of text row field })
fault_in text orders.NoMemory = NoMemory

-- what is wrong in a field that can be read
abbrev pub judged_cause : ℕ → OrderCause
judged_cause field =
    if field == 0 then cause.Rising else if field == 1 then cause.Unknown else if field == 2 then cause.FarLength
    else if field == 3 then cause.FarWidth else if field == 4 then cause.Turned else if field == 5 then cause.FarCount
    else if field == 6 then cause.FarWorth else cause.None

abbrev pub bad_fault : BadField → Fault
bad_fault bad = Order (record { row = bad.row; field = bad.field; cause = judged_cause bad.field })

-- this is the fault of the first bad field of lines, by these materials
abbrev pub IsBadBy : Option (List MaterialEntry) → List OrderLine → Fault → Type 0
IsBadBy shop lines fault = (bad : BadField) × (first_bad_field shop lines ≡ Some bad) × (fault ≡ bad_fault bad)

-- the materials of a shop file, where one is named, by the bytes that it holds
abbrev pub IsKnownShop : (holds : List ℕ → ℕ → List ℕ → Type 0) → (path : Option (List ℕ)) → Option (List MaterialEntry) → Type 0
IsKnownShop holds None shop = shop ≡ None
IsKnownShop holds (Some path) None = ⊥
IsKnownShop holds (Some path) (Some entries) = IsShopRead holds path entries

-- no field of the lines is bad
abbrev pub IsJudgedGood : (holds : List ℕ → ℕ → List ℕ → Type 0) → (path : Option (List ℕ)) → List OrderLine → Type 0
IsJudgedGood holds path lines = (shop : Option (List MaterialEntry)) × IsKnownShop holds path shop × (first_bad_field shop lines ≡ None)

-- the shop file has this fault, or this is the one of the first bad field of the lines
abbrev pub IsJudgedBad : (holds : List ℕ → ℕ → List ℕ → Type 0) → (path : Option (List ℕ)) → List OrderLine → Fault → Type 0
IsJudgedBad holds path lines fault =
    ((named : List ℕ) × (path ≡ Some named) × IsShopUnread holds named fault)
    ⊎ ((shop : Option (List MaterialEntry)) × IsKnownShop holds path shop × IsBadBy shop lines fault)

-- ---- what is reported

-- a text has this first fault, or memory ran out
abbrev pub IsUnordered : List ℕ → Fault → Type 0
IsUnordered text fault = (f : OrdersFault) × HasOrdersFault text f × (fault ≡ fault_in text f)

abbrev pub count_line : ℕ → List ℕ
count_line count = decimal count ++ codes " lines\n"

-- the message that makes an order of a text, as the shop reads it
abbrev pub import_line : ImportAs → List ℕ → List ℕ
import_line reported text =
    json_texts.of_message (record { terminal = reported.terminal; number = reported.number; command = Import reported.order Csv text }) ++ 10 ∷ []

abbrev pub orders_line : Option ImportAs → List ℕ → (count : ℕ) → List ℕ
orders_line None text count = count_line count
orders_line (Some reported) text count = import_line reported text

-- the line that is reported about an order file's bytes, which spell good lines
abbrev pub IsOrdersLine : (holds : List ℕ → ℕ → List ℕ → Type 0) → (path : Option (List ℕ)) → Option ImportAs → List ℕ → List ℕ → Type 0
IsOrdersLine holds path reported text line =
    (lines : List OrderLine) × IsOrders text lines × IsJudgedGood holds path lines × (line ≡ orders_line reported text (length lines))

-- the line of good bytes can't be made: memory ran out, or they are no text
abbrev pub IsUnsaid : List ℕ → Fault → Type 0
IsUnsaid text fault = (fault ≡ NoMemory) ⊎ ((fault ≡ File) × (IsUtf8 text → ⊥))

-- the bytes have this first fault; or they spell lines that are judged to be bad; or good ones, and memory ran out or they are no text
abbrev pub IsOrderFileFault : (holds : List ℕ → ℕ → List ℕ → Type 0) → (path : Option (List ℕ)) → List ℕ → Fault → Type 0
IsOrderFileFault holds path text fault =
    IsUnordered text fault
    ⊎ ((lines : List OrderLine) × IsOrders text lines × (IsJudgedBad holds path lines fault ⊎ (IsJudgedGood holds path lines × IsUnsaid text fault)))

-- the line of the bytes that a file holds was written
abbrev pub IsOrdersDone : (holds : List ℕ → ℕ → List ℕ → Type 0) → (file : List ℕ) → (path : Option (List ℕ)) → Option ImportAs → (out : SinkChange) → Type 0
IsOrdersDone holds file path reported out = (bytes line : List ℕ) × holds file MAX_TEXT_LEN bytes × IsOrdersLine holds path reported bytes line × Adds out line

-- the file can't be read, or its bytes have a fault, and nothing was written; or a write failed, and a first part was
abbrev pub IsOrdersStopped : (holds : List ℕ → ℕ → List ℕ → Type 0) → (file : List ℕ) → (path : Option (List ℕ)) → Option ImportAs → Fault → (out : SinkChange) → Type 0
IsOrdersStopped holds file path reported fault out =
    (((fault ≡ NoMemory) ⊎ (fault ≡ File)) × AddsNone out)
    ⊎ ((((bytes : List ℕ) × holds file MAX_TEXT_LEN bytes × IsOrderFileFault holds path bytes fault) × AddsNone out)
    ⊎ ((bytes line : List ℕ) × holds file MAX_TEXT_LEN bytes × IsOrdersLine holds path reported bytes line × (fault ≡ Write) × AddsPrefix out line × SinkFailed out))
