-- What stops the program's work, and the line that reports it.
use Rattle.std.specs.Prelude.{ℕ, List, ◌++◌, codes}
use Rattle.std.specs.Fmt.{decimal}
use Rattle.cut_plan.specs.declared.faults.PlanFault.{PlanFault}
use Rattle.cut_plan.specs.declared.faults.PlanFault.TheVariants as planner
use Rattle.shop_files.specs.declared.problems.TextCause.{TextCause}
use Rattle.shop_files.specs.declared.problems.TextCause.TheVariants as text
use Rattle.shop_files.specs.declared.problems.TextFault.{TextFault}
use Rattle.shop_files.specs.declared.shops.ShopFault.{ShopFault}
use Rattle.shop_files.specs.declared.shops.ShopFault.TheVariants as shop
use Rattle.shop_problems.specs.declared.orders.LinesFault.{LinesFault}
use Rattle.shop_problems.specs.declared.orders.LinesFault.TheVariants as lines
use Rattle.shop_problems.specs.declared.stock.BadEntry.{BadEntry}
use Rattle.shop_problems.specs.declared.stock.EntryFault.{EntryFault}
use Rattle.shop_problems.specs.declared.stock.EntryFault.TheVariants as entry
use Rattle.shop_records.specs.declared.refusals.Refusal.{Refusal}
use Rattle.shop_records.specs.declared.refusals.Refusal.TheVariants as refusal
use Rattle.shop_records.specs.Refusals.{refusal_number, refusal_name}
use Rattle.shop_audit.specs.declared.lines.LinesFault.{LinesFault as HistoryFault}
use Rattle.shop_audit.specs.declared.lines.LinesFault.TheVariants as history
use Rattle.shop_book.specs.declared.books.BookFault.{BookFault}
use Rattle.shop_book.specs.declared.books.BookFault.TheVariants as book
use Rattle.shop_backup.specs.declared.faults.BackupFault.{BackupFault}
use Rattle.shop_backup.specs.declared.faults.BackupFault.TheVariants as backup
use Rattle.shop_backup.specs.declared.restoring.RestoreFault.{RestoreFault}
use Rattle.shop_backup.specs.declared.restoring.RestoreFault.TheVariants as restore
use Rattle.shop_advice.specs.declared.causes.BackupCause.TheVariants.{NoBackup}
use Rattle.shop_advice.specs.declared.causes.StoreCause.TheVariants.{Before}
use Rattle.shop_opening.specs.declared.shops.AddFault.{AddFault}
use Rattle.shop_opening.specs.declared.shops.AddFault.TheVariants as add
use Rattle.shop_serve.specs.declared.faults.ServeFault.{ServeFault}
use Rattle.shop_serve.specs.declared.faults.ServeFault.TheVariants as serve
use Rattle.shop_serve.specs.declared.ports.PortCause.TheVariants as port_cause
use Rattle.shop_advice.specs.declared.causes.StoreCause.TheVariants as store_cause
use Rattle.shop_opening.specs.declared.stores.OpenFault.{OpenFault}
use Rattle.shop_opening.specs.declared.stores.OpenFault.TheVariants as store
use Rattle.shop_text.specs.declared.printing.PrintFault.{PrintFault}
use Rattle.shop_text.specs.declared.printing.PrintFault.TheVariants as print
use Rattle.shop_wire.specs.declared.faults.ReplayFault.{ReplayFault}
use Rattle.shop_wire.specs.declared.faults.ReplayFault.TheVariants as replay
use Rattle.shop_commands.specs.declared.faults.OrderCause.{OrderCause}
use Rattle.shop_commands.specs.declared.faults.OrderCause.TheVariants as cause
use Rattle.shop_commands.specs.declared.faults.Fault.{Fault}
use Rattle.shop_commands.specs.declared.faults.Fault.TheVariants.{File, Text, Order, ShopText, ShopEntry, Entry, Refused, Read, Write, NoMemory, Store, Version, Port, Backup, Audit}

abbrev pub cause_word : TextCause → List ℕ
cause_word text.Long = codes "Long"
cause_word text.Byte = codes "Byte"
cause_word text.Number = codes "Number"
cause_word text.Short = codes "Short"
cause_word text.NoMemory = codes "NoMemory"

-- what is wrong in a field that can be read, and what to write
abbrev pub judged_sentence : OrderCause → List ℕ
judged_sentence cause.Rising = codes "the line isn't greater than that of the row above, or is 0; write rising numbers from 1 on"
judged_sentence cause.Unknown = codes "the shop file has no such material; write the code of one that it has"
judged_sentence cause.FarLength = codes "the length is out of its range; write 0.1 to 20000.0"
judged_sentence cause.FarWidth = codes "the width is out of its range; write 0.1 to 6000.0, and 0.1 for a bar"
judged_sentence cause.Turned = codes "a bar's piece isn't turned; write no"
judged_sentence cause.FarCount = codes "the count is out of its range; write 1 to 1000000"
judged_sentence cause.FarWorth = codes "the worth is out of its range; write 1 to 1000000000"
judged_sentence c = codes "the field is another"

-- what is wrong in an order file, and what to write
abbrev pub order_sentence : OrderCause → List ℕ
order_sentence cause.Long = codes "the text is too long; write at most 65536 bytes"
order_sentence cause.Semicolons = codes "the first line has semicolons; write commas between fields and a point before a tenth"
order_sentence cause.Header = codes "the first line is another; write line,material,length,width,turn,count,worth"
order_sentence cause.Fields = codes "the row has not seven fields; write seven with a comma between each two, and a point before a tenth"
order_sentence cause.Many = codes "the row is one too many; write at most 200 below the first line"
order_sentence cause.Line = codes "the line is a whole number of 1 to 10 digits, greater than that of the row above; write it as 12"
order_sentence cause.Material = codes "the material is a code of 1 to 16 of A-Z, 0-9 and -; write it as STEEL-40"
order_sentence cause.Length = codes "the length is in millimetres; write 1 to 6 digits, and after a point one digit, as 1250.5"
order_sentence cause.Width = codes "the width is in millimetres; write 1 to 6 digits, and after a point one digit, as 600.5, and 0.1 for a bar"
order_sentence cause.Turn = codes "the turn says whether the piece may be turned; write yes or no"
order_sentence cause.Count = codes "the count is the number of pieces, a whole number of 1 to 10 digits; write it as 3"
order_sentence cause.Worth = codes "the worth is that of one piece, a whole number of 1 to 10 digits; write it as 30"
order_sentence cause.None = codes "there is no row below the first line; write one for each line"
order_sentence c = judged_sentence c

-- what the line says
abbrev pub fault_text : Fault → List ℕ
fault_text File = codes "fault file"
fault_text (Text fault) = codes "fault text " ++ decimal fault.offset ++ codes " " ++ cause_word fault.cause
fault_text (Order fault) = codes "fault order row " ++ decimal fault.row ++ codes " field " ++ decimal fault.field ++ codes ": " ++ order_sentence fault.cause
fault_text ShopText = codes "fault shop text"
fault_text (ShopEntry entry) = codes "fault shop entry " ++ decimal entry
fault_text (Entry e) =
    codes "shop entry " ++ decimal e.entry ++ codes " refused " ++ decimal (refusal_number e.refusal) ++ codes " " ++ refusal_name e.refusal
fault_text (Refused r) = codes "refused " ++ decimal (refusal_number r) ++ codes " " ++ refusal_name r
fault_text Read = codes "fault read"
fault_text Write = codes "fault write"
fault_text NoMemory = codes "fault memory"
fault_text (Store cause) = codes "fault store"
fault_text (Version cause) = codes "fault version"
fault_text (Port cause) = codes "fault port"
fault_text (Backup cause) = codes "fault backup"
fault_text (Audit torn) = codes "fault audit"

-- the planner's fault is the refusal of this name
abbrev pub planner_fault : PlanFault → Fault
planner_fault planner.NothingFits = Refused refusal.NothingFits
planner_fault planner.TableTooLarge = Refused refusal.TableTooLarge
planner_fault planner.BadStep = Refused refusal.BadStep
planner_fault planner.BadWant = Refused refusal.BadWant
planner_fault planner.NoMemory = NoMemory

-- lines that can't be planned are refused by the number of their fault
abbrev pub lines_fault : LinesFault → Fault
lines_fault lines.NoMaterial = Refused refusal.NoMaterial
lines_fault lines.BadSize = Refused refusal.BadSize
lines_fault (lines.Plan fault) = planner_fault fault

abbrev pub entry_refusal : EntryFault → Refusal
entry_refusal entry.Bad = refusal.BadMaterial
entry_refusal entry.Exists = refusal.MaterialExists

-- an entry that is bad, as a shop refuses it
abbrev pub entry_fault : BadEntry → Fault
entry_fault bad = Entry (record { entry = bad.entry; refusal = entry_refusal bad.fault })

abbrev pub fault_by : TextCause → TextFault → Fault
fault_by text.NoMemory fault = NoMemory
fault_by cause fault = Text fault

abbrev pub file_fault : TextFault → Fault
file_fault fault = fault_by fault.cause fault

abbrev pub replay_fault : ReplayFault → Fault
replay_fault replay.Read = Read
replay_fault replay.Write = Write
replay_fault replay.NoMemory = NoMemory

abbrev pub shop_fault : ShopFault → Fault
shop_fault shop.NoMemory = NoMemory
shop_fault shop.Text = ShopText
shop_fault (shop.Entry entry) = ShopEntry entry

abbrev pub store_fault : OpenFault → Fault
store_fault store.NoMemory = NoMemory
store_fault (store.Store cause) = Store cause
store_fault (store.Version cause) = Version cause

abbrev pub backup_fault : BackupFault → Fault
backup_fault backup.NoMemory = NoMemory
backup_fault (backup.Failed cause) = Backup cause

abbrev pub restore_fault : RestoreFault → Fault
restore_fault restore.NoMemory = NoMemory
restore_fault (restore.Store cause) = Store cause
restore_fault restore.NoBackup = Backup NoBackup
restore_fault restore.Before = Store Before

abbrev pub add_fault : AddFault → Fault
add_fault add.NoMemory = NoMemory
add_fault (add.Refused e) = Entry e

abbrev pub print_fault : PrintFault → Fault
print_fault (print.Refused r) = Refused r
print_fault print.Write = Write

-- what stops the lines of a store's entries
abbrev pub written_fault : HistoryFault → Fault
written_fault history.NoMemory = NoMemory
written_fault history.Store = Store store_cause.Failed
written_fault history.Write = Write

-- the fault of a book that is audited
abbrev pub book_fault : BookFault → Fault
book_fault book.NoMemory = NoMemory
book_fault book.Store = Store store_cause.Failed
book_fault book.WrongVersion = Store store_cause.Failed

abbrev pub serve_fault : ServeFault → Fault
serve_fault serve.NoMemory = NoMemory
serve_fault serve.Port = Port port_cause.Refused
serve_fault serve.Moved = Store store_cause.Moved
