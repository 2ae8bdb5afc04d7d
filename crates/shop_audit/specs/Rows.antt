-- How a row is reported by its table and its key.
use Rattle.std.specs.Prelude.{List, ℕ, ◌++◌, codes}
use Rattle.std.specs.Fmt.{decimal}
use Rattle.shop_audit.specs.declared.rows.Row.{Row}
use Rattle.shop_audit.specs.declared.rows.Row.TheVariants.{Begun, Demand, Halt, OtherHalt, Import, OtherImport, Job, Journal, Kept, Material, LastAct, LastDemand, Note, Order, Part, Use, OtherUse}

abbrev pub row_table : Row → List ℕ
row_table (Begun number) = codes "begun"
row_table (Demand number) = codes "demands"
row_table (Halt number) = codes "halts"
row_table OtherHalt = codes "halts"
row_table (Import order) = codes "imports"
row_table OtherImport = codes "imports"
row_table (Job number) = codes "jobs"
row_table (Journal number) = codes "journal"
row_table (Kept message_id) = codes "kept"
row_table (Material code) = codes "materials"
row_table LastAct = codes "meta"
row_table LastDemand = codes "meta"
row_table (Note code) = codes "notes"
row_table (Order code) = codes "orders"
row_table (Part name) = codes "parts"
row_table (Use job order) = codes "uses"
row_table OtherUse = codes "uses"

-- its columns are joined by `/`
abbrev pub row_key : Row → List ℕ
row_key (Begun number) = decimal number
row_key (Demand number) = decimal number
row_key (Halt number) = decimal number
row_key OtherHalt = codes "a job that isn't there"
row_key (Import order) = order
row_key OtherImport = codes "an order that isn't there"
row_key (Job number) = decimal number
row_key (Journal number) = decimal number
row_key (Kept message_id) = decimal message_id.terminal ++ codes "/" ++ decimal message_id.number
row_key (Material code) = code
row_key LastAct = codes "act"
row_key LastDemand = codes "demand"
row_key (Note code) = code
row_key (Order code) = code
row_key (Part name) = decimal name.act ++ codes "/" ++ decimal name.node
row_key (Use job order) = decimal job ++ codes "/" ++ order
row_key OtherUse = codes "a job or an order that isn't there"
