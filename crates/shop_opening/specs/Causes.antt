-- What is reported about tables that aren't taken over, by what a look at them found.
use Rattle.std.specs.Prelude.{ℕ, ℤ, List, Option, Some, None, Result, Ok}
use Rattle.shop_advice.specs.declared.causes.RowKey.{RowKey}
use Rattle.shop_advice.specs.declared.causes.RowKey.TheVariants as key
use Rattle.shop_advice.specs.declared.causes.RowName.{RowName}
use Rattle.shop_advice.specs.declared.causes.StoreTable.TheVariants.{Materials, Parts, Jobs, Orders, Demands, Journal, Begun, Notes}
use Rattle.shop_advice.specs.declared.causes.VersionCause.{VersionCause}
use Rattle.shop_advice.specs.declared.causes.VersionCause.TheVariants.{Contradicting, Row}
use Rattle.shop_store.specs.declared.loaded.Loaded.{Loaded}
use Rattle.shop_store.specs.declared.loaded.Loaded.TheVariants as loaded
use Rattle.shop_statements.specs.declared.faults.TableFault.{TableFault}
use Rattle.shop_tables.specs.declared.valid_rows.NoRow.{NoRow}
use Rattle.shop_tables.specs.declared.valid_rows.NoRow.TheVariants as row

-- a key that is a number, or a code, as far as it is one
abbrev pub number_key : Option ℤ → RowKey
number_key (Some number) = key.Number number
number_key None = key.Unknown

abbrev pub code_key : Option (List ℕ) → RowKey
code_key (Some code) = key.Code code
code_key None = key.Unknown

abbrev pub part_key : Option ℤ → Option ℤ → RowKey
part_key (Some act) (Some node) = key.Part act node
part_key _ _ = key.Unknown

-- the name of a row that stands for nothing: its table, and its key
abbrev pub row_name : NoRow → RowName
row_name (row.Material code) = record { table = Materials; key = code_key code }
row_name (row.Part act node) = record { table = Parts; key = part_key act node }
row_name (row.Job number) = record { table = Jobs; key = number_key number }
row_name (row.Order code) = record { table = Orders; key = code_key code }
row_name (row.Demand number) = record { table = Demands; key = number_key number }
row_name (row.Entry number) = record { table = Journal; key = number_key number }
row_name (row.Begun number) = record { table = Begun; key = number_key number }
row_name (row.Note code) = record { table = Notes; key = code_key code }

-- what is wrong in entries of which this one stands for nothing, if any does
abbrev pub stray_of : Option NoRow → VersionCause
stray_of (Some found) = Row (row_name found)
stray_of None = Contradicting

-- what is wrong in tables of a known version from which this was loaded: the row that stands for nothing, if that is what it met
abbrev pub contradiction_of : Result Loaded TableFault → VersionCause
contradiction_of (Ok (loaded.NoRow found)) = Row (row_name found)
contradiction_of _ = Contradicting
