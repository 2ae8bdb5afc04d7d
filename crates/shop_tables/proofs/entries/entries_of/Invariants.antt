use Rattle.std.proofs.Common.{◌≡◌, List, map, take}
use Rattle.std.specs.List.{AllByRecursion}
use Rattle.shop_records.specs.declared.journal.Entry.{Entry}
use Rattle.shop_statements.specs.Values.{IsEntryValue}
use Rattle.shop_tables.specs.ListedRows.{listed_entry}
use Rattle.shop_tables.proofs.entries.entries_of.Given as goal

abbrev pub invariant-loop-row : goal.invariant-loop-row
invariant-loop-row l = (es : List Entry) → AllByRecursion IsEntryValue es → l.rows ≡ map listed_entry es → l.entries ≡ take l.row-index es
