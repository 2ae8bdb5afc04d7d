-- What a storage in memory holds: the long texts and the entries of a content, and where the work on its jobs halted.
use Rattle.std.specs.Prelude.{◌≡◌}
use Rattle.std.specs.FinMap as map
use Rattle.std.specs.Ordering.{nat_cmp}
use Rattle.cut_measure.specs.Codes.{code_cmp}
use Rattle.shop_records.specs.Content.{Content, message_id_cmp}
use Rattle.shop_records.specs.declared.imports.ImportRow.{ImportRow}
use Rattle.shop_records.specs.declared.journal.Entry.{Entry}
use Rattle.shop_records.specs.declared.records.JobHalt.{JobHalt}
use Rattle.shop_records.specs.declared.texts.Kept.{Kept}
use Rattle.shop_rows.specs.Keys.{entry_key, halt_key, import_key}
use Rattle.shop_rows.specs.Rows.{map_of}
use Rattle.shop_book.specs.declared.mem_storage.MemStorage.{MemStorage}

abbrev pub kept_in : MemStorage → map.FinMap message_id_cmp Kept
kept_in storage = map.from_sorted storage.kept.entries

abbrev pub imports_in : MemStorage → map.FinMap code_cmp ImportRow
imports_in storage = map_of import_key code_cmp storage.imports.items

abbrev pub halts_in : MemStorage → map.FinMap nat_cmp JobHalt
halts_in storage = map_of halt_key nat_cmp storage.halts.items

abbrev pub entries_in : MemStorage → map.FinMap nat_cmp Entry
entries_in storage = map_of entry_key nat_cmp storage.entries.items

pub record HoldsTexts (storage : MemStorage) (m : Content) : Type 0 where
  pub kept : kept_in storage ≡ m.kept
  pub imports : imports_in storage ≡ m.imports
  pub halts : halts_in storage ≡ m.halts
  pub entries : entries_in storage ≡ m.entries
