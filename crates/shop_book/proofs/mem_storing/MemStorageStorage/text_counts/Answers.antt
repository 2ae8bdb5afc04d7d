use Rattle.std.proofs.Common.{length, sym, ap, ◌∙◌}
use Rattle.std.specs.FinMap.{entries-from_sorted, len, len-entries}
use Rattle.std.specs.Ordering.{nat_cmp}
use Rattle.cut_measure.specs.Codes.{code_cmp}
use Rattle.shop_records.specs.Content.{message_id_cmp}
use Rattle.shop_rows.specs.Keys.{halt_key, import_key}
use Rattle.shop_rows.proofs.Places.{tested}
use Rattle.shop_book.proofs.Held.{len-rows}
use Rattle.shop_book.proofs.mem_storing.MemStorageStorage.text_counts.Goals as goal

pub returns-clause-counts : goal.returns-clause-counts
returns-clause-counts c clean m was =
    let self = c.args.self.now in (
      c.count_kept.ensures ∙ sym (len-entries _ ∙ ap length (entries-from_sorted message_id_cmp self.kept.entries (tested _ self.kept_rise))) ∙ ap len was.kept,
      c.count_imports.ensures ∙ ap length c.deref.ensures.value ∙ sym (len-rows import_key code_cmp self.imports.items self.imports_rise) ∙ ap len was.imports,
      c.count_halts.ensures ∙ ap length c.deref-2.ensures.value ∙ sym (len-rows halt_key nat_cmp self.halts.items self.halts_rise) ∙ ap len was.halts,
    )
