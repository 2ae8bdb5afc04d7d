use Rattle.std.proofs.Common.{List, sym, ap, ◌∙◌}
use Rattle.std.specs.FinMap.{values}
use Rattle.std.specs.Ordering.{nat_cmp}
use Rattle.std.specs.Prelude.{filter, nat_lt}
use Rattle.shop_records.specs.Content.{of_found}
use Rattle.shop_records.specs.declared.journal.Entry.{Entry}
use Rattle.shop_rows.specs.Keys.{entry_key}
use Rattle.shop_book.specs.Ends.{first_end}
use Rattle.shop_book.proofs.Held.{values-rows}
use Rattle.shop_book.proofs.mem_storing.MemStorageStorage.ended.Goals as goal

pub returns : goal.returns
returns c = record {
  time = λ clean m was.
      let rows = c.args.self.now.entries.items in
      let found = λ (rows : List Entry). of_found (λ (entry : Entry). entry.at) (first_end c.args.job (filter (λ (entry : Entry). nat_lt 0 entry.number) rows)) in
      c.time_of_end.ensures ∙ ap (λ (rows : List Entry). of_found (λ (entry : Entry). entry.at) (first_end c.args.job rows)) c.entries_after.ensures
      ∙ ap found (c.deref.ensures.value ∙ sym (values-rows entry_key nat_cmp rows c.args.self.now.entries_rise) ∙ ap values was.entries);
}
