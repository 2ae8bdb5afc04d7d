use Rattle.std.proofs.Common.{sym, ap, subst, ◌∙◌}
use Rattle.std.specs.FinMap.{values}
use Rattle.std.specs.Ordering.{nat_cmp}
use Rattle.shop_records.specs.Lists.{entries_behind}
use Rattle.shop_rows.specs.Keys.{entry_key}
use Rattle.shop_book.specs.FiledEntries.{AreEntriesFiled}
use Rattle.shop_book.proofs.EntriesFiled.{filed_behind}
use Rattle.shop_book.proofs.Held.{values-rows}
use Rattle.shop_book.proofs.mem_storing.MemStorageStorage.next_about.Goals as goal

pub returns : goal.returns
returns c = record {
  next = λ clean m was.
      let self = c.args.self.now in
      c.next_about.ensures (entries_behind m 0)
      (filed_behind self.index m (subst (AreEntriesFiled self.index) (sym (values-rows entry_key nat_cmp self.entries.items self.entries_rise) ∙ ap values was.entries) self.filed));
}
