use Rattle.std.proofs.Common.{◌≡◌, List, length, sym, ap, ◌∙◌}
use Rattle.std.specs.FinMap.{get, len}
use Rattle.std.specs.Ordering.{nat_cmp}
use Rattle.shop_records.specs.Content.{entry_count, of_found}
use Rattle.shop_records.specs.declared.journal.Entry.{Entry}
use Rattle.shop_rows.specs.Keys.{entry_key}
use Rattle.shop_rows.specs.Rows.{row_at}
use Rattle.shop_book.proofs.Held.{get-rows, len-rows}
use Rattle.shop_book.proofs.mem_storing.MemStorageStorage.last_entry.Goals as goal

pub returns-clause-last : goal.returns-clause-last
returns-clause-last c clean m was =
    let rows = c.args.self.now.entries.items in
    let up = c.args.self.now.entries_rise in
    let count : length rows ≡ entry_count m = sym (len-rows entry_key nat_cmp rows up) ∙ ap len was.entries in
    let same = c.deref.ensures.value in
    let at = of_found (λ (entry : Entry). entry.at) in (
      c.last_of.ensures.count ∙ ap length same ∙ count,
      c.last_of.ensures.time ∙ ap (λ (es : List Entry). at (row_at entry_key nat_cmp (length es) es)) same
          ∙ ap at (get-rows entry_key nat_cmp rows (length rows) up ∙ (λ i. get (was.entries i) (count i))),
    )
