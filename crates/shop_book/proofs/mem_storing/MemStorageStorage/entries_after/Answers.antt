use Rattle.std.proofs.Common.{List, take, sym, ap, ◌∙◌}
use Rattle.std.specs.FinMap.{values}
use Rattle.std.specs.Ordering.{nat_cmp}
use Rattle.std.specs.Prelude.{filter, nat_lt}
use Rattle.shop_records.specs.declared.journal.Entry.{Entry}
use Rattle.shop_rows.specs.Keys.{entry_key}
use Rattle.shop_rows.specs.Rows.{rise}
use Rattle.shop_book.proofs.Held.{values-rows}
use Rattle.shop_book.proofs.Behind.{behind_first}
use Rattle.shop_book.proofs.mem_storing.MemStorageStorage.entries_after.Goals as goal

pub returns-clause-rows : goal.returns-clause-rows
returns-clause-rows c clean m was =
    let rows = c.args.self.now.entries.items in
    let behind = λ (rows : List Entry). take c.args.most (filter (λ (entry : Entry). nat_lt c.args.after entry.number) rows) in
    c.in_ok-list.ensures ∙ c.first_rows.ensures ∙ ap (take c.args.most) c.entries_after-rows.ensures ∙ ap behind (c.deref.ensures.value ∙ sym (values-rows entry_key nat_cmp rows c.args.self.now.entries_rise) ∙ ap values was.entries)

pub returns-clause-next : goal.returns-clause-next
returns-clause-next c clean m was =
    let rows = c.args.self.now.entries.items in
    let up = ap (rise entry_key nat_cmp) (sym (sym (values-rows entry_key nat_cmp rows c.args.self.now.entries_rise) ∙ ap values was.entries)) ∙ c.args.self.now.entries_rise in
    behind_first m up c.args.after c.args.most c.in_ok-list.list (returns-clause-rows c clean m was)
