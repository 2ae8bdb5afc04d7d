use Rattle.std.proofs.Common.{ap, ◌∙◌}
use Rattle.std.specs.FinMap.{get}
use Rattle.std.specs.Ordering.{nat_cmp}
use Rattle.shop_rows.specs.Keys.{entry_key}
use Rattle.shop_rows.specs.Rows.{row_at}
use Rattle.shop_book.proofs.Held.{get-rows}
use Rattle.shop_book.proofs.mem_storing.MemStorageStorage.entry.Goals as goal

pub returns-clause-row : goal.returns-clause-row
returns-clause-row c clean m was =
    c.find.ensures.row ∙ ap (row_at entry_key nat_cmp c.args.number) c.deref.ensures.value
    ∙ get-rows entry_key nat_cmp c.args.self.now.entries.items c.args.number c.args.self.now.entries_rise
    ∙ ap (λ entries. get entries c.args.number) was.entries
