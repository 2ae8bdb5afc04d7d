use Rattle.std.proofs.Common.{ap, ◌∙◌}
use Rattle.std.specs.FinMap.{get}
use Rattle.std.specs.Ordering.{nat_cmp}
use Rattle.shop_rows.specs.Keys.{halt_key}
use Rattle.shop_rows.specs.Rows.{row_at}
use Rattle.shop_book.proofs.Held.{get-rows}
use Rattle.shop_book.proofs.mem_storing.MemStorageStorage.halt.Goals as goal

pub returns-clause-row : goal.returns-clause-row
returns-clause-row c clean m was =
    c.in_ok-row.ensures ∙ ap (row_at halt_key nat_cmp c.args.number) c.deref.ensures.value
    ∙ get-rows halt_key nat_cmp c.args.self.now.halts.items c.args.number c.args.self.now.halts_rise
    ∙ ap (λ halts. get halts c.args.number) was.halts
