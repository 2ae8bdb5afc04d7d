use Rattle.std.proofs.Common.{ap, ◌∙◌}
use Rattle.std.specs.FinMap.{get}
use Rattle.cut_measure.specs.Codes.{code_cmp}
use Rattle.shop_rows.specs.Keys.{import_key}
use Rattle.shop_rows.specs.Rows.{row_at}
use Rattle.shop_book.proofs.Held.{get-rows}
use Rattle.shop_book.proofs.mem_storing.MemStorageStorage.import.Goals as goal

pub returns-clause-row : goal.returns-clause-row
returns-clause-row c clean m was =
    c.in_ok-row.ensures ∙ ap (row_at import_key code_cmp c.args.order) c.deref.ensures.value
    ∙ get-rows import_key code_cmp c.args.self.now.imports.items c.args.order c.args.self.now.imports_rise
    ∙ ap (λ imports. get imports c.args.order) was.imports
