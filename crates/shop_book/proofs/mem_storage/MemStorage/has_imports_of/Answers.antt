use Rattle.cut_measure.specs.Codes.{code_cmp}
use Rattle.shop_rows.specs.Keys.{import_key}
use Rattle.shop_book.specs.Equal.{import_decides}
use Rattle.shop_book.proofs.Held.{rows_decide}
use Rattle.shop_book.proofs.mem_storage.MemStorage.has_imports_of.Goals as goal

pub returns : goal.returns
returns c =
    let mine = c.args.self.now in
    let its = c.args.other.now in
    rows_decide import_key code_cmp import_decides mine.imports.items its.imports.items c.eq.result c.eq.ensures mine.imports_rise its.imports_rise
