use Rattle.cut_measure.specs.Codes.{code_cmp}
use Rattle.shop_rows.specs.Keys.{material_key}
use Rattle.shop_book.specs.Equal.{material_decides}
use Rattle.shop_book.proofs.Held.{rows_decide}
use Rattle.shop_book.proofs.ledger.Ledger.has_materials_of.Goals as goal

pub returns : goal.returns
returns c =
    let mine = c.args.self.now in
    let its = c.args.other.now in
    rows_decide material_key code_cmp material_decides mine.materials.items its.materials.items c.eq.result c.eq.ensures mine.kept_up.materials_rise its.kept_up.materials_rise
