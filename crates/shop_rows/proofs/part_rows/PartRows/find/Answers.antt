use Rattle.std.proofs.Common.{◌<◌, List, length, sym, ap, subst, ◌∙◌}
use Rattle.std.specs.Prelude.{IsTrue}
use Rattle.std.specs.Option.{option_map}
use Rattle.cut_measure.specs.Names.{name_cmp}
use Rattle.shop_rows.specs.PartRows.{part_of, row_key}
use Rattle.shop_rows.specs.Rows.{rise, row_at}
use Rattle.shop_rows.specs.declared.part_rows.Origin.{Origin}
use Rattle.shop_rows.specs.declared.part_rows.PartRow.{PartRow}
use Rattle.shop_rows.proofs.Packed.{found-parts, known-found, rise-parts}
use Rattle.shop_rows.proofs.part_rows.PartRows.find.Goals as goal

pub find-row-requires : goal.find-row-requires
find-row-requires c = subst (λ (rows : List PartRow). IsTrue (rise row_key name_cmp rows)) (sym c.deref.ensures.value) (sym (rise-parts c.args.self.now) ∙ c.requires.rising)

pub unpack_found-requires : goal.unpack_found-requires
unpack_found-requires c = λ row is.
    subst (λ (origins : List Origin). row.origin < length origins) (sym c.deref-2.ensures.value)
    (known-found c.args.name row c.args.self.now c.requires.known (sym (c.find-row.ensures.row ∙ ap (row_at row_key name_cmp c.args.name) c.deref.ensures.value) ∙ is))

pub returns : goal.returns
returns c =
    let parts = c.args.self.now in
    c.unpack_found.ensures ∙ ap (λ (origins : List Origin). option_map (part_of origins) c.find-row.result) c.deref-2.ensures.value
    ∙ ap (option_map (part_of parts.origins.items)) (c.find-row.ensures.row ∙ ap (row_at row_key name_cmp c.args.name) c.deref.ensures.value) ∙ sym (found-parts c.args.name parts)
