use Rattle.std.proofs.Common.{◌<◌, List, length, sym, ap, subst, ◌∙◌}
use Rattle.std.specs.Option.{option_map}
use Rattle.cut_measure.specs.Names.{name_cmp}
use Rattle.shop_rows.specs.Keys.{part_key, names_total}
use Rattle.shop_rows.specs.PartRows.{part_of, parts_in, row_key}
use Rattle.shop_rows.specs.Rows.{rise, row_at}
use Rattle.shop_rows.specs.declared.part_rows.Origin.{Origin}
use Rattle.shop_rows.specs.declared.part_rows.PartRows.{PartRows}
use Rattle.shop_rows.proofs.Packed.{found-parts, known-found, known_mid, known_put, part_put, rise-parts, same_mid}
use Rattle.shop_rows.proofs.Places.{rise-put}
use Rattle.shop_rows.proofs.part_rows.PartRows.put.Goals as goal

pub number_of-number-requires-clause-rising : goal.number_of-number-requires-clause-rising
number_of-number-requires-clause-rising c = sym (rise-parts c.args.self.now) ∙ c.requires.rising

pub put-replaced-requires-clause-rising : goal.put-replaced-requires-clause-rising
put-replaced-requires-clause-rising c = ap (λ rows. rise row_key name_cmp rows.items) c.number_of-number.ensures.rows ∙ sym (rise-parts c.args.self.now) ∙ c.requires.rising

pub unpack_found-requires : goal.unpack_found-requires
unpack_found-requires c = λ row is.
    let mid = c.number_of-number.new.self in
    subst (λ (origins : List Origin). row.origin < length origins) (sym c.deref.ensures.value)
    (known-found (row_key c.pack.result) row mid (known_mid c.args.part.now c.number_of-number.result c.args.self.now mid c.number_of-number.ensures c.requires.known) (sym c.put-replaced.ensures.replaced ∙ is))

pub returns-clause-put : goal.returns-clause-put
returns-clause-put c =
    let mid = c.number_of-number.new.self in
    part_put c.args.part.now c.number_of-number.result c.args.self.now mid c.number_of-number.ensures c.requires.known c.pack.result c.pack.ensures.origin
    (c.pack.ensures.part mid.origins.items c.number_of-number.ensures.origin) c.put-replaced.new.rows.items c.put-replaced.ensures.put

pub returns-clause-replaced : goal.returns-clause-replaced
returns-clause-replaced c =
    let mid = c.number_of-number.new.self in
    c.unpack_found.ensures ∙ ap (λ (origins : List Origin). option_map (part_of origins) c.put-replaced.result) c.deref.ensures.value
    ∙ ap (option_map (part_of mid.origins.items)) c.put-replaced.ensures.replaced
    ∙ sym (found-parts (row_key c.pack.result) mid)
    ∙ ap (row_at part_key name_cmp (row_key c.pack.result)) (same_mid c.args.part.now c.number_of-number.result c.args.self.now mid c.number_of-number.ensures c.requires.known)
    ∙ ap (λ name. row_at part_key name_cmp name (parts_in c.args.self.now)) c.pack.ensures.key

pub returns-clause-rising : goal.returns-clause-rising
returns-clause-rising c =
    let new : PartRows = record { rows = c.put-replaced.new.rows; origins = c.number_of-number.new.self.origins; recent = c.number_of-number.new.self.recent } in
    rise-put part_key name_cmp names_total c.args.part.now (parts_in c.args.self.now) (parts_in new) (returns-clause-put c) c.requires.rising

pub returns-clause-known : goal.returns-clause-known
returns-clause-known c =
    let mid = c.number_of-number.new.self in
    known_put c.args.part.now c.number_of-number.result c.args.self.now mid c.number_of-number.ensures c.requires.known c.pack.result c.pack.ensures.origin
    (c.pack.ensures.part mid.origins.items c.number_of-number.ensures.origin) c.put-replaced.new.rows.items c.put-replaced.ensures.put
