use Rattle.std.proofs.Common.{get_or, ap, sym, ◌∙◌, arith}
use Rattle.std.proofs.lemmas.List.{length-map}
use Rattle.shop_records.specs.Content.{of_found}
use Rattle.shop_rows.specs.PartRows.{part_of, parts_in}
use Rattle.shop_rows.specs.Sums.{cells_for}
use Rattle.shop_rows.proofs.Summed.{cells_bounded}
use Rattle.shop_book.proofs.Replaced.{replaced_counted, cells-put, small-put}
use Rattle.cut_measure.specs.Names.{name_cmp}
use Rattle.shop_rows.specs.Keys.{part_key}
use Rattle.shop_rows.specs.Open.{finds_with}
use Rattle.shop_rows.specs.Rows.{row_at}
use Rattle.shop_rows.proofs.Listed.{found_put, lists_same}
use Rattle.shop_book.proofs.memory_parts.put_part.Goals as goal

pub list_part-requires-clause-spare : goal.list_part-requires-clause-spare
list_part-requires-clause-spare c = c.requires.spares.names 0 c.args.part.now (omega arith)

pub take_replaced-requires-clause-held : goal.take_replaced-requires-clause-held
take_replaced-requires-clause-held c = λ old is column.
    replaced_counted column c.args.part.now.name old (parts_in c.args.parts.now) c.args.totals.now.items c.requires.tally.sums (sym c.put-replaced.ensures.replaced ∙ is)

pub add_part-requires-clause-fits : goal.add_part-requires-clause-fits
add_part-requires-clause-fits c = λ column.
    let parts = c.args.parts.now in
    let taken = c.take_replaced.ensures.takes column c.args.part.now.material in
    let sums = c.requires.tally.sums column c.args.part.now.material in
    let bound = cells_bounded column c.args.part.now.material (parts_in parts) c.requires.tally.small in
    let rows = length-map parts.rows.items (part_of parts.origins.items) in
    let len = c.len-len.ensures in
    let cells = c.cells-cells.ensures.value in
    omega (arith, taken, sums, bound, rows, len, cells, c.cells-cells.ensures.most, c.len-len.type_inv)

pub returns-clause-tally : goal.returns-clause-tally
returns-clause-tally c =
    let part = c.args.part.now in
    let old = parts_in c.args.parts.now in
    let new = parts_in c.put-replaced.new.self in
    record {
      rising = c.put-replaced.ensures.rising;
      small = small-put part old new (omega (arith, c.cells-cells.ensures.value, c.cells-cells.ensures.most)) c.requires.tally.small c.put-replaced.ensures.put;
      materials = c.add_part.ensures.rising;
      sums = λ column code.
          let adds = c.add_part.ensures.adds column code in
          let takes = c.take_replaced.ensures.takes column code in
          let sums = c.requires.tally.sums column code in
          let cells = cells-put column code part old new c.requires.tally.rising c.put-replaced.ensures.put in
          let replaced = ap (of_found (cells_for column code)) c.put-replaced.ensures.replaced in
          omega (arith, adds, takes, sums, cells, replaced);
      order = c.list_part.ensures.order;
      listed =
          lists_same (finds_with name_cmp part.name part (λ name. row_at part_key name_cmp name old)) (λ name. row_at part_key name_cmp name new) c.list_part.new.lists.items (found_put part old new c.put-replaced.ensures.put)
          (c.list_part.ensures.lists (λ name. row_at part_key name_cmp name old) c.requires.tally.listed (sym c.put-replaced.ensures.replaced));
    }

pub returns-clause-spares : goal.returns-clause-spares
returns-clause-spares c = λ count rows spares.
    record {
      spare = c.put-replaced.ensures.spare count spares.spare;
      sums =
          let before = spares.sums in
          omega (arith, before, c.take_replaced.ensures.len, c.take_replaced.ensures.capacity, c.add_part.ensures.len, c.add_part.ensures.capacity);
      names = λ k d within.
          let before = spares.names k d within in
          let step = c.list_part.ensures.spare (get_or rows k d).material in
          omega (arith, before, step);
    }
