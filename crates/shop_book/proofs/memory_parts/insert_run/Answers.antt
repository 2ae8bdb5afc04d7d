use Rattle.std.proofs.Common.{◌≡◌, ℕ, ◌+◌, List, get_or, refl, sym, ap, ◌∙◌, arith}
use Rattle.cut_measure.specs.Names.{name_cmp}
use Rattle.shop_records.specs.Content.{cells_in}
use Rattle.shop_rows.specs.declared.sums.Sums.{Sums}
use Rattle.shop_rows.specs.Rows.{map_of}
use Rattle.shop_rows.specs.Sums.{sum_in, sum_at, all_small}
use Rattle.shop_rows.specs.Keys.{part_key, names_total}
use Rattle.shop_book.proofs.Held.{map_after, parts_after}
use Rattle.std.proofs.lemmas.List.{length-map}
use Rattle.shop_rows.specs.PartRows.{part_of, parts_in}
use Rattle.shop_rows.proofs.Mapped.{all-inserted}
use Rattle.shop_rows.proofs.Summed.{added_all, cells_bounded, is_small}
use Rattle.shop_book.proofs.Replaced.{cells-inserted}
use Rattle.std.specs.Prelude.{All, IfSome, Option, Some, None}
use Rattle.cut_measure.specs.Names.{Name}
use Rattle.shop_records.specs.declared.records.Part.{Part}
use Rattle.shop_rows.specs.Open.{finds_with_all}
use Rattle.shop_rows.specs.Rows.{row_at}
use Rattle.shop_rows.proofs.Listed.{found_put_each, keep_one, lists_same}
use Rattle.shop_book.proofs.memory_parts.insert_run.Goals as goal

pub with_all-requires : goal.with_all-requires
with_all-requires c = λ column.
    let parts = c.args.parts.now in
    let material = c.in-Some.first.now.material in
    let before = c.sums_of-before.ensures.sums column ∙ ap (λ (rows : List Sums). sum_at column material rows) c.deref.ensures.value in
    let bound = cells_bounded column material (parts_in parts) c.requires.tally.small in
    let rows = length-map parts.rows.items (part_of parts.origins.items) in
    let spare = c.requires.spares.spare.rows in
    omega (arith, before, c.requires.tally.sums column material, bound, rows, c.len-len.ensures, c.capacity-spare.ensures, c.capacity-spare.type_inv, spare)

pub returns-clause-put : goal.returns-clause-put
returns-clause-put c = λ _.
    let old = parts_in c.args.parts.now in
    map_after part_key name_cmp names_total c.args.rows.now old old (parts_in c.put_run.new.self) c.requires.tally.rising refl (c.put_run.ensures.put c.if-not-put_run.false)
    ∙ parts_after c.args.rows.now (map_of part_key name_cmp old)

pub returns-clause-tally : goal.returns-clause-tally
returns-clause-tally c = λ _.
    let rows = c.args.rows.now in
    let old = parts_in c.args.parts.now in
    let new = parts_in c.put_run.new.self in
    let totals = c.args.totals.now.items in
    let run = c.put_run.ensures.run c.if-not-put_run.false in
    let own = c.sums_of-before.result.code in
    let before = λ (name : Name). row_at part_key name_cmp name old in
    let absent = c.put_run.ensures.new c.if-not-put_run.false in
    let alike : All (λ (part : Part). part.material ≡ own) rows = c.in-Some-with_all.ensures.own refl in
    record {
      rising = c.put_run.ensures.rising c.if-not-put_run.false;
      small = ap all_small run.1 ∙ all-inserted is_small old rows run.0 c.requires.tally.small (c.in-Some-with_all.ensures.small refl);
      materials = c.put.ensures.rising;
      sums = λ column code.
          let first : sum_in column c.sums_of-before.result ≡ sum_at column own totals =
          c.sums_of-before.ensures.sums column ∙ ap (λ (sums : List Sums). sum_at column c.in-Some.first.now.material sums) c.deref.ensures.value ∙ ap (λ m. sum_at column m totals) (sym c.sums_of-before.ensures.code) in
          let adds =
          added_all column code c.in-Some-with_all.sums totals c.put.new.rows.items c.put.ensures.put own rows c.in-Some-with_all.ensures.code (c.in-Some-with_all.ensures.others refl column code)
          (c.in-Some-with_all.ensures.sums column ∙ ap (λ n. n + cells_in column own rows) first) in
          omega (arith, adds, c.requires.tally.sums column code, cells-inserted column code old rows run.0, ap (cells_in column code) run.1);
      order = c.list_all.ensures.order;
      listed =
          lists_same (finds_with_all part_key name_cmp rows before) (λ name. row_at part_key name_cmp name new) c.list_all.new.lists.items (found_put_each part_key name_cmp names_total rows old new (c.put_run.ensures.put c.if-not-put_run.false))
          (c.list_all.ensures.lists before c.requires.tally.listed
          (keep_one own rows before (λ k d lt. none_of own (row_at part_key name_cmp (get_or rows k d).name old) (absent k d lt)) alike));
    }
  where
    none_of : (code : List ℕ) (found : Option Part) → found ≡ None → IfSome found (λ part. part.material ≡ code)
    none_of code None is = tt
    none_of code (Some part) is = cc
