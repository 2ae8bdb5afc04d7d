use Rattle.std.proofs.Common.{◌≡◌, List, None, length, map, sym, ap, subst, ◌∙◌, arith}
use Rattle.std.specs.Prelude.{All}
use Rattle.std.specs.List.{insert_slice}
use Rattle.cut_measure.specs.Names.{name_cmp}
use Rattle.std.proofs.lemmas.List.{length-map}
use Rattle.shop_rows.specs.Keys.{part_key, names_exact, names_total}
use Rattle.shop_rows.specs.PartRows.{part_of, parts_in, row_key}
use Rattle.shop_rows.specs.Rows.{rise, row_at, ArePut}
use Rattle.shop_rows.specs.declared.part_rows.PartRow.{PartRow}
use Rattle.shop_rows.specs.declared.part_rows.PartRows.{PartRows}
use Rattle.shop_rows.proofs.Packed.{bare, rise-parts, rise_bare, run_absent, run_are_put, run_back, run_bare, run_inserted, run_known}
use Rattle.shop_rows.proofs.Places.{met, rise-put_each, rise_inside, tested}
use Rattle.shop_rows.proofs.part_rows.PartRows.put_run.Goals as goal

pub gap-requires : goal.gap-requires
gap-requires c = ap (λ (rows : List PartRow). rise row_key name_cmp rows) c.deref.ensures.value ∙ sym (rise-parts c.args.self.now) ∙ c.requires.rising

pub returns-clause-put : goal.returns-clause-put
returns-clause-put c = λ _.
    let old = c.args.self.now in
    let mid = c.append_all.new.self in
    let appended = c.append_all.ensures in
    let run = run_back c.args.added.now old mid appended c.requires.known _ _ c.in-Some.ensures.run in
    run_are_put c.args.added.now old mid appended c.requires.known c.in-Some-gap.i c.move_back.new.rows.items
    (c.move_back.ensures.moved old.rows.items appended.back appended.rows (omega (arith, c.len-from.ensures)))
    (subst (λ (rows : List PartRow). ArePut row_key name_cmp appended.back rows (insert_slice rows c.in-Some-gap.i appended.back)) c.deref.ensures.value (c.in-Some-gap.ensures.put appended.back run))

pub returns-clause-new : goal.returns-clause-new
returns-clause-new c = λ _.
    let old = c.args.self.now in
    let mid = c.append_all.new.self in
    let appended = c.append_all.ensures in
    let run = run_back c.args.added.now old mid appended c.requires.known _ _ c.in-Some.ensures.run in
    run_absent c.args.added.now old mid appended c.requires.known
    (subst (λ (rows : List PartRow). All (λ row. row_at row_key name_cmp row.name rows ≡ None) appended.back) c.deref.ensures.value (c.in-Some-gap.ensures.new appended.back run))

pub returns-clause-run : goal.returns-clause-run
returns-clause-run c = λ _.
    let old = c.args.self.now in
    let appended = c.append_all.ensures in (
      c.in-Some-gap.i,
      run_inserted c.args.added.now old c.append_all.new.self appended c.requires.known c.in-Some-gap.i c.move_back.new.rows.items
          (c.move_back.ensures.moved old.rows.items appended.back appended.rows (omega (arith, c.len-from.ensures))),
    )

pub returns-clause-rising : goal.returns-clause-rising
returns-clause-rising c = λ is.
    let new : PartRows = record { rows = c.move_back.new.rows; origins = c.append_all.new.self.origins; recent = c.append_all.new.self.recent } in
    rise-put_each part_key name_cmp names_total c.args.added.now (parts_in c.args.self.now) (parts_in new) (returns-clause-put c is) c.requires.rising

pub returns-clause-known : goal.returns-clause-known
returns-clause-known c =
    let old = c.args.self.now in
    let appended = c.append_all.ensures in
    run_known c.args.added.now old c.append_all.new.self appended c.requires.known c.in-Some-gap.i c.move_back.new.rows.items
    (c.move_back.ensures.moved old.rows.items appended.back appended.rows (omega (arith, c.len-from.ensures)))

-- parts that would rise among the others were put
pub returns-in_default-clause-apart : goal.returns-in_default-clause-apart
returns-in_default-clause-apart c = λ _ i within together.
    c.in_default.ensures.none (met _ (rise_inside part_key name_cmp names_total names_exact (parts_in c.args.self.now) c.args.added.now i (tested _ together)))

pub returns-in_default-gap-clause-apart : goal.returns-in_default-gap-clause-apart
returns-in_default-gap-clause-apart c = λ _ i within together.
    let old = c.args.self.now in
    let added = c.args.added.now in
    let all : length (parts_in old) ≡ length old.rows.items = length-map old.rows.items (part_of old.origins.items) in
    let here : length c.deref.result.now ≡ length old.rows.items = ap length c.deref.ensures.value in
    absurd (c.in_default-gap.ensures.none (map bare added) i (run_bare _ _ added c.in-Some.ensures.run) (omega (arith, within, all, here))
    (ap (λ (rows : List PartRow). rise row_key name_cmp (insert_slice rows i (map bare added))) c.deref.ensures.value ∙ rise_bare old added i ∙ together))
