use Rattle.std.proofs.Common.{map, sym, ◌∙◌, arith}
use Rattle.std.proofs.lemmas.Result.{IfOk-weaker}
use Rattle.std.specs.FinMap.{entries}
use Rattle.sqlite.specs.Held.{state}
use Rattle.sqlite.specs.State.{HasCleanDisk}
use Rattle.shop_tables.specs.Listing.{code_row, key_of}
use Rattle.shop_tables.proofs.AllTotals.{all_totals}
use Rattle.shop_tables.proofs.EarlierRows.{stays_second}
use Rattle.shop_statements.proofs.Lists.{map-map}
use Rattle.shop_statements.proofs.Reading.{leaves_then}
use Rattle.shop_tables.proofs.listing.list_totals.Goals as goal

pub returns-clause-rows : goal.returns-clause-rows
returns-clause-rows g c clean b was =
    let before : HasCleanDisk (state g.S.Store c.material_rows.new.conn) = let l = c.totals_rows.ensures.leaves.survives.clean in omega (arith, l) in
    IfOk-weaker c.read_all.result _ _ (all_totals b (c.in_ok-materials.ensures.coded before b was))
    (c.read_all.ensures (map key_of (entries b.content.materials)) (entries b.totals) (c.deref.ensures.value ∙ c.in_ok-materials.ensures.rows before b was ∙ sym (map-map code_row key_of (entries b.content.materials))) (c.deref-2.ensures.value ∙ c.in_ok-totals.ensures.rows clean b (c.material_rows.ensures.leaves.stays b was)))

pub returns-in_err-totals-clause-leaves : goal.returns-in_err-totals-clause-leaves
returns-in_err-totals-clause-leaves g c = leaves_then _ _ _ c.material_rows.ensures.leaves c.totals_rows.ensures.leaves

pub returns-clause-leaves : goal.returns-clause-leaves
returns-clause-leaves g c = leaves_then _ _ _ c.material_rows.ensures.leaves c.totals_rows.ensures.leaves

pub returns-clause-second : goal.returns-clause-second
returns-clause-second g c clean b was =
    let before : HasCleanDisk (state g.S.Store c.material_rows.new.conn) = let l = c.totals_rows.ensures.leaves.survives.clean in omega (arith, l) in
    IfOk-weaker c.read_all.result _ _ (all_totals b (c.in_ok-materials.ensures.second_coded before b was))
    (c.read_all.ensures (map key_of (entries b.content.materials)) (entries b.totals) (c.deref.ensures.value ∙ c.in_ok-materials.ensures.second before b was ∙ sym (map-map code_row key_of (entries b.content.materials))) (c.deref-2.ensures.value ∙ c.in_ok-totals.ensures.second clean b (stays_second (state g.S.Store c.args.conn.now) (state g.S.Store c.material_rows.new.conn) b c.material_rows.ensures.leaves was)))
