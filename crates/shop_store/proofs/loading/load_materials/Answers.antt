use Rattle.std.proofs.Common.{◌∙◌, arith}
use Rattle.std.proofs.lemmas.Result.{IfOk-weaker}
use Rattle.sqlite.specs.Held.{state}
use Rattle.sqlite.specs.State.{HasCleanDisk}
use Rattle.shop_records.specs.Lists.{materials_of}
use Rattle.shop_store.specs.Loading.{put_material}
use Rattle.shop_store.proofs.HeldEither.{either, keyed_either, ok_so}
use Rattle.shop_store.proofs.Loads.{all_fit}
use Rattle.shop_store.proofs.loading.load_materials.Goals as goal

pub returns-in_err-rows-clause-leaves : goal.returns-in_err-rows-clause-leaves
returns-in_err-rows-clause-leaves g c = c.material_rows.ensures.gives.leaves

pub returns-clause-leaves : goal.returns-clause-leaves
returns-clause-leaves g c = c.material_rows.ensures.gives.leaves

pub returns-clause-loaded : goal.returns-clause-loaded
returns-clause-loaded g c clean b was =
    let before : HasCleanDisk (state g.S.Store c.args.conn.now) = let l = c.material_rows.ensures.gives.leaves.survives.clean in omega (arith, l, clean) in
    let keyed = keyed_either (state g.S.Store c.args.conn.now) b before (c.in_ok-rows.ensures.gives.was_open clean) was in
    let rows = either was (c.in_ok-rows.ensures.gives.rows clean b) (c.in_ok-rows.ensures.second clean b) (c.in_ok-rows.ensures.earlier clean b) in
    IfOk-weaker c.load_each.result _ _ (λ none it. (it.0, it.1, keyed)) (c.load_each.ensures (materials_of b.content) (c.deref.ensures.value ∙ rows) (all_fit put_material (materials_of b.content) _))

pub returns-clause-second : goal.returns-clause-second
returns-clause-second g c clean b was =
    let before : HasCleanDisk (state g.S.Store c.args.conn.now) = let l = c.material_rows.ensures.gives.leaves.survives.clean in omega (arith, l, clean) in
    ok_so c.load_each.result (was before (c.in_ok-rows.ensures.gives.was_open clean)).shows.stands.later

pub returns-clause-earlier : goal.returns-clause-earlier
returns-clause-earlier g c clean b was =
    let before : HasCleanDisk (state g.S.Store c.args.conn.now) = let l = c.material_rows.ensures.gives.leaves.survives.clean in omega (arith, l, clean) in
    ok_so c.load_each.result (was before (c.in_ok-rows.ensures.gives.was_open clean)).shows.stands.later
