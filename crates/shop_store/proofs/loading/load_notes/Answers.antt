use Rattle.std.proofs.Common.{◌∙◌, arith}
use Rattle.std.proofs.lemmas.Result.{IfOk-weaker}
use Rattle.std.specs.FinMap.{values}
use Rattle.sqlite.specs.Held.{state}
use Rattle.sqlite.specs.State.{HasCleanDisk}
use Rattle.shop_store.specs.Loading.{put_note}
use Rattle.shop_store.proofs.Loads.{all_fit}
use Rattle.shop_store.proofs.loading.load_notes.Goals as goal

pub returns-in_err-rows-clause-leaves : goal.returns-in_err-rows-clause-leaves
returns-in_err-rows-clause-leaves g c = c.note_rows.ensures.gives.leaves

pub returns-clause-leaves : goal.returns-clause-leaves
returns-clause-leaves g c = c.note_rows.ensures.gives.leaves

pub returns-clause-loaded : goal.returns-clause-loaded
returns-clause-loaded g c clean b was =
    let before : HasCleanDisk (state g.S.Store c.args.conn.now) = let l = c.note_rows.ensures.gives.leaves.survives.clean in omega (arith, l, clean) in
    let keyed = (was before (c.in_ok-rows.ensures.gives.was_open clean)).shows.keyed in
    IfOk-weaker c.load_each.result _ _ (λ none it. (it.0, it.1, keyed)) (c.load_each.ensures (values b.content.notes) (c.deref.ensures.value ∙ c.in_ok-rows.ensures.gives.rows clean b was) (all_fit put_note (values b.content.notes) _))
