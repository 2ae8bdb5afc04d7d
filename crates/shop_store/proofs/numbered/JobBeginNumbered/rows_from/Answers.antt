use Rattle.std.proofs.Common.{arith}
use Rattle.std.proofs.lemmas.Result.{IfOk-weaker}
use Rattle.std.specs.Cmp.{nat_cmp_total}
use Rattle.std.specs.FinMap.{nat_cmp-IsAntisymmetric}
use Rattle.std.specs.Ordering.{nat_cmp}
use Rattle.sqlite.specs.Held.{state}
use Rattle.sqlite.specs.State.{HasCleanDisk}
use Rattle.shop_rows.specs.Keys.{begin_key}
use Rattle.shop_book.proofs.Loaded.{values_rise}
use Rattle.shop_store.proofs.HeldEither.{either, keyed_either}
use Rattle.shop_store.proofs.numbered.JobBeginNumbered.rows_from.Goals as goal

pub returns-clause-rising : goal.returns-clause-rising
returns-clause-rising g c clean b was =
    let before : HasCleanDisk (state g.S.Store c.args.conn.now) = let l = c.begun_rows_from.ensures.leaves.survives.clean in omega (arith, l, clean) in
    IfOk-weaker c.begun_rows_from.result _ _ (λ rows up. let keyed = keyed_either (state g.S.Store c.args.conn.now) b before up was in values_rise nat_cmp nat_cmp_total nat_cmp-IsAntisymmetric begin_key b.content.begun keyed.begun) (c.begun_rows_from.ensures.was_open clean)

pub returns-clause-rows : goal.returns-clause-rows
returns-clause-rows g c clean b was = either was (c.begun_rows_from.ensures.rows clean b) (λ two. IfOk-weaker c.begun_rows_from.result _ _ (λ rows none. absurd none) (c.begun_rows_from.ensures.second clean b two))
    (λ one. IfOk-weaker c.begun_rows_from.result _ _ (λ rows none. absurd none) (c.begun_rows_from.ensures.earlier clean b one))
