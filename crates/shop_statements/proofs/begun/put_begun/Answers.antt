use Rattle.std.proofs.Common.{[], ◌∷◌, OnOk, subst}
use Rattle.sqlite.specs.Held.{state}
use Rattle.shop_statements.specs.Changes.{with_begun, without_begun}
use Rattle.shop_statements.specs.Layout.{begun_table}
use Rattle.shop_statements.specs.Shown.{Makes}
use Rattle.shop_statements.proofs.Beside.{spares_then}
use Rattle.shop_statements.proofs.Noting.{begun_gone, begun_over}
use Rattle.shop_statements.proofs.Steps.{makes_over, on_ok_both, ran_over, went_as, within_then}
use Rattle.shop_statements.proofs.begun.put_begun.Goals as goal

pub returns-clause-ran : goal.returns-clause-ran
returns-clause-ran g c = ran_over c.add_begun.result _ _ _ c.in_ok-clear_begun.ensures.ran c.add_begun.ensures.ran

pub returns-clause-put : goal.returns-clause-put
returns-clause-put g c b =
    let row = c.args.begun.now in
    let old = state g.S.Store c.args.tx.now.conn.now in
    let mid = state g.S.Store c.clear_begun.new.tx.conn.now in
    let new = state g.S.Store c.add_begun.new.tx.conn.now in
    subst (λ x. OnOk c.add_begun.result (Makes old new b x)) (begun_over row b)
    (makes_over c.add_begun.result old mid new b (without_begun c.args.begun.now.job b) (with_begun row (without_begun c.args.begun.now.job b)) c.in_ok-clear_begun.ensures.ran c.add_begun.ensures.ran (c.in_ok-clear_begun.ensures.put b) (c.add_begun.ensures.put (without_begun c.args.begun.now.job b) (begun_gone row b)))

pub returns-clause-others : goal.returns-clause-others
returns-clause-others g c =
    let old = state g.S.Store c.args.tx.now.conn.now in
    let mid = state g.S.Store c.clear_begun.new.tx.conn.now in
    let new = state g.S.Store c.add_begun.new.tx.conn.now in
    on_ok_both c.add_begun.result c.add_begun.ensures.ran c.add_begun.ensures.others (λ ran spares. spares_then (begun_table.tree ∷ []) old mid new (went_as old mid c.in_ok-clear_begun.ensures.ran) (went_as mid new ran) c.in_ok-clear_begun.ensures.others spares)

pub returns-clause-within : goal.returns-clause-within
returns-clause-within g c = within_then _ _ _ c.clear_begun.ensures.within c.add_begun.ensures.within
