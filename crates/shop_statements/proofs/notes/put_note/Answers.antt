use Rattle.std.proofs.Common.{[], ◌∷◌, OnOk, subst}
use Rattle.sqlite.specs.Held.{state}
use Rattle.shop_statements.specs.Changes.{with_note, without_note}
use Rattle.shop_statements.specs.Layout.{notes_table}
use Rattle.shop_statements.specs.Shown.{Makes}
use Rattle.shop_statements.proofs.Beside.{spares_then}
use Rattle.shop_statements.proofs.Noting.{note_gone, note_over}
use Rattle.shop_statements.proofs.Steps.{makes_over, on_ok_both, ran_over, went_as, within_then}
use Rattle.shop_statements.proofs.notes.put_note.Goals as goal

pub returns-clause-ran : goal.returns-clause-ran
returns-clause-ran g c = ran_over c.add_note.result _ _ _ c.in_ok-clear_note.ensures.ran c.add_note.ensures.ran

pub returns-clause-put : goal.returns-clause-put
returns-clause-put g c b =
    let row = c.args.note.now in
    let old = state g.S.Store c.args.tx.now.conn.now in
    let mid = state g.S.Store c.clear_note.new.tx.conn.now in
    let new = state g.S.Store c.add_note.new.tx.conn.now in
    subst (λ x. OnOk c.add_note.result (Makes old new b x)) (note_over row b)
    (makes_over c.add_note.result old mid new b (without_note c.args.note.now.order b) (with_note row (without_note c.args.note.now.order b)) c.in_ok-clear_note.ensures.ran c.add_note.ensures.ran (c.in_ok-clear_note.ensures.put b) (c.add_note.ensures.put (without_note c.args.note.now.order b) (note_gone row b)))

pub returns-clause-others : goal.returns-clause-others
returns-clause-others g c =
    let old = state g.S.Store c.args.tx.now.conn.now in
    let mid = state g.S.Store c.clear_note.new.tx.conn.now in
    let new = state g.S.Store c.add_note.new.tx.conn.now in
    on_ok_both c.add_note.result c.add_note.ensures.ran c.add_note.ensures.others (λ ran spares. spares_then (notes_table.tree ∷ []) old mid new (went_as old mid c.in_ok-clear_note.ensures.ran) (went_as mid new ran) c.in_ok-clear_note.ensures.others spares)

pub returns-clause-within : goal.returns-clause-within
returns-clause-within g c = within_then _ _ _ c.clear_note.ensures.within c.add_note.ensures.within
