use Rattle.std.proofs.Common.{[], ◌∷◌, pos, arith}
use Rattle.std.proofs.lemmas.Result.{IfOk-weaker}
use Rattle.sqlite.specs.Held.{state}
use Rattle.sqlite.specs.State.{HasCleanDisk}
use Rattle.sqlite_value.specs.declared.value.Value.TheVariants.{Int}
use Rattle.shop_statements.proofs.Kept.{shown_open}
use Rattle.shop_tables.proofs.LastNumbers.{finds_last}
use Rattle.shop_tables.proofs.ListTexts.{last_number_text, last_number_selects}
use Rattle.shop_tables.proofs.RowsAsShown.{last_row_shown}
use Rattle.shop_tables.proofs.last_numbers.last_row.Goals as goal

pub returns-clause-row : goal.returns-clause-row
returns-clause-row g c clean b was =
    let old = state g.S.Store c.args.conn.now in
    let new = state g.S.Store c.row_by_number.new.conn in
    let before : HasCleanDisk old = let l = (c.row_by_number.ensures.leaves last_number_selects).survives.clean in omega (arith, l) in
    IfOk-weaker c.row_by_number.result _ _
    (λ row given.
    let has = (was before (shown_open last_number_text (Int (pos c.args.terminal) ∷ []) old new given.rows given.shown)).shows in
    finds_last old new b has c.args.terminal given.rows given.shown row given.only)
    (c.row_by_number.ensures.row clean)

pub returns-clause-leaves : goal.returns-clause-leaves
returns-clause-leaves g c = c.row_by_number.ensures.leaves last_number_selects

pub returns-clause-stands : goal.returns-clause-stands
returns-clause-stands g c clean h =
    IfOk-weaker c.row_by_number.result _ _ (λ row given. last_row_shown (state g.S.Store c.args.conn.now) (state g.S.Store c.row_by_number.new.conn) h c.args.terminal row given) (c.row_by_number.ensures.row clean)
