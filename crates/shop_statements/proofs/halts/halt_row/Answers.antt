use Rattle.std.proofs.Common.{pos, [], ◌∷◌, refl}
use Rattle.std.proofs.lemmas.Result.{IfOk-weaker}
use Rattle.sqlite.specs.Held.{state}
use Rattle.sqlite_value.specs.declared.value.Value.TheVariants.{Int}
use Rattle.shop_records.specs.Content.{halt_at}
use Rattle.shop_statements.specs.Halts.{IsOwnHalt}
use Rattle.shop_statements.specs.Rows.{halt_columns}
use Rattle.shop_statements.proofs.Texts.{by_number, get_halt_text, get_halt_terms, get_halt_is, get_halt_selects}
use Rattle.shop_statements.proofs.Reading.{asked, row_given}
use Rattle.shop_statements.proofs.UnderKeys.{under}
use Rattle.shop_statements.proofs.Finding.{finds_halt}
use Rattle.shop_statements.proofs.halts.halt_row.Goals as goal

pub returns-clause-row : goal.returns-clause-row
returns-clause-row g c clean b was =
    let old = state g.S.Store c.args.conn.now in
    let new = state g.S.Store c.row_by_number.new.conn in
    row_given get_halt_text (Int (pos c.args.job) ∷ []) old new get_halt_selects c.row_by_number.ensures.leaves (IsOwnHalt c.args.job) halt_columns (halt_at b.content c.args.job) b c.row_by_number.result clean was
    (λ rows has. finds_halt old new rows b has c.args.job) (λ has x there. (has.keyed.halts c.args.job x there, has.keyed.halted c.args.job x there)) (c.row_by_number.ensures.row clean)

pub returns-clause-leaves : goal.returns-clause-leaves
returns-clause-leaves g c = c.row_by_number.ensures.leaves get_halt_selects

pub returns-clause-stands : goal.returns-clause-stands
returns-clause-stands g c clean h =
    let old = state g.S.Store c.args.conn.now in
    let new = state g.S.Store c.row_by_number.new.conn in
    IfOk-weaker c.row_by_number.result _ _
    (λ row given. under (old.now.trees 25) 0 (Int (pos c.args.job) ∷ []) 1 2 given.rows (asked old new h get_halt_text (Int (pos c.args.job) ∷ []) 25 by_number get_halt_terms _ (get_halt_is old.now.schema h) refl given.rows given.shown) row given.among given.none)
    (c.row_by_number.ensures.row clean)
