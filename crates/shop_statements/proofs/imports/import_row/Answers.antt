use Rattle.std.proofs.Common.{◌≡◌, [], ◌∷◌, refl}
use Rattle.sqlite.specs.Held.{state}
use Rattle.sqlite_value.specs.declared.value.Value.TheVariants.{Text}
use Rattle.shop_records.specs.Content.{import_at}
use Rattle.shop_records.specs.declared.imports.ImportRow.{ImportRow}
use Rattle.shop_statements.specs.Rows.{import_columns}
use Rattle.shop_statements.proofs.Texts.{by_one, get_import_text, get_import_terms, get_import_is, get_import_selects}
use Rattle.shop_statements.proofs.Reading.{asked, row_given}
use Rattle.shop_statements.proofs.UnderKeys.{under}
use Rattle.shop_statements.proofs.Finding.{finds_import}
use Rattle.shop_statements.proofs.imports.import_row.Goals as goal
use Rattle.std.proofs.lemmas.Result.{IfOk-weaker}

pub returns-clause-row : goal.returns-clause-row
returns-clause-row g c clean b was =
    let old = state g.S.Store c.args.conn.now in
    let new = state g.S.Store c.row_by_text.new.conn in
    row_given get_import_text (Text c.args.order ∷ []) old new get_import_selects c.row_by_text.ensures.leaves (λ (row : ImportRow). row.order ≡ c.args.order) import_columns (import_at b.content c.args.order) b c.row_by_text.result clean was
    (λ rows has. finds_import old new rows b has c.args.order) (λ has. has.keyed.imports c.args.order) (rw c.as_str.ensures.value at (c.row_by_text.ensures.row clean))

pub returns-clause-leaves : goal.returns-clause-leaves
returns-clause-leaves g c = c.row_by_text.ensures.leaves get_import_selects

pub returns-clause-stands : goal.returns-clause-stands
returns-clause-stands g c clean h =
    let old = state g.S.Store c.args.conn.now in
    let new = state g.S.Store c.row_by_text.new.conn in
    IfOk-weaker c.row_by_text.result _ _
    (λ row given. under (old.now.trees 13) 1 (Text c.args.order ∷ []) 4 2 given.rows (asked old new h get_import_text (Text c.args.order ∷ []) 13 by_one get_import_terms _ (get_import_is old.now.schema h) refl given.rows given.shown) row given.among given.none)
    (rw c.as_str.ensures.value at (c.row_by_text.ensures.row clean))
