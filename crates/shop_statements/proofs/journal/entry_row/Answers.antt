use Rattle.std.proofs.Common.{pos, [], ◌∷◌}
use Rattle.sqlite.specs.Held.{state}
use Rattle.sqlite_value.specs.declared.value.Value.TheVariants.{Int}
use Rattle.shop_records.specs.Content.{entry_at}
use Rattle.shop_statements.specs.Rows.{entry_columns}
use Rattle.shop_statements.specs.Values.{IsOwnEntry}
use Rattle.shop_statements.proofs.Texts.{get_entry_text, get_entry_selects}
use Rattle.shop_statements.proofs.Reading.{row_given}
use Rattle.shop_statements.proofs.Finding.{finds_entry}
use Rattle.shop_statements.proofs.journal.entry_row.Goals as goal

pub returns-clause-row : goal.returns-clause-row
returns-clause-row g c clean b was =
    let old = state g.S.Store c.args.conn.now in
    let new = state g.S.Store c.row_by_count.new.conn in
    row_given get_entry_text (Int (pos c.args.number) ∷ []) old new get_entry_selects c.row_by_count.ensures.leaves (IsOwnEntry c.args.number) entry_columns (entry_at b.content c.args.number) b c.row_by_count.result clean was
    (λ rows has. finds_entry old new rows b has c.args.number) (λ has x there. (has.keyed.entries c.args.number x there, has.keyed.noted c.args.number x there)) (c.row_by_count.ensures.row clean)

pub returns-clause-leaves : goal.returns-clause-leaves
returns-clause-leaves g c = c.row_by_count.ensures.leaves get_entry_selects
