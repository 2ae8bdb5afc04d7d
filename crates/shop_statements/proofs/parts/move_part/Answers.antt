use Rattle.std.proofs.Common.{pos, [], ◌∷◌, sym, subst, refl}
use Rattle.std.specs.FinMap.{insert}
use Rattle.sqlite.specs.Held.{state}
use Rattle.sqlite_value.specs.declared.value.Value.TheVariants.{Int}
use Rattle.shop_records.specs.Columns.{state_of}
use Rattle.shop_statements.specs.Rows.{state_number}
use Rattle.shop_statements.specs.Shown.{Shows}
use Rattle.shop_statements.specs.Changes.{with_part}
use Rattle.shop_statements.proofs.Texts.{set_part_text, set_part_is}
use Rattle.shop_statements.proofs.Writing.{makes}
use Rattle.shop_statements.proofs.Setting.{sets_part}
use Rattle.shop_statements.specs.Layout.{parts_table}
use Rattle.shop_statements.proofs.Beside.{sets_beside}
use Rattle.shop_statements.proofs.parts.move_part.Goals as goal

pub returns-clause-put : goal.returns-clause-put
returns-clause-put g c b was there same =
    let old = state g.S.Store c.args.tx.now.conn.now in
    let new = state g.S.Store c.run.new.tx.conn.now in
    makes set_part_text (Int (pos c.args.part.now.name.act) ∷ Int (pos c.args.part.now.name.node) ∷ Int (pos (state_number c.args.part.now.state)) ∷ Int (pos (state_of c.args.part.now.state)) ∷ []) old new b (with_part c.args.part.now b) c.run.result (rw (c.params-to_sql.ensures, c.params-to_sql-2.ensures, c.params-to_sql-3.ensures, c.params-to_sql-4.ensures, c.act.ensures.value, c.node.ensures, c.number_of_state.ensures, c.of.ensures) at c.run.ensures.has_run)
    (λ count has ran. subst (λ p. Shows new (record b { content = record b.content { parts = insert b.content.parts c.args.part.now.name p } })) (sym same) (sets_part old new count b has c.args.part.now.name was c.args.part.now.state (rw c.of.ensures at c.of.type_inv) there (has.keyed.parts c.args.part.now.name was there) ran))

pub returns-clause-others : goal.returns-clause-others
returns-clause-others g c =
    let old = state g.S.Store c.args.tx.now.conn.now in
    sets_beside set_part_text _ old (state g.S.Store c.run.new.tx.conn.now) c.run.result 2 parts_table (λ h. h.parts) (λ h. refl) _ (set_part_is old.now.schema) c.run.ensures.has_run
