use Rattle.std.proofs.Common.{pos, codes, [], ◌∷◌, refl}
use Rattle.sqlite.specs.Held.{state}
use Rattle.sqlite_value.specs.declared.value.Value.TheVariants.{Int, Text}
use Rattle.shop_statements.specs.Changes.{with_last_demand}
use Rattle.shop_statements.proofs.Texts.{set_meta_text, set_meta_is}
use Rattle.shop_statements.proofs.Writing.{makes}
use Rattle.shop_statements.proofs.Setting.{sets_last_demand}
use Rattle.shop_statements.specs.Layout.{meta_table}
use Rattle.shop_statements.proofs.Beside.{sets_beside}
use Rattle.shop_statements.proofs.numbers.set_last_demand.Goals as goal

pub returns-clause-put : goal.returns-clause-put
returns-clause-put g c b =
    let old = state g.S.Store c.args.tx.now.conn.now in
    let new = state g.S.Store c.run.new.tx.conn.now in
    makes set_meta_text (Text (codes "demand") ∷ Int (pos c.args.demand) ∷ []) old new b (with_last_demand c.args.demand b) c.run.result (rw (c.params-to_sql.ensures, c.params-to_sql-2.ensures) at c.run.ensures.has_run)
    (λ count has ran. sets_last_demand old new count b has c.args.demand ran)

pub returns-clause-others : goal.returns-clause-others
returns-clause-others g c =
    let old = state g.S.Store c.args.tx.now.conn.now in
    sets_beside set_meta_text _ old (state g.S.Store c.run.new.tx.conn.now) c.run.result 0 meta_table (λ h. h.meta) (λ h. refl) _ (set_meta_is old.now.schema) c.run.ensures.has_run
