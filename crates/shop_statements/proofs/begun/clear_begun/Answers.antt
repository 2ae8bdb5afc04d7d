use Rattle.std.proofs.Common.{pos, [], ◌∷◌, refl}
use Rattle.sqlite.specs.Held.{state}
use Rattle.sqlite_value.specs.declared.value.Value.TheVariants.{Int}
use Rattle.shop_statements.specs.Changes.{without_begun}
use Rattle.shop_statements.proofs.Texts.{clear_begun_text, clear_begun_is}
use Rattle.shop_statements.proofs.Writing.{makes}
use Rattle.shop_statements.proofs.Noting.{clears_begun}
use Rattle.shop_statements.specs.Layout.{begun_table}
use Rattle.shop_statements.proofs.Beside.{clears_beside}
use Rattle.shop_statements.proofs.begun.clear_begun.Goals as goal

pub returns-clause-put : goal.returns-clause-put
returns-clause-put g c b =
    let old = state g.S.Store c.args.tx.now.conn.now in
    let new = state g.S.Store c.run.new.tx.conn.now in
    makes clear_begun_text (Int (pos c.args.job) ∷ []) old new b (without_begun c.args.job b) c.run.result (rw (c.params-to_sql.ensures) at c.run.ensures.has_run)
    (λ count has ran. clears_begun old new count b has c.args.job ran)

pub returns-clause-others : goal.returns-clause-others
returns-clause-others g c =
    let old = state g.S.Store c.args.tx.now.conn.now in
    clears_beside clear_begun_text _ old (state g.S.Store c.run.new.tx.conn.now) c.run.result 13 begun_table (λ h. h.begun) (λ h. refl) _ (clear_begun_is old.now.schema) c.run.ensures.has_run
