use Rattle.std.proofs.Common.{pos, ◌∷◌, refl}
use Rattle.sqlite.specs.Held.{state}
use Rattle.sqlite_value.specs.declared.value.Value.TheVariants.{Int}
use Rattle.shop_statements.specs.Rows.{demand_columns}
use Rattle.shop_statements.specs.Changes.{with_demand}
use Rattle.shop_statements.proofs.Texts.{put_demand_text, put_demand_is, put_demand_terms}
use Rattle.shop_statements.proofs.Writing.{makes}
use Rattle.shop_statements.proofs.Putting.{puts_demand}
use Rattle.shop_statements.specs.Layout.{demands_table}
use Rattle.shop_statements.proofs.Beside.{puts_beside}
use Rattle.shop_statements.proofs.demands.put_demand.Goals as goal

pub returns-clause-put : goal.returns-clause-put
returns-clause-put g c b fresh =
    let old = state g.S.Store c.args.tx.now.conn.now in
    let new = state g.S.Store c.run.new.tx.conn.now in
    makes put_demand_text (Int (pos c.args.demand.now.number) ∷ demand_columns c.args.demand.now) old new b (with_demand c.args.demand.now b) c.run.result (rw (c.params-to_sql.ensures, c.params-to_sql-2.ensures, c.params-to_sql-3.ensures, c.params-to_sql-4.ensures, c.params-to_sql-5.ensures, c.params-to_sql-6.ensures, c.params-to_sql-7.ensures, c.params-to_sql-8.ensures, c.params-to_sql-9.ensures, c.params-to_sql-10.ensures, c.params-to_sql-11.ensures, c.as_str.ensures.value, c.as_str-2.ensures.value, c.w.ensures.value, c.h.ensures.value, c.number_of_turn.ensures) at c.run.ensures.has_run)
    (λ count has ran. puts_demand old new count b has c.args.demand.now fresh ran)

pub returns-clause-others : goal.returns-clause-others
returns-clause-others g c =
    let old = state g.S.Store c.args.tx.now.conn.now in
    puts_beside put_demand_text _ old (state g.S.Store c.run.new.tx.conn.now) c.run.result 5 demands_table (λ h. h.demands) (λ h. refl) put_demand_terms 12 (put_demand_is old.now.schema) c.run.ensures.has_run
