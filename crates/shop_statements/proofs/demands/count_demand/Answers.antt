use Rattle.std.proofs.Common.{pos, [], ◌∷◌, sym, subst, refl}
use Rattle.std.specs.FinMap.{insert}
use Rattle.sqlite.specs.Held.{state}
use Rattle.sqlite_value.specs.declared.value.Value.TheVariants.{Int}
use Rattle.shop_statements.specs.Shown.{Shows}
use Rattle.shop_statements.specs.Changes.{with_demand}
use Rattle.shop_statements.proofs.Texts.{set_demand_text, set_demand_is}
use Rattle.shop_statements.proofs.Writing.{makes}
use Rattle.shop_statements.proofs.Setting.{sets_demand}
use Rattle.shop_statements.specs.Layout.{demands_table}
use Rattle.shop_statements.proofs.Beside.{sets_beside}
use Rattle.shop_statements.proofs.demands.count_demand.Goals as goal

pub returns-clause-put : goal.returns-clause-put
returns-clause-put g c b was there same =
    let old = state g.S.Store c.args.tx.now.conn.now in
    let new = state g.S.Store c.run.new.tx.conn.now in
    makes set_demand_text (Int (pos c.args.demand.now.number) ∷ Int (pos c.args.demand.now.wanted) ∷ Int (pos c.args.demand.now.reserved) ∷ Int (pos c.args.demand.now.made) ∷ []) old new b (with_demand c.args.demand.now b) c.run.result (rw (c.params-to_sql.ensures, c.params-to_sql-2.ensures, c.params-to_sql-3.ensures, c.params-to_sql-4.ensures) at c.run.ensures.has_run)
    (λ count has ran. subst (λ p. Shows new (record b { content = record b.content { demands = insert b.content.demands c.args.demand.now.number p } })) (sym same) (sets_demand old new count b has c.args.demand.now.number was c.args.demand.now.wanted c.args.demand.now.reserved c.args.demand.now.made there (has.keyed.demands c.args.demand.now.number was there) ran))

pub returns-clause-others : goal.returns-clause-others
returns-clause-others g c =
    let old = state g.S.Store c.args.tx.now.conn.now in
    sets_beside set_demand_text _ old (state g.S.Store c.run.new.tx.conn.now) c.run.result 5 demands_table (λ h. h.demands) (λ h. refl) _ (set_demand_is old.now.schema) c.run.ensures.has_run
