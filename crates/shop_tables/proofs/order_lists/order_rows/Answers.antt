use Rattle.std.proofs.Common.{◌≡◌, [], ◌∷◌, pos, map, take, None, Ok}
use Rattle.sqlite.specs.Held.{state}
use Rattle.sqlite_value.specs.declared.value.Value.TheVariants.{Int}
use Rattle.shop_tables.proofs.ListTexts.{first_orders_text, first_orders_selects}
use Rattle.shop_tables.proofs.OrderRows.{lists_first_orders, lists_first_orders_of}
use Rattle.shop_tables.proofs.RowsAsShown.{gives, gives_none, first_orders_shown}
use Rattle.shop_statements.proofs.Reading.{leaves_itself}
use Rattle.shop_records.specs.Lists.{orders_after}
use Rattle.shop_statements.specs.Earlier.{earlier_schema, second_schema}
use Rattle.shop_statements.specs.declared.faults.TableFault.{TableFault}
use Rattle.shop_tables.specs.Listing.{code_row}
use Rattle.shop_tables.proofs.EarlierRows.{earlier_first_orders_is, held_given_earlier}
use Rattle.shop_tables.proofs.SecondRows.{second_first_orders_is, held_given_second}
use Rattle.shop_tables.proofs.order_lists.order_rows.Goals as goal

pub returns-in_err-limit-clause-gives : goal.returns-in_err-limit-clause-gives
returns-in_err-limit-clause-gives g c = gives_none c.from_residual.result _ _ _ _ c.from_residual.ensures.0 (leaves_itself _)

pub returns-in_err-rows-clause-gives : goal.returns-in_err-rows-clause-gives
returns-in_err-rows-clause-gives g c = gives_none c.from_residual-in_err-rows.result _ _ _ _ c.from_residual-in_err-rows.ensures.0 (c.all_rows.ensures.leaves first_orders_selects)

pub returns-clause-gives : goal.returns-clause-gives
returns-clause-gives g c =
    let old = state g.S.Store c.args.conn.now in
    let new = state g.S.Store c.all_rows.new.conn in
    gives first_orders_text (Int (pos c.args.most) ∷ []) old new _ _ (Ok c.in_ok-rows.rows) first_orders_selects c.all_rows.ensures.leaves (λ clean. rw (c.params-to_sql.ensures, c.in_ok-limit.ensures) at (c.in_ok-rows.ensures.rows clean))
    (λ b has rows. lists_first_orders old new b has c.args.most rows) (λ h rows. first_orders_shown old new h c.args.most rows)

pub returns-clause-earlier : goal.returns-clause-earlier
returns-clause-earlier g c clean b was =
    let old = state g.S.Store c.args.conn.now in
    let new = state g.S.Store c.all_rows.new.conn in
    held_given_earlier {E = TableFault} first_orders_text (Int (pos c.args.most) ∷ []) old new first_orders_selects c.all_rows.ensures.leaves b (λ rows. rows ≡ map code_row (take c.args.most (orders_after b.content None))) (Ok c.in_ok-rows.rows) clean was
    (λ rows has given. lists_first_orders_of old new earlier_schema has.schema _ b.content has.stands.orders c.args.most earlier_first_orders_is rows given) (rw (c.params-to_sql.ensures, c.in_ok-limit.ensures) at (c.in_ok-rows.ensures.rows clean))

pub returns-clause-second : goal.returns-clause-second
returns-clause-second g c clean b was =
    let old = state g.S.Store c.args.conn.now in
    let new = state g.S.Store c.all_rows.new.conn in
    held_given_second {E = TableFault} first_orders_text (Int (pos c.args.most) ∷ []) old new first_orders_selects c.all_rows.ensures.leaves b (λ rows. rows ≡ map code_row (take c.args.most (orders_after b.content None))) (Ok c.in_ok-rows.rows) clean was
    (λ rows has given. lists_first_orders_of old new second_schema has.schema _ b.content has.stands.orders c.args.most second_first_orders_is rows given) (rw (c.params-to_sql.ensures, c.in_ok-limit.ensures) at (c.in_ok-rows.ensures.rows clean))
