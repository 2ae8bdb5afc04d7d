use Rattle.std.proofs.Common.{◌≡◌, ◌∙◌, ◌==◌, Bool, List, [], ◌∷◌, length, refl, sym, ap, arith}
use Rattle.std.specs.Bool.{Decides}
use Rattle.std.proofs.lemmas.Bool.{eqb-true}
use Rattle.sqlite.specs.Held.{state}
use Rattle.sqlite_value.specs.Order.{Row}
use Rattle.shop_statements.proofs.Kept.{shown_open}
use Rattle.shop_tables.proofs.ListTexts.{old_totals_selects, old_totals_text}
use Rattle.shop_tables.proofs.RowsAsShown.{old_totals_shown, second_totals_shown}
use Rattle.shop_tables.proofs.old_totals.has_no_old_totals.Goals as goal

pub returns-in_err-rows-clause-leaves : goal.returns-in_err-rows-clause-leaves
returns-in_err-rows-clause-leaves g c = c.all_rows.ensures.leaves old_totals_selects

pub returns-clause-leaves : goal.returns-clause-leaves
returns-clause-leaves g c = c.all_rows.ensures.leaves old_totals_selects

pub returns-clause-was_open : goal.returns-clause-was_open
returns-clause-was_open g c clean = shown_open old_totals_text [] (state g.S.Store c.args.conn.now) (state g.S.Store c.all_rows.new.conn) c.in_ok-rows.rows.items (c.in_ok-rows.ensures.rows clean)

-- none is shown just where there is none
decides_none : (answer : Bool) (given stored : List Row) → answer ≡ (length given == 0) → (given ≡ [] → stored ≡ []) × (stored ≡ [] → given ≡ []) → Decides answer (stored ≡ [])
decides_none answer [] stored is none = (λ yes. none.0 refl, λ empty. is)
decides_none answer (row ∷ given) stored is none = (λ yes. absurd (let e = eqb-true (length (row ∷ given)) 0 (sym is ∙ yes) in omega (arith, e)), λ empty. absurd (let e = none.1 empty in cc))

pub returns-clause-stands : goal.returns-clause-stands
returns-clause-stands g c clean h =
    let none = old_totals_shown (state g.S.Store c.args.conn.now) (state g.S.Store c.all_rows.new.conn) h c.in_ok-rows.rows.items (c.in_ok-rows.ensures.rows clean) in
    decides_none c.is_empty.result c.in_ok-rows.rows.items ((state g.S.Store c.args.conn.now).now.trees 15) (c.is_empty.ensures ∙ ap (λ n. n == 0) c.in_ok-rows.rows.ok.0) none

pub returns-clause-second : goal.returns-clause-second
returns-clause-second g c clean h =
    let none = second_totals_shown (state g.S.Store c.args.conn.now) (state g.S.Store c.all_rows.new.conn) h c.in_ok-rows.rows.items (c.in_ok-rows.ensures.rows clean) in
    decides_none c.is_empty.result c.in_ok-rows.rows.items ((state g.S.Store c.args.conn.now).now.trees 15) (c.is_empty.ensures ∙ ap (λ n. n == 0) c.in_ok-rows.rows.ok.0) none
