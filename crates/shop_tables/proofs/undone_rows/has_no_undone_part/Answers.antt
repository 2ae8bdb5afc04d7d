use Rattle.std.proofs.Common.{◌∙◌, ◌==◌, [], filter, ap}
use Rattle.sqlite.specs.Held.{state}
use Rattle.shop_statements.proofs.Kept.{shown_open}
use Rattle.shop_tables.specs.Adopting.{is_undone_part}
use Rattle.shop_tables.proofs.NoUndone.{decides_none, undone_parts_selects, undone_parts_shown, undone_parts_text}
use Rattle.shop_tables.proofs.undone_rows.has_no_undone_part.Goals as goal

pub returns-in_err-rows-clause-leaves : goal.returns-in_err-rows-clause-leaves
returns-in_err-rows-clause-leaves g c = c.all_rows.ensures.leaves undone_parts_selects

pub returns-clause-leaves : goal.returns-clause-leaves
returns-clause-leaves g c = c.all_rows.ensures.leaves undone_parts_selects

pub returns-clause-was_open : goal.returns-clause-was_open
returns-clause-was_open g c clean = shown_open undone_parts_text [] (state g.S.Store c.args.conn.now) (state g.S.Store c.all_rows.new.conn) c.in_ok-rows.rows.items (c.in_ok-rows.ensures.rows clean)

pub returns-clause-stands : goal.returns-clause-stands
returns-clause-stands g c clean h =
    let old = state g.S.Store c.args.conn.now in
    let none = undone_parts_shown old (state g.S.Store c.all_rows.new.conn) h c.in_ok-rows.rows.items (c.in_ok-rows.ensures.rows clean) in
    decides_none c.is_empty.result c.in_ok-rows.rows.items (filter is_undone_part (old.now.trees 4)) (c.is_empty.ensures ∙ ap (λ n. n == 0) c.in_ok-rows.rows.ok.0) none
