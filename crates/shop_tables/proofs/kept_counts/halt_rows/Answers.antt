use Rattle.sqlite.specs.Held.{state}
use Rattle.shop_tables.proofs.Counted.{count_halts_text, count_halts_selects, counts_halts}
use Rattle.shop_tables.proofs.Ordered.{rows_given}
use Rattle.shop_tables.proofs.kept_counts.halt_rows.Goals as goal

pub returns-clause-rows : goal.returns-clause-rows
returns-clause-rows g c clean b was =
    let old = state g.S.Store c.args.conn.now in
    let new = state g.S.Store c.all_rows.new.conn in
    rows_given count_halts_text old new count_halts_selects c.all_rows.ensures.leaves b _ c.all_rows.result clean was (λ rows has. counts_halts old new b has rows) (c.all_rows.ensures.rows clean)

pub returns-clause-leaves : goal.returns-clause-leaves
returns-clause-leaves g c = c.all_rows.ensures.leaves count_halts_selects
