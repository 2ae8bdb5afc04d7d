use Rattle.std.proofs.Common.{arith}
use Rattle.sqlite.specs.Held.{state}
use Rattle.sqlite.specs.State.{HasCleanDisk}
use Rattle.shop_statements.proofs.Reading.{leaves_then}
use Rattle.shop_tables.proofs.kept_counts.count_texts.Goals as goal

pub returns-in_err-imports-clause-leaves : goal.returns-in_err-imports-clause-leaves
returns-in_err-imports-clause-leaves g c = leaves_then _ _ _ c.count_messages.ensures.leaves c.count_imports.ensures.leaves

pub returns-in_err-halts-clause-leaves : goal.returns-in_err-halts-clause-leaves
returns-in_err-halts-clause-leaves g c = leaves_then _ _ _ (leaves_then _ _ _ c.count_messages.ensures.leaves c.count_imports.ensures.leaves) c.count_halts.ensures.leaves

pub returns-clause-leaves : goal.returns-clause-leaves
returns-clause-leaves g c = leaves_then _ _ _ (leaves_then _ _ _ c.count_messages.ensures.leaves c.count_imports.ensures.leaves) c.count_halts.ensures.leaves

pub returns-clause-counts : goal.returns-clause-counts
returns-clause-counts g c clean b was =
    let later : HasCleanDisk (state g.S.Store c.count_imports.new.conn) = let l = c.count_halts.ensures.leaves.survives.clean in omega (arith, l, clean) in
    let before : HasCleanDisk (state g.S.Store c.count_messages.new.conn) = let l = c.count_imports.ensures.leaves.survives.clean in omega (arith, l, later) in
    let held = c.count_messages.ensures.leaves.stays b was in (
      c.in_ok-messages.ensures.count before b was,
      c.in_ok-imports.ensures.count later b held,
      c.in_ok-halts.ensures.count clean b (c.count_imports.ensures.leaves.stays b held),
    )
