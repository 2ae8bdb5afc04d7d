use Rattle.std.proofs.Common.{arith}
use Rattle.sqlite.specs.Held.{state}
use Rattle.sqlite.specs.State.{HasCleanDisk}
use Rattle.shop_statements.proofs.Reading.{leaves_then}
use Rattle.shop_store.proofs.entries.read_remembered.Goals as goal

pub returns-clause-leaves : goal.returns-clause-leaves
returns-clause-leaves g c = leaves_then _ _ _ c.find_last.ensures.leaves c.find_trail.ensures.leaves

pub returns-clause-found : goal.returns-clause-found
returns-clause-found g c clean b was trail =
    let before : HasCleanDisk (state g.S.Store c.find_last.new.conn) = let l = c.find_trail.ensures.leaves.survives.clean in omega (arith, l, clean) in
    let last = rw c.in-Some.is at (c.in_ok-number.ensures.last before b was trail) in
    let held = c.find_last.ensures.leaves.stays b was in
    record { of_last = last.0; time = last.1; of_jobs = c.in_ok-ends.ensures.ends clean b held; filed = c.in_ok-ends.ensures.filed clean b held }

pub returns-in_default-clause-found : goal.returns-in_default-clause-found
returns-in_default-clause-found g c clean b was trail = rw c.in_default.is at (c.in_ok-number.ensures.last clean b was trail)
