use Rattle.std.proofs.Common.{arith}
use Rattle.sqlite.specs.Held.{state}
use Rattle.sqlite.specs.State.{HasCleanDisk}
use Rattle.shop_statements.proofs.Reading.{leaves_then}
use Rattle.shop_store.proofs.entries.find_last.Goals as goal

pub returns-in_err-stray_entry-clause-leaves : goal.returns-in_err-stray_entry-clause-leaves
returns-in_err-stray_entry-clause-leaves g c = leaves_then _ _ _ c.find_last_entry.ensures.leaves c.stray_entry.ensures.leaves

pub returns-in-None-clause-leaves : goal.returns-in-None-clause-leaves
returns-in-None-clause-leaves g c = leaves_then _ _ _ c.find_last_entry.ensures.leaves c.stray_entry.ensures.leaves

pub returns-in-Some-clause-leaves : goal.returns-in-Some-clause-leaves
returns-in-Some-clause-leaves g c = leaves_then _ _ _ c.find_last_entry.ensures.leaves c.stray_entry.ensures.leaves

pub returns-in-None-clause-last : goal.returns-in-None-clause-last
returns-in-None-clause-last g c clean b was trail =
    let before : HasCleanDisk (state g.S.Store c.find_last_entry.new.conn) = let l = c.stray_entry.ensures.leaves.survives.clean in omega (arith, l, clean) in
    c.in_ok-number.ensures.last before b was

pub returns-in-Some-clause-last : goal.returns-in-Some-clause-last
returns-in-Some-clause-last g c clean b was trail =
    let before : HasCleanDisk (state g.S.Store c.find_last_entry.new.conn) = let l = c.stray_entry.ensures.leaves.survives.clean in omega (arith, l, clean) in
    let count = (c.in_ok-number.ensures.last before b was).0 in
    let held = c.find_last_entry.ensures.leaves.stays b was in
    let none = c.in_ok-stray_entry.ensures.none clean b held count trail.numbers in
    absurd (let is = c.in-Some.is in cc)
