use Rattle.std.proofs.Common.{arith}
use Rattle.sqlite.specs.Held.{state}
use Rattle.sqlite.specs.State.{HasCleanDisk}
use Rattle.shop_tables.proofs.ExtendedBeside.{brought_on, sees_second}
use Rattle.shop_tables.proofs.Making.{made_second}
use Rattle.shop_statements.proofs.Steps.{on_ok_then, ran_then, went_as}
use Rattle.shop_tables.proofs.renewing.FromFirstUpgrade.run.Goals as goal

pub returns-clause-makes : goal.returns-clause-makes
returns-clause-makes g c b was =
    let second = c.in_ok-renew_tables.ensures.renewed b (λ clean up. (was clean up).shows) in
    made_second _ _ _ b c.extend_tables.result second (c.extend_tables.ensures.extended b (λ clean up. second.shows clean))

pub returns-clause-ran : goal.returns-clause-ran
returns-clause-ran g c = on_ok_then c.extend_tables.result (λ last. ran_then _ _ _ c.in_ok-renew_tables.ensures.ran (went_as _ _ last)) c.extend_tables.ensures.ran

pub returns-clause-beside : goal.returns-clause-beside
returns-clause-beside g c sees clean =
    let old = state g.S.Store c.args.tx.now.conn.now in
    let mid = state g.S.Store c.renew_tables.new.tx.conn.now in
    let new = state g.S.Store c.extend_tables.new.tx.conn.now in
    let before : HasCleanDisk mid = let l = c.extend_tables.ensures.within.survives.clean in omega (arith, l, clean) in
    brought_on old.now mid.now new.now c.extend_tables.result (c.in_ok-renew_tables.ensures.beside sees before)
    (c.extend_tables.ensures.beside (λ there up. sees_second old mid sees (c.in_ok-renew_tables.ensures.ran.earlier there) (c.in_ok-renew_tables.ensures.was_open there) (c.in_ok-renew_tables.ensures.beside sees there)) clean)
