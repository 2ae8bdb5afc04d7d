use Rattle.std.proofs.Common.{subst, sym}
use Rattle.sqlite.specs.Held.{state}
use Rattle.sqlite.specs.State.{HasCleanDisk}
use Rattle.shop_store.specs.Entries.{IsFoundOf}
use Rattle.shop_store.specs.Storing.{IsRemembered}
use Rattle.shop_store.proofs.sql.SqlBook+S.counted.Goals as goal

pub returns-in-Ok-Some-clause-last : goal.returns-in-Ok-Some-clause-last
returns-in-Ok-Some-clause-last g c clean b was trail =
    let before : HasCleanDisk (state g.S.Store c.find_remembered.new.conn) = subst (λ h. HasCleanDisk (state g.S.Store h)) c.over.ensures.conn clean in
    subst (IsRemembered b.content) (sym c.over.ensures.remembered) (subst (IsFoundOf b.content) c.in-Ok-Some.field-0-is (c.in-Ok-Some.ensures.found before b was trail))

pub returns-in-Ok-None-clause-neither : goal.returns-in-Ok-None-clause-neither
returns-in-Ok-None-clause-neither g c is clean b was trail = subst (IsFoundOf b.content) c.in-Ok-None.field-0-is (c.in-Ok-None.ensures.found clean b was trail)
