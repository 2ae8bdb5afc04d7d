use Rattle.std.proofs.Common.{ap, subst, ◌∙◌, arith}
use Rattle.sqlite.specs.Held.{state}
use Rattle.sqlite.specs.State.{HasCleanDisk}
use Rattle.shop_statements.proofs.Reading.{leaves_then}
use Rattle.shop_tables.specs.Changing.{HasSums}
use Rattle.shop_book.specs.Ledgers.{bare, content_in}
use Rattle.shop_store.specs.Loading.{IsLoaded}
use Rattle.shop_store.proofs.Checked.{either_way, if_back, if_book}
use Rattle.shop_store.proofs.sql.SqlBook+S.checked.Goals as goal

pub returns-in-Ok-Ledger-clause-leaves : goal.returns-in-Ok-Ledger-clause-leaves
returns-in-Ok-Ledger-clause-leaves g c = either_way (λ book. book.storage.conn) _ (λ h leaves. leaves_then _ _ _ c.in-Ok-Ledger.ensures.leaves leaves) c.counted.result c.counted.ensures.leaves

pub returns-in-Ok-Ledger-clause-sums : goal.returns-in-Ok-Ledger-clause-sums
returns-in-Ok-Ledger-clause-sums g c =
    if_book (λ book. book.storage.conn) _ (λ book leaves none clean b was.
    let before : HasCleanDisk (state g.S.Store c.load_ledger.new.conn) = let l = leaves.survives.clean in omega (arith, l, clean) in
    (subst (IsLoaded (HasSums b) (bare b.content)) c.in-Ok-Ledger.field-0-is (c.in-Ok-Ledger.ensures.loaded before b was)).0) c.counted.result c.counted.ensures.leaves c.counted.ensures.failures

pub returns-in-Ok-Ledger-clause-loaded : goal.returns-in-Ok-Ledger-clause-loaded
returns-in-Ok-Ledger-clause-loaded g c =
    if_book (λ book. book.storage.conn) _ (λ book leaves same clean b was lines.
    let before : HasCleanDisk (state g.S.Store c.load_ledger.new.conn) = let l = leaves.survives.clean in omega (arith, l, clean) in
    ap content_in same ∙ (subst (IsLoaded (HasSums b) (bare b.content)) c.in-Ok-Ledger.field-0-is (c.in-Ok-Ledger.ensures.loaded before b was)).1) c.counted.result c.counted.ensures.leaves c.counted.ensures.ledger

pub returns-in-Ok-Ledger-clause-last : goal.returns-in-Ok-Ledger-clause-last
returns-in-Ok-Ledger-clause-last g c =
    if_book (λ book. book.storage.conn) _ (λ book leaves last clean b was trail. last clean b (c.in-Ok-Ledger.ensures.leaves.stays b was) trail) c.counted.result c.counted.ensures.leaves c.counted.ensures.last

pub returns-in-Ok-Ledger-clause-neither : goal.returns-in-Ok-Ledger-clause-neither
returns-in-Ok-Ledger-clause-neither g c =
    if_back (λ book. book.storage.conn) _ (λ back leaves neither is clean b was sums trail. neither is clean b (c.in-Ok-Ledger.ensures.leaves.stays b was) trail) c.counted.result c.counted.ensures.leaves c.counted.ensures.neither

pub returns-in-Ok-OtherSums-clause-neither : goal.returns-in-Ok-OtherSums-clause-neither
returns-in-Ok-OtherSums-clause-neither g c is clean b was sums trail = subst (IsLoaded (HasSums b) (bare b.content)) c.in-Ok-OtherSums.field-0-is (c.in-Ok-OtherSums.ensures.loaded clean b was) sums

pub returns-in-Ok-NoRow-clause-neither : goal.returns-in-Ok-NoRow-clause-neither
returns-in-Ok-NoRow-clause-neither g c is clean b was sums trail = absurd (subst (IsLoaded (HasSums b) (bare b.content)) c.in-Ok-NoRow.field-0-is (c.in-Ok-NoRow.ensures.loaded clean b was))
