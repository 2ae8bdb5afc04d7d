use Rattle.std.proofs.Common.{◌∙◌, inl, ap, arith}
use Rattle.std.proofs.lemmas.Result.{IfOk-weaker}
use Rattle.sqlite.specs.Held.{state}
use Rattle.sqlite.specs.State.{HasCleanDisk}
use Rattle.shop_records.specs.Content.{Content}
use Rattle.shop_tables.specs.Changing.{HasSums}
use Rattle.shop_statements.proofs.Reading.{leaves_then}
use Rattle.shop_book.specs.Ledgers.{bare, content_in}
use Rattle.shop_store.specs.Loading.{with_said}
use Rattle.shop_store.proofs.LoadedParts.{loaded_as}
use Rattle.shop_store.proofs.loading.load_ledger.Goals as goal

pub returns-in-Ledger-clause-leaves : goal.returns-in-Ledger-clause-leaves
returns-in-Ledger-clause-leaves g c = leaves_then _ _ _ (leaves_then _ _ _ c.list_totals.ensures.leaves c.load_behind.ensures.leaves) c.load_said.ensures.leaves

pub returns-in-Ledger-clause-loaded : goal.returns-in-Ledger-clause-loaded
returns-in-Ledger-clause-loaded g c clean b was =
    let after_behind : HasCleanDisk (state g.S.Store c.load_behind.new.conn) = let l = c.load_said.ensures.leaves.survives.clean in omega (arith, l, clean) in
    let before : HasCleanDisk (state g.S.Store c.list_totals.new.conn) = let l = c.load_behind.ensures.leaves.survives.clean in omega (arith, l, after_behind) in
    let totals = rw c.in-Some.is at (c.in_ok-totals.ensures.rows before b was) in
    let held = c.list_totals.ensures.leaves.stays b was in
    let behind = rw c.in-Ledger.is at (c.in_ok-ledger.ensures.loaded after_behind b (inl held) (totals.0, c.deref.ensures.value ∙ totals.1)) in
    IfOk-weaker c.load_said.result _ _
    (loaded_as (Unit {0}) (HasSums b) (with_said b.content (content_in c.in-Ledger.ledger)) (bare b.content) (λ _. behind.0) (λ none. absurd (none tt)) (ap (with_said b.content) behind.1))
    (c.load_said.ensures.loaded clean b (c.load_behind.ensures.leaves.stays b held) (ap (λ (m : Content). m.begun) behind.1) (ap (λ (m : Content). m.notes) behind.1))

pub returns-in-OtherSums-clause-loaded : goal.returns-in-OtherSums-clause-loaded
returns-in-OtherSums-clause-loaded g c clean b was =
    let before : HasCleanDisk (state g.S.Store c.list_totals.new.conn) = let l = c.load_behind.ensures.leaves.survives.clean in omega (arith, l, clean) in
    let totals = rw c.in-Some.is at (c.in_ok-totals.ensures.rows before b was) in
    rw c.in-OtherSums.is at (c.in_ok-ledger.ensures.loaded clean b (inl (c.list_totals.ensures.leaves.stays b was)) (totals.0, c.deref.ensures.value ∙ totals.1))

pub returns-clause-loaded : goal.returns-clause-loaded
returns-clause-loaded g c clean b was =
    let before : HasCleanDisk (state g.S.Store c.list_totals.new.conn) = let l = c.load_behind.ensures.leaves.survives.clean in omega (arith, l, clean) in
    let totals = rw c.in-Some.is at (c.in_ok-totals.ensures.rows before b was) in
    rw c.in-NoRow.is at (c.in_ok-ledger.ensures.loaded clean b (inl (c.list_totals.ensures.leaves.stays b was)) (totals.0, c.deref.ensures.value ∙ totals.1))
