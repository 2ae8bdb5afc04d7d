use Rattle.std.proofs.Common.{◌≡◌, Some, None, ap, ◌∙◌, arith}
use Rattle.std.specs.FinMap.{values}
use Rattle.std.proofs.lemmas.Result.{IfOk-weaker}
use Rattle.sqlite.specs.Held.{state}
use Rattle.sqlite.specs.State.{HasCleanDisk}
use Rattle.shop_records.specs.Content.{Content}
use Rattle.shop_tables.specs.Changing.{HasSums}
use Rattle.shop_book.specs.Ledgers.{bare, content_in}
use Rattle.shop_store.specs.Loading.{put_material, put_part, unsaid, with_each, with_work}
use Rattle.shop_store.proofs.HeldEither.{ok_so, stays_either}
use Rattle.shop_store.proofs.LoadedParts.{loaded_as}
use Rattle.shop_store.proofs.Loads.{all_loaded, stock_loaded, stock_materials, stock_parts}
use Rattle.shop_store.proofs.loading.load_behind.Goals as goal

pub returns-in-Ledger-clause-loaded : goal.returns-in-Ledger-clause-loaded
returns-in-Ledger-clause-loaded g c clean b was list =
    let after_parts : HasCleanDisk (state g.S.Store c.load_parts.new.conn) = let l = c.load_work.ensures.leaves.survives.clean in omega (arith, l, clean) in
    let after_materials : HasCleanDisk (state g.S.Store c.load_materials.new.conn) = let l = c.load_parts.ensures.leaves.survives.clean in omega (arith, l, after_parts) in
    let with_materials = stays_either (state g.S.Store c.args.conn.now) (state g.S.Store c.load_materials.new.conn) b c.load_materials.ensures.leaves was in
    let with_parts = stays_either (state g.S.Store c.load_materials.new.conn) (state g.S.Store c.load_parts.new.conn) b c.load_parts.ensures.leaves with_materials in
    let materials = c.in_ok-row.ensures.loaded after_materials b was in
    let keyed = materials.2 in
    let parts = rw c.in-Ledger.is at (c.in_ok-ledger.ensures.loaded after_parts b with_materials list) in
    let stock : content_in c.in-Ledger.ledger ≡ stock_loaded b.content keyed = parts.1 ∙ ap (with_each put_part (values b.content.parts)) (materials.1 ∙ ap (with_each put_material (values b.content.materials)) c.new-ledger.ensures) in
    IfOk-weaker c.load_work.result _ _
    (loaded_as (Unit {0}) (HasSums b) (with_work b.content (content_in c.in-Ledger.ledger)) (unsaid (bare b.content)) (λ _. parts.0) (λ none. absurd (none tt)) (ap (with_work b.content) stock ∙ all_loaded b.content keyed))
    (c.load_work.ensures.loaded clean b with_parts keyed (ap (λ (m : Content). m.materials) stock ∙ stock_materials b.content keyed) (ap (λ (m : Content). m.parts) stock ∙ stock_parts b.content keyed))

pub returns-in-OtherSums-clause-loaded : goal.returns-in-OtherSums-clause-loaded
returns-in-OtherSums-clause-loaded g c clean b was list =
    let with_materials = stays_either (state g.S.Store c.args.conn.now) (state g.S.Store c.load_materials.new.conn) b c.load_materials.ensures.leaves was in
    rw c.in-OtherSums.is at (c.in_ok-ledger.ensures.loaded clean b with_materials list)

pub returns-in-NoRow-clause-loaded : goal.returns-in-NoRow-clause-loaded
returns-in-NoRow-clause-loaded g c clean b was list =
    let with_materials = stays_either (state g.S.Store c.args.conn.now) (state g.S.Store c.load_materials.new.conn) b c.load_materials.ensures.leaves was in
    absurd (rw c.in-NoRow.is at (c.in_ok-ledger.ensures.loaded clean b with_materials list))

pub returns-in-Some-clause-loaded : goal.returns-in-Some-clause-loaded
returns-in-Some-clause-loaded g c clean b was list =
    let materials = c.in_ok-row.ensures.loaded clean b was in
    absurd (let none : Some c.in-Some.row ≡ None = rw c.in-Some.is at materials.0 in cc)

pub returns-in-Ledger-clause-second : goal.returns-in-Ledger-clause-second
returns-in-Ledger-clause-second g c clean b was =
    let after_parts : HasCleanDisk (state g.S.Store c.load_parts.new.conn) = let l = c.load_work.ensures.leaves.survives.clean in omega (arith, l, clean) in
    let after_materials : HasCleanDisk (state g.S.Store c.load_materials.new.conn) = let l = c.load_parts.ensures.leaves.survives.clean in omega (arith, l, after_parts) in
    ok_so c.load_work.result (c.in_ok-row.ensures.second after_materials b was)

pub returns-in-OtherSums-clause-second : goal.returns-in-OtherSums-clause-second
returns-in-OtherSums-clause-second g c clean b was =
    let after_materials : HasCleanDisk (state g.S.Store c.load_materials.new.conn) = let l = c.load_parts.ensures.leaves.survives.clean in omega (arith, l, clean) in
    c.in_ok-row.ensures.second after_materials b was

pub returns-in-NoRow-clause-second : goal.returns-in-NoRow-clause-second
returns-in-NoRow-clause-second g c clean b was =
    let after_materials : HasCleanDisk (state g.S.Store c.load_materials.new.conn) = let l = c.load_parts.ensures.leaves.survives.clean in omega (arith, l, clean) in
    c.in_ok-row.ensures.second after_materials b was

pub returns-in-Ledger-clause-earlier : goal.returns-in-Ledger-clause-earlier
returns-in-Ledger-clause-earlier g c clean b was =
    let after_parts : HasCleanDisk (state g.S.Store c.load_parts.new.conn) = let l = c.load_work.ensures.leaves.survives.clean in omega (arith, l, clean) in
    let after_materials : HasCleanDisk (state g.S.Store c.load_materials.new.conn) = let l = c.load_parts.ensures.leaves.survives.clean in omega (arith, l, after_parts) in
    ok_so c.load_work.result (c.in_ok-row.ensures.earlier after_materials b was)

pub returns-in-OtherSums-clause-earlier : goal.returns-in-OtherSums-clause-earlier
returns-in-OtherSums-clause-earlier g c clean b was =
    let after_materials : HasCleanDisk (state g.S.Store c.load_materials.new.conn) = let l = c.load_parts.ensures.leaves.survives.clean in omega (arith, l, clean) in
    c.in_ok-row.ensures.earlier after_materials b was

pub returns-in-NoRow-clause-earlier : goal.returns-in-NoRow-clause-earlier
returns-in-NoRow-clause-earlier g c clean b was =
    let after_materials : HasCleanDisk (state g.S.Store c.load_materials.new.conn) = let l = c.load_parts.ensures.leaves.survives.clean in omega (arith, l, clean) in
    c.in_ok-row.ensures.earlier after_materials b was
