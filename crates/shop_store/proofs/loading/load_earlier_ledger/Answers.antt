use Rattle.std.proofs.Common.{◌∙◌, inr, arith}
use Rattle.sqlite.specs.Held.{state}
use Rattle.sqlite.specs.State.{HasCleanDisk}
use Rattle.shop_tables.specs.Changing.{HasSums}
use Rattle.shop_tables.proofs.EarlierRows.{stays_earlier}
use Rattle.shop_statements.proofs.Reading.{leaves_then}
use Rattle.shop_book.specs.Ledgers.{bare}
use Rattle.shop_store.specs.Loading.{unsaid}
use Rattle.shop_store.proofs.HeldEither.{ok_both}
use Rattle.shop_store.proofs.LoadedParts.{loaded_as}
use Rattle.shop_store.proofs.Loads.{said_none}
use Rattle.shop_store.proofs.loading.load_earlier_ledger.Goals as goal

pub returns-clause-leaves : goal.returns-clause-leaves
returns-clause-leaves g c = leaves_then _ _ _ c.list_earlier_totals.ensures.leaves c.load_behind.ensures.leaves

pub returns-clause-loaded : goal.returns-clause-loaded
returns-clause-loaded g c clean b was =
    let before : HasCleanDisk (state g.S.Store c.list_earlier_totals.new.conn) = let l = c.load_behind.ensures.leaves.survives.clean in omega (arith, l, clean) in
    let totals = rw c.in-Some.is at (c.in_ok-totals.ensures.rows before b was) in
    let held = stays_earlier (state g.S.Store c.args.conn.now) (state g.S.Store c.list_earlier_totals.new.conn) b c.list_earlier_totals.ensures.leaves was in
    ok_both c.load_behind.result (c.load_behind.ensures.loaded clean b (inr (inr held)) (totals.0, c.deref.ensures.value ∙ totals.1)) (c.load_behind.ensures.earlier clean b held)
    (λ loaded it later. loaded_as (HasSums b) (HasSums b) (unsaid (bare b.content)) (bare b.content) (λ sums. sums) (λ none. none) (said_none b.content later) loaded it)
