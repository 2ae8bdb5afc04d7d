use Rattle.std.proofs.Common.{◌≡◌, Some, None, ap, ◌∙◌, arith}
use Rattle.std.specs.FinMap.{values}
use Rattle.sqlite.specs.Held.{state}
use Rattle.sqlite.specs.State.{HasCleanDisk}
use Rattle.shop_records.specs.Content.{Content}
use Rattle.shop_records.specs.Lists.{order_codes}
use Rattle.shop_statements.proofs.Reading.{leaves_then}
use Rattle.shop_book.specs.Ledgers.{content_in}
use Rattle.shop_store.specs.Loading.{put_demand, put_order, with_each}
use Rattle.shop_store.proofs.HeldEither.{stays_either}
use Rattle.shop_store.proofs.Loads.{all_fit, jobs_fit}
use Rattle.shop_store.proofs.loading.load_work.Goals as goal

pub returns-clause-loaded : goal.returns-clause-loaded
returns-clause-loaded g c clean b was keyed materials parts =
    let after_demands : HasCleanDisk (state g.S.Store c.load_numbered-2.new.conn) = let l = c.load_numbers.ensures.leaves.survives.clean in omega (arith, l, clean) in
    let after_orders : HasCleanDisk (state g.S.Store c.load_orders.new.conn) = let l = c.load_numbered-2.ensures.leaves.survives.clean in omega (arith, l, after_demands) in
    let after_jobs : HasCleanDisk (state g.S.Store c.load_numbered.new.conn) = let l = c.load_orders.ensures.leaves.survives.clean in omega (arith, l, after_orders) in
    let with_jobs = stays_either (state g.S.Store c.args.conn.now) (state g.S.Store c.load_numbered.new.conn) b c.load_numbered.ensures.leaves was in
    let with_orders = stays_either (state g.S.Store c.load_numbered.new.conn) (state g.S.Store c.load_orders.new.conn) b c.load_orders.ensures.leaves with_jobs in
    let with_demands = stays_either (state g.S.Store c.load_orders.new.conn) (state g.S.Store c.load_numbered-2.new.conn) b c.load_numbered-2.ensures.leaves with_orders in
    let jobs = c.in_ok-row.ensures.loaded after_jobs b was (jobs_fit b.content keyed (content_in c.args.ledger) materials parts) in
    let orders = c.in_ok-row-2.ensures.loaded after_orders b with_jobs in
    let demands = c.in_ok-row-3.ensures.loaded after_demands b with_orders (all_fit put_demand (values b.content.demands) _) in
    let numbers = c.in_ok-load_numbers.ensures.loaded clean b with_demands in (
      tt,
      numbers
          ∙ ap (λ (m : Content). record m { last_act = b.content.last_act; last_demand = b.content.last_demand })
          (demands.1 ∙ ap (with_each put_demand (values b.content.demands)) (orders.1 ∙ ap (with_each put_order (order_codes b.content)) jobs.1)),
    )

pub returns-in-Some-clause-loaded : goal.returns-in-Some-clause-loaded
returns-in-Some-clause-loaded g c clean b was keyed materials parts =
    let jobs = c.in_ok-row.ensures.loaded clean b was (jobs_fit b.content keyed (content_in c.args.ledger) materials parts) in
    absurd (let none : Some c.in-Some.row ≡ None = rw c.in-Some.is at jobs.0 in cc)

pub returns-in-Some-2-clause-loaded : goal.returns-in-Some-2-clause-loaded
returns-in-Some-2-clause-loaded g c clean b was keyed materials parts =
    let with_jobs = stays_either (state g.S.Store c.args.conn.now) (state g.S.Store c.load_numbered.new.conn) b c.load_numbered.ensures.leaves was in
    let orders = c.in_ok-row-2.ensures.loaded clean b with_jobs in
    absurd (let none : Some c.in-Some-2.row ≡ None = rw c.in-Some-2.is at orders.0 in cc)

pub returns-in-Some-3-clause-loaded : goal.returns-in-Some-3-clause-loaded
returns-in-Some-3-clause-loaded g c clean b was keyed materials parts =
    let with_jobs = stays_either (state g.S.Store c.args.conn.now) (state g.S.Store c.load_numbered.new.conn) b c.load_numbered.ensures.leaves was in
    let held = stays_either (state g.S.Store c.load_numbered.new.conn) (state g.S.Store c.load_orders.new.conn) b c.load_orders.ensures.leaves with_jobs in
    let demands = c.in_ok-row-3.ensures.loaded clean b held (all_fit put_demand (values b.content.demands) _) in
    absurd (let none : Some c.in-Some-3.row ≡ None = rw c.in-Some-3.is at demands.0 in cc)

pub returns-clause-leaves : goal.returns-clause-leaves
returns-clause-leaves g c = leaves_then _ _ _ (leaves_then _ _ _ (leaves_then _ _ _ c.load_numbered.ensures.leaves c.load_orders.ensures.leaves) c.load_numbered-2.ensures.leaves) c.load_numbers.ensures.leaves
