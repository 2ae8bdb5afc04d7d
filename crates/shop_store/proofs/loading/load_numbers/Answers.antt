use Rattle.std.proofs.Common.{ap, ◌∙◌, arith}
use Rattle.sqlite.specs.Held.{state}
use Rattle.sqlite.specs.State.{HasCleanDisk}
use Rattle.shop_statements.proofs.Reading.{leaves_then}
use Rattle.shop_book.specs.Ledgers.{bare, content_in}
use Rattle.shop_store.proofs.HeldEither.{either, stays_either}
use Rattle.shop_store.proofs.loading.load_numbers.Goals as goal

pub returns-in_err-demand-clause-leaves : goal.returns-in_err-demand-clause-leaves
returns-in_err-demand-clause-leaves g c = leaves_then _ _ _ c.find_last_act.ensures.leaves c.find_last_demand.ensures.leaves

pub returns-in_err-load-clause-leaves : goal.returns-in_err-load-clause-leaves
returns-in_err-load-clause-leaves g c = leaves_then _ _ _ c.find_last_act.ensures.leaves c.find_last_demand.ensures.leaves

pub returns-clause-leaves : goal.returns-clause-leaves
returns-clause-leaves g c = leaves_then _ _ _ c.find_last_act.ensures.leaves c.find_last_demand.ensures.leaves

pub returns-clause-loaded : goal.returns-clause-loaded
returns-clause-loaded g c clean b was =
    let m = content_in c.args.ledger.now in
    let before : HasCleanDisk (state g.S.Store c.find_last_act.new.conn) = let l = c.find_last_demand.ensures.leaves.survives.clean in omega (arith, l, clean) in
    let act = either was (c.in_ok-act.ensures.number before b) (c.in_ok-act.ensures.second before b) (c.in_ok-act.ensures.earlier before b) in
    let still = stays_either (state g.S.Store c.args.conn.now) (state g.S.Store c.find_last_act.new.conn) b c.find_last_act.ensures.leaves was in
    let demand = either still (c.in_ok-demand.ensures.number clean b) (c.in_ok-demand.ensures.second clean b) (c.in_ok-demand.ensures.earlier clean b) in
    c.in_ok-load.ensures.ok ∙ ap bare (c.numbers_alone.ensures m) ∙ (λ i. record m { last_act = act i; last_demand = demand i })
