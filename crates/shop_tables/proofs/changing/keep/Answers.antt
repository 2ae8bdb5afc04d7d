use Rattle.std.proofs.Common.{[], sym, subst}
use Rattle.sqlite.specs.Held.{state}
use Rattle.shop_statements.specs.Beside.{IsSameBeside}
use Rattle.shop_statements.specs.Layout.{our_trees}
use Rattle.shop_statements.proofs.Beside.{beside_itself}
use Rattle.shop_statements.proofs.Kept.{not_run_keeps}
use Rattle.shop_tables.proofs.Commits.{shows_along}
use Rattle.shop_tables.proofs.InTurn.{of_ours}
use Rattle.shop_tables.proofs.changing.keep.Goals as goal

pub returns-in-Some-clause-put : goal.returns-in-Some-clause-put
returns-in-Some-clause-put g c b = rw c.in-Some.is (c.put_kept.ensures.put b)

pub returns-in_err-prepare-in-None-clause-within : goal.returns-in_err-prepare-in-None-clause-within
returns-in_err-prepare-in-None-clause-within g c = record {
  kept = λ clean. not_run_keeps _ _ _ [] _ (c.in_err-prepare-in-None.ensures.err clean []);
  survives = c.prepare.ensures.survives;
}

pub returns-in_ok-prepare-in-None-clause-put : goal.returns-in_ok-prepare-in-None-clause-put
returns-in_ok-prepare-in-None-clause-put g c b none = rw c.in-None.is (λ clean inside has. shows_along _ _ b (sym (c.in_ok-prepare-in-None.ensures.ok clean).1.0.now_is) has)

pub returns-in-Some-clause-others : goal.returns-in-Some-clause-others
returns-in-Some-clause-others g c = of_ours (state g.S.Store c.args.tx.now.conn.now) (state g.S.Store c.put_kept.new.tx.conn.now) c.put_kept.result 11 (λ t far. far.1.1.1.1.1.1.0) c.put_kept.ensures.others

pub returns-in_ok-prepare-in-None-clause-others : goal.returns-in_ok-prepare-in-None-clause-others
returns-in_ok-prepare-in-None-clause-others g c clean inside is =
    let was = (state g.S.Store c.args.tx.now.conn.now).now in
    subst (IsSameBeside our_trees was) (sym (c.in_ok-prepare-in-None.ensures.ok clean).1.0.now_is) (beside_itself our_trees was)
