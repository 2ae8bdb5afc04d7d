use Rattle.std.proofs.Common.{◌≡◌, length, arith, refl}
use Rattle.sqlite.specs.Held.{state}
use Rattle.sqlite.specs.State.{HasCleanDisk}
use Rattle.shop_statements.proofs.Steps.{none_below}
use Rattle.shop_tables.proofs.Making.{first_run}
use Rattle.shop_tables.proofs.laying.+run_all.Goals as goal

pub returns-in_default-clause-run : goal.returns-in_default-clause-run
returns-in_default-clause-run g t c clean = let none : length c.args.texts.now ≡ 0 = rw c.in_default.is at c.split_first.ensures.cases in rw (none_below c.args.texts.now (omega (arith, none))) refl

pub returns-clause-run : goal.returns-clause-run
returns-clause-run g t c clean =
    let early : HasCleanDisk (state g.S.Store c.run_text.new.tx.conn.now) = let s = c.run_all.ensures.within.survives.clean in omega (arith, s, clean) in
    first_run g.S.Store (λ text. text.now) c.args.texts.now c.in-Some.first.now c.in-Some.more.now c.args.tx.now.conn.now c.run_text.new.tx.conn.now c.run_all.new.tx.conn.now c.run_all.result c.in-Some.ensures.cases.0 (c.in_ok-run_text.ensures.run early) (c.run_all.ensures.run clean)
