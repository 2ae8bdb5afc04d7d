use Rattle.std.proofs.Common.{◌≤◌, length, sym, subst, arith}
use Rattle.shop_machine.specs.Recounts.{CanRecount, HasRow}
use Rattle.shop_machine.proofs.RecountedRows.{added_more, all_added, row_of}
use Rattle.shop_machine.proofs.recounts.recounted_rows.Goals as goal

pub add_once-requires : goal.add_once-requires
add_once-requires c =
    let has : HasRow (CanRecount c.args.how) c.args.plan.now.tree c.found-item.result =
    subst (HasRow (CanRecount c.args.how) c.args.plan.now.tree) (sym c.found-item.is) (c.requires.found c.loop-found.found-index c.found-item.result c.loop-found-test.true) in
    (row_of (CanRecount c.args.how) c.args.plan.now.tree c.found-item.result c.in-Some.demand has c.in-Some.is).1

pub loop-found-preserved : goal.loop-found-preserved
loop-found-preserved c =
    let has : HasRow (CanRecount c.args.how) c.args.plan.now.tree c.found-item.result =
    subst (HasRow (CanRecount c.args.how) c.args.plan.now.tree) (sym c.found-item.is) (c.requires.found c.loop-found.found-index c.found-item.result c.loop-found-test.true) in
    let facts = row_of (CanRecount c.args.how) c.args.plan.now.tree c.found-item.result c.in-Some.demand has c.in-Some.is in
    added_more c.args.how c.args.plan.now.tree c.args.leaves.now c.loop-found.found-index c.loop-found.rows c.add_once.new.rows c.found-item.result c.in-Some.demand
    c.loop-found-test.true c.found-item.is c.in-Some.is facts.0 c.loop-found.invariant
    c.in_ok-add_once.ensures

pub returns : goal.returns
returns c =
    λ at found.
    let all : length c.args.leaves.now ≤ c.loop-found.found-index = omega (arith, c.loop-found-test.false) in
    all_added c.args.how c.args.plan.now c.args.leaves.now c.loop-found.rows at c.loop-found.found-index c.requires.leaves all c.loop-found.invariant found
