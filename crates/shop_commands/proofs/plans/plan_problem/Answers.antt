use Rattle.std.proofs.Common.{◌≡◌, rules, arith, subst, sym}
use Rattle.cut_plan.specs.Proposals.{AreDemands}
use Rattle.shop_problems.specs.Wants.{wants_of}
use Rattle.shop_problems.proofs.Demands.{demands_from}
use Rattle.shop_commands.proofs.plans.plan_problem.Goals as goal

pub plan_sheet-requires-clause-demands : goal.plan_sheet-requires-clause-demands
plan_sheet-requires-clause-demands c =
    let pieces = c.args.problem.now.pieces in
    let wants : c.deref.result.now ≡ wants_of pieces = search rules in
    let few = c.requires.pieces.1 in
    subst AreDemands (sym wants) (demands_from 1 pieces (omega arith) (omega (arith, few)))
