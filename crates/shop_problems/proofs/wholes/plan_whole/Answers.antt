use Rattle.std.proofs.Common.{◌≡◌, rules, arith, subst, sym}
use Rattle.cut_plan.specs.Proposals.{AreDemands}
use Rattle.shop_problems.specs.Wants.{wants_of}
use Rattle.shop_problems.specs.Wholes.{IsWholePlan, kind_of}
use Rattle.shop_problems.proofs.Demands.{demands_from}
use Rattle.shop_problems.proofs.wholes.plan_whole.Goals as goal

pub planned-requires-clause-demands : goal.planned-requires-clause-demands
planned-requires-clause-demands c =
    let pieces = c.args.problem.now.pieces in
    let wants : c.deref.result.now ≡ wants_of pieces = search rules in
    let few = c.requires.pieces.1 in
    subst AreDemands (sym wants) (demands_from 1 pieces (omega arith) (omega (arith, few)))

pub returns-in-Ok-lines_of-clause-ok : goal.returns-in-Ok-lines_of-clause-ok
returns-in-Ok-lines_of-clause-ok c =
    let size = c.args.problem.now.size in
    let pieces = c.args.problem.now.pieces in
    let how = c.args.how in
    let plan = c.in_ok-plan.plan in
    let wants : c.deref.result.now ≡ wants_of pieces = search rules in
    let kind : c.kind_of-kind.result ≡ kind_of size pieces = search rules in
    let answers = subst (λ ws. IsWholePlan c.kind_of-kind.result size how.kerf how.step how.stages ws plan) wants c.in_ok-plan.ensures.ok in
    record { plan = plan; answers = subst (λ k. IsWholePlan k size how.kerf how.step how.stages (wants_of pieces) plan) kind answers; reported = c.in-Ok-lines_of.ensures }
