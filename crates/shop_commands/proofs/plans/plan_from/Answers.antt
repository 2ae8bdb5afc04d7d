use Rattle.std.proofs.Common.{inr, map, subst}
use Rattle.shop_problems.specs.Orders.{IsLinesFault}
use Rattle.shop_commands.proofs.plans.plan_from.Goals as goal

pub returns-in-Err-clause-err : goal.returns-in-Err-clause-err
returns-in-Err-clause-err c =
    let code = c.args.asked.now.material.now in
    let sized = subst (λ sizes. IsLinesFault c.args.lines.now c.args.entries.now code (map (λ t. t.now) sizes) c.in-Err.fault) c.as_slice.ensures.value c.in-Err.ensures.err in
    inr (c.in_ok-judge_entries.ensures.ok, (c.in-Err.fault, sized, c.from.ensures))
