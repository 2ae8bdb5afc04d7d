use Rattle.std.proofs.lemmas.Bool.Decides.{same_from_decides}
use Rattle.cut_tree.specs.SamePatterns.{same_pattern, same_pattern_decides}
use Rattle.cut_tree.proofs.plan.PlanPartialEq.eq.Goals as goal

pub returns-clause-test : goal.returns-clause-test
returns-clause-test c =
    same_from_decides c.is.result (same_pattern c.args.self.now c.args.other.now) c.is.ensures (same_pattern_decides c.args.self.now c.args.other.now)
