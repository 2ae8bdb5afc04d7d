use Rattle.shop_machine.proofs.EndingDecision.{in_limit_laid}
use Rattle.shop_machine.proofs.ending.laid_demands.Goals as goal

pub recounted_rows-requires-clause-found : goal.recounted_rows-requires-clause-found
recounted_rows-requires-clause-found c = in_limit_laid c.args.rows.now c.args.plan.now.tree c.args.leaves.now c.requires.few c.requires.rows
