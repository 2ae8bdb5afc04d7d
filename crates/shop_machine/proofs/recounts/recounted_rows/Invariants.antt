use Rattle.shop_machine.proofs.RecountedRows.{AreAdded}
use Rattle.shop_machine.proofs.recounts.recounted_rows.Given as goal

abbrev pub invariant-loop-found : goal.invariant-loop-found
invariant-loop-found l = AreAdded l.how l.plan.tree l.leaves l.found-index l.rows
