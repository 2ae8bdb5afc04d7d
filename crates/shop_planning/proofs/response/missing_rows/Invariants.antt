use Rattle.std.proofs.Common.{◌≡◌, ◌++◌, drop}
use Rattle.shop_planning.specs.Answers.{missing_rows}
use Rattle.shop_planning.proofs.response.missing_rows.Given as goal

abbrev pub invariant-loop-i : goal.invariant-loop-i
invariant-loop-i l = l.rows.items ++ missing_rows (drop l.i l.wants) (drop l.i l.missing) ≡ missing_rows l.wants l.missing
