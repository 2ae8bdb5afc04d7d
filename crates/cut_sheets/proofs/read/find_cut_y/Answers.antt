use Rattle.std.proofs.Common.{arith, below_more}
use Rattle.cut_sheets.proofs.BestWorths.{value_small, no_cut_y}
use Rattle.cut_sheets.proofs.read.find_cut_y.Goals as goal

pub overflow_add-first : goal.overflow_add-first
overflow_add-first c =
    omega (
      arith,
      value_small _ _ _ _ c.requires.own c.requires.small (omega arith) (omega arith) c.worth_at-first.ensures,
      value_small _ _ _ _ c.requires.own c.requires.small (omega arith) (omega arith) c.worth_at-second.ensures,
    )

pub loop-a-preserved : goal.loop-a-preserved
loop-a-preserved c = below_more _ _ c.loop-a.invariant (no_cut_y _ _ _ _ _ _ _ c.worth_at-first.ensures c.worth_at-second.ensures c.if-first-second.false)
