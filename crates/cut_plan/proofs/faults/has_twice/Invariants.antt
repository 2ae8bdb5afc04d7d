use Rattle.std.proofs.Common.{◌≡◌, drop}
use Rattle.cut_plan.specs.Faults.{has_twice}
use Rattle.cut_plan.proofs.faults.has_twice.Given as goal

abbrev pub invariant-loop-i : goal.invariant-loop-i
invariant-loop-i l = has_twice l.wants ≡ has_twice (drop l.i l.wants)
