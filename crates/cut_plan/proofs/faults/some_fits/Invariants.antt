use Rattle.std.proofs.Common.{◌≡◌, drop}
use Rattle.std.specs.List.{list_any}
use Rattle.cut_plan.specs.Faults.{is_fitting}
use Rattle.cut_plan.proofs.faults.some_fits.Given as goal

abbrev pub invariant-loop-want : goal.invariant-loop-want
invariant-loop-want l = list_any (is_fitting l.size) l.wants ≡ list_any (is_fitting l.size) (drop l.want-index l.wants)
