use Rattle.std.proofs.Common.{◌≡◌, drop}
use Rattle.shop_problems.specs.Judged.{kind_in}
use Rattle.shop_problems.proofs.judging.kind_in.Given as goal

abbrev pub invariant-loop-entry : goal.invariant-loop-entry
invariant-loop-entry l = kind_in l.entries l.material ≡ kind_in (drop l.entry-index l.entries) l.material
