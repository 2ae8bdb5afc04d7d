use Rattle.std.proofs.Common.{◌≡◌, ◌++◌, drop}
use Rattle.cut_lines.specs.Lines.{units_of}
use Rattle.cut_lines.proofs.lines.units_of.Given as goal

abbrev pub invariant-loop-unit : goal.invariant-loop-unit
invariant-loop-unit l = l.list.items ++ units_of l.place (drop l.unit-index l.units) ≡ units_of l.place l.units
