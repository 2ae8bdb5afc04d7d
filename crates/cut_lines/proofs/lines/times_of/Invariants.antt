use Rattle.std.proofs.Common.{◌≡◌, ◌*◌, ◌^◌, ◌≤◌, take}
use Rattle.cut_lines.specs.Lines.{times_of}
use Rattle.cut_lines.proofs.lines.times_of.Given as goal

abbrev pub invariant-loop-unit : goal.invariant-loop-unit
invariant-loop-unit l = record { sum : l.times ≡ times_of (take l.unit-index l.units) l.plan; few : l.times ≤ l.unit-index * 2 ^ 32 }
