use Rattle.std.proofs.Common.{◌≡◌, ◌++◌, drop, map}
use Rattle.cut_lines.specs.Lines.{distinct, plan_line, plan_lines, reported}
use Rattle.cut_lines.proofs.lines.lines_of.Given as goal

abbrev pub invariant-loop-i : goal.invariant-loop-i
invariant-loop-i l =
    map reported l.list.items ++ map (λ u. plan_line l.units u.plan) (distinct (drop l.i l.units)) ≡ plan_lines l.units
