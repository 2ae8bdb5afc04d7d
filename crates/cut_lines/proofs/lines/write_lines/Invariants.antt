use Rattle.std.proofs.Common.{◌≡◌, ◌++◌, drop, map}
use Rattle.std.specs.Prelude.{string_bytes}
use Rattle.cut_lines.specs.Lines.{lines_text, reported}
use Rattle.cut_lines.proofs.lines.write_lines.Given as goal

abbrev pub invariant-loop-line : goal.invariant-loop-line
invariant-loop-line l =
    string_bytes l.out ++ lines_text (map reported (drop l.line-index l.list)) ≡ string_bytes l.initial.out ++ lines_text (map reported l.list)
