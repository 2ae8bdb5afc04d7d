use Rattle.std.proofs.Common.{◌≡◌, ◌++◌, drop, map}
use Rattle.std.specs.Prelude.{string_bytes}
use Rattle.cut_lines.specs.Lines.{sized_text, reported}
use Rattle.cut_lines.proofs.lines.write_sized_lines.Given as goal

abbrev pub invariant-loop-line : goal.invariant-loop-line
invariant-loop-line l =
    string_bytes l.out ++ sized_text l.name (map reported (drop l.line-index l.list)) ≡ string_bytes l.initial.out ++ sized_text l.name (map reported l.list)
