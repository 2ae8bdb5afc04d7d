use Rattle.std.proofs.Common.{◌≡◌, ◌+◌, take}
use Rattle.shop_machine.specs.Importing.{problem_lines}
use Rattle.shop_machine.proofs.importing.problem_lines.Given as goal

abbrev pub invariant-loop-piece : goal.invariant-loop-piece
invariant-loop-piece l = (l.number ≡ l.piece-index + 1) × (l.lines ≡ problem_lines l.material (take l.piece-index l.pieces))
