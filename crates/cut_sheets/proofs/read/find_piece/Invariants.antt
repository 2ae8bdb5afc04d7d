use Rattle.std.proofs.Common.{◌≡◌, Bool, take}
use Rattle.std.specs.Prelude.{Contains}
use Rattle.cut_wants.specs.declared.wants.Want.{Want}
use Rattle.cut_wants.specs.Legal.{HasSides}
use Rattle.cut_sheets.proofs.read.find_piece.Given as goal

abbrev pub invariant-loop-i : goal.invariant-loop-i
invariant-loop-i l = (x : Want) (turned : Bool) → Contains (take l.i l.wants) x → HasSides x turned l.w l.h → x.worth ≡ l.best → ⊥
