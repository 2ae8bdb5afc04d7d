use Rattle.std.proofs.Common.{◌<◌, ℕ}
use Rattle.cut_sheets.specs.Table.{IsCutX}
use Rattle.cut_sheets.proofs.read.find_cut_x.Given as goal

abbrev pub invariant-loop-a : goal.invariant-loop-a
invariant-loop-a l = (a : ℕ) → a < l.a → IsCutX l.wants l.w l.h l.best a → ⊥
