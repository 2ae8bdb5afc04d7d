use Rattle.std.proofs.Common.{◌<◌, ℕ}
use Rattle.cut_sheets.specs.Table.{IsCutY}
use Rattle.cut_sheets.proofs.read.find_cut_y.Given as goal

abbrev pub invariant-loop-a : goal.invariant-loop-a
invariant-loop-a l = (a : ℕ) → a < l.a → IsCutY l.wants l.w l.h l.best a → ⊥
