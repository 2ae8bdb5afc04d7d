use Rattle.std.proofs.Common.{◌≡◌, ℕ, ◌<◌, get_or, map}
use Rattle.cut_sheets.proofs.row.is_same.Given as goal

abbrev pub invariant-loop-p : goal.invariant-loop-p
invariant-loop-p g l = (k : ℕ) → k < l.p → get_or (map g.T.Number.value l.one) k 0 ≡ get_or (map g.T.Number.value l.other) k 0
