use Rattle.std.proofs.Common.{take}
use Rattle.std.specs.Prelude.{All, IsTrue}
use Rattle.shop_rows.specs.Lines.{is_within}
use Rattle.shop_rows.proofs.lines.Span.of.Given as goal

abbrev pub invariant-loop-row : goal.invariant-loop-row
invariant-loop-row l = All (λ row. IsTrue (is_within l.span row.number)) (take l.row-index l.rows)
