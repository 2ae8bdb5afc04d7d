use Rattle.std.proofs.Common.{arith}
use Rattle.cut_classes.proofs.row.fill_row.Goals as goal

pub returns : goal.returns
returns g c = record {
  pieces = c.join_row.ensures.pieces;
  sums = λ i a b il al bl parts. omega (arith, c.stack_all.ensures.sums i a b il al bl parts, c.join_row.ensures.kept i);
  parts = c.join_row.ensures.parts;
}
