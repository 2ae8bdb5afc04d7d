use Rattle.std.proofs.Common.{◌+◌, arith}
use Rattle.std.proofs.lemmas.List.Sums.{sum_by_more}
use Rattle.cut_tree.proofs.bars.span_after.Goals as goal

pub loop-piece-preserved : goal.loop-piece-preserved
loop-piece-preserved c =
    let more = sum_by_more (λ p. p.1 + c.args.kerf) c.args.pieces.now c.loop-piece.piece-index (0, 0) c.loop-piece-test.true in
    omega (arith, more, c.loop-piece.invariant, c.in_ok-checked_sub.ensures, c.in_ok-span.ensures)
