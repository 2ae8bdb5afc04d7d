use Rattle.std.proofs.Common.{◌++◌, ◌∷◌, [], ap, ◌∙◌, arith}
use Rattle.shop_machine.proofs.ImportingDecision.{line_pushed}
use Rattle.shop_machine.proofs.importing.problem_lines.Goals as goal

pub loop-piece-preserved : goal.loop-piece-preserved
loop-piece-preserved c = (
  omega (arith, c.loop-piece.invariant.0),
  c.in_ok-push.ensures.ok
      ∙ ap (λ lines. lines ++ c.piece_line.result ∷ []) c.loop-piece.invariant.1
      ∙ line_pushed c.args.material c.args.pieces.now c.loop-piece.piece-index c.loop-piece.number _ c.piece_line.result c.loop-piece.invariant.0 c.loop-piece-test.true c.piece_line.ensures,
)
