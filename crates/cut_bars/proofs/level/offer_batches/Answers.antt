use Rattle.std.proofs.Common.{◌*◌, ◌^◌, arith}
use Rattle.std.proofs.lemmas.Nat.{mul-le}
use Rattle.std.proofs.Math.Nat.{le_refl}
use Rattle.cut_bars.specs.Levels.{Has}
use Rattle.cut_bars.proofs.OfferedPieces.{offered_none, offered_more, offered_low}
use Rattle.cut_bars.proofs.LevelCounts.{level_own}
use Rattle.cut_bars.proofs.level.offer_batches.Goals as goal

pub loop-taken-init : goal.loop-taken-init
loop-taken-init g c = (
  omega arith,
  c.requires.level,
  offered_none c.requires.below.price c.args.piece.span c.args.piece.worth c.args.whole (Has g.T.Number.value c.args.base) (level_own g.T.Number.value c.args.whole c.args.base c.requires.level) c.requires.below.low,
)

pub overflow_mul-batch-in-loop-taken : goal.overflow_mul-batch-in-loop-taken
overflow_mul-batch-in-loop-taken g c =
    let more = c.min-more.result in
    let b = c.requires.below in
    let spans = mul-le more c.args.piece.span c.args.most c.args.piece.span (omega arith) (le_refl c.args.piece.span) in
    omega (
      arith,
      mul-le more c.args.piece.worth more (c.args.piece.span * b.price) (le_refl more) b.gains,
      mul-le (more * c.args.piece.span) b.price (2 ^ 20) (2 ^ 30) (omega (arith, spans)) b.modest,
    )

pub offer-requires-clause-below : goal.offer-requires-clause-below
offer-requires-clause-below g c =
    let f = g.T.Number.value in
    let more = c.min-more.result in
    let b = c.requires.below in
    record {
      price = b.price;
      modest = b.modest;
      low = offered_low b.price c.args.piece.span c.args.piece.worth c.loop-taken.taken c.args.whole (Has f c.args.base) (Has f c.loop-taken.offered) c.loop-taken.invariant.2 b.low b.gains;
      gains = omega (arith, mul-le more c.args.piece.worth more (c.args.piece.span * b.price) (le_refl more) b.gains);
      below = b.below;
    }

pub loop-taken-preserved : goal.loop-taken-preserved
loop-taken-preserved g c = (
  omega arith,
  c.in_ok-offered.ensures.level,
  offered_more c.args.piece.span c.args.piece.worth c.loop-taken.taken c.min-more.result c.args.whole (Has g.T.Number.value c.args.base) (Has g.T.Number.value c.loop-taken.offered) (Has g.T.Number.value c.in_ok-offered.offered)
      c.loop-taken.invariant.2 (omega arith) c.in_ok-offered.ensures.offered,
)
