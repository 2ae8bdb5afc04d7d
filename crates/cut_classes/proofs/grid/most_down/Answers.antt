use Rattle.std.proofs.Common.{◌+◌, arith}
use Rattle.cut_measure.specs.Measures.{Size}
use Rattle.cut_classes.proofs.Sizes.{most_next, most_all}
use Rattle.cut_classes.proofs.grid.most_down.Goals as goal

pub loop-size-preserved : goal.loop-size-preserved
loop-size-preserved c = (
  most_next (λ (z : Size). z.h + c.args.kerf) c.args.sizes.now c.loop-size.size-index c.loop-size.most c.max-most.result c.size-item.result (omega arith) c.size-item.is (omega arith) (omega arith)
      c.loop-size.invariant.0,
  omega arith,
  omega arith,
)

pub returns-clause-most : goal.returns-clause-most
returns-clause-most c = most_all (λ (z : Size). z.h + c.args.kerf) c.args.sizes.now c.loop-size.size-index c.loop-size.most (omega arith) c.loop-size.invariant.0
