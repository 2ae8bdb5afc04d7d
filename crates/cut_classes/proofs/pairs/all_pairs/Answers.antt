use Rattle.std.proofs.Common.{arith}
use Rattle.cut_classes.specs.Grids.{classes}
use Rattle.cut_classes.proofs.Loops.{lists_push}
use Rattle.cut_classes.proofs.pairs.all_pairs.Goals as goal

pub loop-class-preserved : goal.loop-class-preserved
loop-class-preserved c = (
  omega (arith, c.in_ok-push.ensures.len, c.loop-class.invariant.0),
  lists_push (classes c.args.points.now c.args.most) c.loop-class.lists.items c.push.new.self.items c.loop-class.class c.in_ok-pairs.pairs c.loop-class.invariant.0 c.in_ok-pairs.ensures
      c.in_ok-push.ensures.items c.loop-class.invariant.1,
)
