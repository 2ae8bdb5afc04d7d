use Rattle.std.proofs.Common.{Bool, arith}
use Rattle.cut_wants.specs.declared.wants.Want.{Want}
use Rattle.cut_classes.specs.Grids.{across_of, down_of}
use Rattle.cut_classes.specs.Rates.{IsRatedWant}
use Rattle.cut_classes.proofs.Loops.{each_all, each_next}
use Rattle.cut_classes.proofs.ScaledAreas.{want_rated_more}
use Rattle.cut_classes.proofs.narrow.highest_rate.Goals as goal

pub loop-want-preserved : goal.loop-want-preserved
loop-want-preserved c =
    let xs = across_of c.args.grid.now in
    let ys = down_of c.args.grid.now in
    let s = c.args.slack_across in
    let s' = c.args.slack_down in
    each_next (λ (y : Want). (turned : Bool) → IsRatedWant s s' xs ys c.args.kerf y turned c.loop-want.highest) (λ (y : Want). (turned : Bool) → IsRatedWant s s' xs ys c.args.kerf y turned c.max-highest.result)
    c.args.wants.now c.loop-want.want-index c.want-item.result (omega arith) c.want-item.is
    (λ y rated turned. want_rated_more s s' xs ys c.args.kerf y turned c.loop-want.highest c.max-highest.result (omega (arith, c.max-highest.ensures)) (rated turned)) c.loop-want.invariant
    (λ turned. want_rated_more s s' xs ys c.args.kerf c.want-item.result turned c.in_ok-rate.rate c.max-highest.result (omega (arith, c.max-highest.ensures)) (c.in_ok-rate.ensures turned))

pub returns : goal.returns
returns c = λ x turned has.
    each_all (λ (y : Want). (turned : Bool) → IsRatedWant c.args.slack_across c.args.slack_down (across_of c.args.grid.now) (down_of c.args.grid.now) c.args.kerf y turned c.loop-want.highest) c.args.wants.now
    c.loop-want.want-index (omega arith) c.loop-want.invariant x has turned
