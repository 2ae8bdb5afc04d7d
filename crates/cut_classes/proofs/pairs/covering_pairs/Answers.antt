use Rattle.std.proofs.Common.{◌-◌, inl, inr, arith}
use Rattle.std.proofs.lemmas.Bool.{cases_lt}
use Rattle.cut_classes.specs.Grids.{classes}
use Rattle.cut_classes.proofs.Loops.{next_front, whole_front}
use Rattle.cut_classes.proofs.pairs.covering_pairs.Goals as goal

pub loop-handled-preserved : goal.loop-handled-preserved
loop-handled-preserved c =
    let first = c.args.class - 1 - c.loop-handled.handled in
    next_front (classes c.args.points.now c.args.most) c.args.class c.loop-handled.handled first c.loop-handled.beaten c.reach-beside.result c.saturating_sub-span.result
    c.loop-handled.pairs.items c.add_pair.new.pairs.items c.requires.usable c.requires.class (omega arith) (omega (arith, c.high_of-high.ensures)) c.reach-beside.ensures.from
    (elim (cases_lt first c.loop-handled.beaten) [
      | inl lt ↦ inr (omega (arith, lt, c.reach-beside.ensures.within))
      | inr ge ↦ inl (omega (arith, ge, c.reach-beside.ensures.within))
    ])
    c.reach-beside.ensures.reached (λ lt. c.reach-beside.ensures.next (omega (arith, lt))) c.in_ok-add_pair.ensures c.loop-handled.invariant

pub returns : goal.returns
returns c =
    whole_front (classes c.args.points.now c.args.most) c.args.class c.loop-handled.handled c.loop-handled.beaten c.loop-handled.pairs.items (omega arith) c.loop-handled.invariant
