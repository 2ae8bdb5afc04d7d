use Rattle.std.proofs.Common.{arith}
use Rattle.cut_plan.proofs.Faultless as facts
use Rattle.cut_plan.proofs.bounds.faultless_bound.Goals as goal

pub units-units-requires-clause-own : goal.units-units-requires-clause-own
units-units-requires-clause-own c =
    facts.own _ c.args.kind c.args.wants.now (facts.faultless c.args.kind c.args.size c.args.kerf c.args.step c.args.wants.now c.requires.faultless).in_range

pub units-units-requires-clause-best : goal.units-units-requires-clause-best
units-units-requires-clause-best c =
    let f = facts.faultless c.args.kind c.args.size c.args.kerf c.args.step c.args.wants.now c.requires.faultless in
    facts.some_worth c.args.kind c.args.size c.args.kerf c.args.step c.args.wants.now c.in_ok-best.best f.in_range c.requires.fits
    (facts.unit_most c.args.kind c.args.size c.args.kerf c.args.step c.args.wants.now c.in_ok-best.best f.stepped c.in_ok-best.ensures.best)

pub units-units-requires-clause-small : goal.units-units-requires-clause-small
units-units-requires-clause-small c =
    let f = facts.faultless c.args.kind c.args.size c.args.kerf c.args.step c.args.wants.now c.requires.faultless in
    omega (arith, facts.left_fits c.args.kind c.args.wants.now f.in_range, c.in_ok-best.ensures.small)

pub returns : goal.returns
returns c =
    let f = facts.faultless c.args.kind c.args.size c.args.kerf c.args.step c.args.wants.now c.requires.faultless in
    record {
      best = c.in_ok-best.ensures.best;
      exact = c.units-units.ensures.exact;
      least = λ trees meets.
          c.units-units.ensures.bound c.args.kerf c.args.size.w c.args.size.h trees
          (facts.unit_most c.args.kind c.args.size c.args.kerf c.args.step c.args.wants.now c.in_ok-best.best f.stepped c.in_ok-best.ensures.best) meets;
    }
