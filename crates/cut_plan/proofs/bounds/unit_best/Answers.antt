use Rattle.std.proofs.Common.{◌≡◌, false, subst, arith}
use Rattle.cut_plan.specs.declared.faults.TheConstants.{MAX_WANTS}
use Rattle.cut_plan.specs.Faults.{are_bad_wants, is_bad_step}
use Rattle.cut_plan.proofs.Faultless as facts
use Rattle.cut_plan.proofs.bounds.unit_best.Goals as goal

pub best_counts-requires-clause-own : goal.best_counts-requires-clause-own
best_counts-requires-clause-own c =
    facts.own _ c.args.kind c.args.wants.now (facts.faultless c.args.kind c.args.size c.args.kerf c.args.step c.args.wants.now c.requires.faultless).in_range

pub best_counts-requires-clause-bar : goal.best_counts-requires-clause-bar
best_counts-requires-clause-bar c =
    let f = facts.faultless c.args.kind c.args.size c.args.kerf c.args.step c.args.wants.now c.requires.faultless in
    facts.flat _ c.args.wants.now (subst (λ kind. are_bad_wants MAX_WANTS kind c.args.wants.now ≡ false) c.in-Bar.is f.in_range)

pub best_counts-requires-clause-modest : goal.best_counts-requires-clause-modest
best_counts-requires-clause-modest c =
    facts.modest _ c.args.kind c.args.wants.now (facts.faultless c.args.kind c.args.size c.args.kerf c.args.step c.args.wants.now c.requires.faultless).in_range

pub counted_worth-worth-requires-clause-len : goal.counted_worth-worth-requires-clause-len
counted_worth-worth-requires-clause-len c =
    rw c.deref.ensures.value (facts.counts_length c.args.wants.now c.in_ok-counts-in-Bar.counts.items c.in_ok-counts-in-Bar.ensures.counts.within)

pub counted_worth-worth-requires-clause-small : goal.counted_worth-worth-requires-clause-small
counted_worth-worth-requires-clause-small c =
    let f = facts.faultless c.args.kind c.args.size c.args.kerf c.args.step c.args.wants.now c.requires.faultless in
    rw c.deref.ensures.value (omega (
      arith,
      facts.value_left c.args.wants.now c.in_ok-counts-in-Bar.counts.items c.in_ok-counts-in-Bar.ensures.counts.within,
      facts.left_fits c.args.kind c.args.wants.now f.in_range,
    ))

pub returns-in_ok-counts-in-Bar-clause-small : goal.returns-in_ok-counts-in-Bar-clause-small
returns-in_ok-counts-in-Bar-clause-small c =
    let f = facts.faultless c.args.kind c.args.size c.args.kerf c.args.step c.args.wants.now c.requires.faultless in
    rw (c.counted_worth-worth.ensures, c.deref.ensures.value) (omega (
      arith,
      facts.value_left c.args.wants.now c.in_ok-counts-in-Bar.counts.items c.in_ok-counts-in-Bar.ensures.counts.within,
      facts.left_fits c.args.kind c.args.wants.now f.in_range,
    ))

pub ceiling-requires-clause-own : goal.ceiling-requires-clause-own
ceiling-requires-clause-own c =
    facts.own _ c.args.kind c.args.wants.now (facts.faultless c.args.kind c.args.size c.args.kerf c.args.step c.args.wants.now c.requires.faultless).in_range

pub ceiling-requires-clause-worthy : goal.ceiling-requires-clause-worthy
ceiling-requires-clause-worthy c =
    facts.worthy _ c.args.kind c.args.wants.now (facts.faultless c.args.kind c.args.size c.args.kerf c.args.step c.args.wants.now c.requires.faultless).in_range

pub ceiling-requires-clause-step : goal.ceiling-requires-clause-step
ceiling-requires-clause-step c =
    let f = facts.faultless c.args.kind c.args.size c.args.kerf c.args.step c.args.wants.now c.requires.faultless in
    facts.is_step c.args.kerf c.args.step c.args.wants.now (subst (λ kind. is_bad_step kind c.args.kerf c.args.step c.args.wants.now ≡ false) c.in-Sheet.is f.stepped)
