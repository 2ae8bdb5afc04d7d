use Rattle.std.proofs.Common.{arith}
use Rattle.cut_measure.specs.declared.sizes.Kind.TheVariants.{Bar}
use Rattle.cut_plan.proofs.Faultless as facts
use Rattle.cut_plan.proofs.bars.best_pieces.Goals as goal

pub best_counts-requires-clause-own : goal.best_counts-requires-clause-own
best_counts-requires-clause-own c = facts.own _ Bar c.args.wants.now (facts.faultless Bar c.args.size c.args.kerf 0 c.args.wants.now c.requires.faultless).in_range

pub best_counts-requires-clause-bar : goal.best_counts-requires-clause-bar
best_counts-requires-clause-bar c = facts.flat _ c.args.wants.now (facts.faultless Bar c.args.size c.args.kerf 0 c.args.wants.now c.requires.faultless).in_range

pub best_counts-requires-clause-modest : goal.best_counts-requires-clause-modest
best_counts-requires-clause-modest c = facts.modest _ Bar c.args.wants.now (facts.faultless Bar c.args.size c.args.kerf 0 c.args.wants.now c.requires.faultless).in_range

pub counted_pieces-requires : goal.counted_pieces-requires
counted_pieces-requires c = rw c.deref.ensures.value (facts.counts_length c.args.wants.now c.in_ok-counts.counts.items c.in_ok-counts.ensures.counts.within)

pub counted_worth-worth-requires-clause-len : goal.counted_worth-worth-requires-clause-len
counted_worth-worth-requires-clause-len c = rw c.deref-2.ensures.value (facts.counts_length c.args.wants.now c.in_ok-counts.counts.items c.in_ok-counts.ensures.counts.within)

pub counted_worth-worth-requires-clause-small : goal.counted_worth-worth-requires-clause-small
counted_worth-worth-requires-clause-small c =
    rw c.deref-2.ensures.value (omega (
      arith,
      facts.value_left c.args.wants.now c.in_ok-counts.counts.items c.in_ok-counts.ensures.counts.within,
      facts.left_fits Bar c.args.wants.now (facts.faultless Bar c.args.size c.args.kerf 0 c.args.wants.now c.requires.faultless).in_range,
    ))
