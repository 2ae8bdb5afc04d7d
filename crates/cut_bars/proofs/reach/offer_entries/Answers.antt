use Rattle.std.proofs.Common.{inl, inr, arith}
use Rattle.cut_bars.proofs.JoinedEntries.{low_at, tail_joined, tail_short, up_to_short, all_offered}
use Rattle.cut_bars.proofs.reach.offer_entries.Goals.{then-loop-moved-test+else-entries-moved, else-loop-moved-test}
use Rattle.cut_bars.proofs.reach.offer_entries.Goals as goal

pub loop-moved-init : goal.loop-moved-init
loop-moved-init c = (c.in_ok-offered.ensures.inside, c.in_ok-offered.ensures.joined, up_to_short _ _ _ c.requires.low c.in_ok-offered.ensures.up_to)

pub overflow_add-entries : goal.overflow_add-entries
overflow_add-entries c = omega (arith, (low_at _ _ c.loop-moved.moved c.requires.low (omega arith)).0)

pub overflow_add-from-in-loop-moved : goal.overflow_add-from-in-loop-moved
overflow_add-from-in-loop-moved c =
    let low = low_at _ _ c.loop-moved.moved c.requires.low (omega arith) in
    omega (arith, low.0, low.1)

pub loop-moved-preserved : goal.loop-moved-preserved
loop-moved-preserved c = (
  omega arith,
  tail_joined c.args.batch.span c.args.batch.worth c.args.whole c.args.entries.now c.loop-moved.moved c.loop-moved.offered.items _ c.requires.rising (omega arith) c.in_ok-push.ensures.items
      c.loop-moved.invariant.1,
  tail_short c.args.batch.span c.args.batch.worth c.args.whole c.args.entries.now c.loop-moved.moved c.loop-moved.offered.items _ c.requires.rising (omega arith) c.in_ok-push.ensures.items
      c.loop-moved.invariant.1 (omega arith) c.loop-moved.invariant.2,
)

pub returns-clause-offered : goal.returns-clause-offered
returns-clause-offered c =
    all_offered c.args.batch.span c.args.batch.worth c.args.whole c.args.entries.now c.loop-moved.moved c.loop-moved.offered.items c.requires.rising c.loop-moved.invariant.1 c.loop-moved.invariant.2
    (elim c.loop-moved-test.branch [
      | then-loop-moved-test+else-entries-moved w ↦ inr (omega arith)
      | else-loop-moved-test w ↦ inl (omega arith)
    ])

pub returns-clause-rising : goal.returns-clause-rising
returns-clause-rising c = c.loop-moved.invariant.1.rising
