use Rattle.std.proofs.Common.{arith}
use Rattle.cut_bars.proofs.JoinedEntries.{low_at, join_step}
use Rattle.cut_bars.proofs.reach.join.Goals as goal

pub overflow_add-new : goal.overflow_add-new
overflow_add-new c = omega (arith, (low_at _ _ c.loop-kept.moved c.requires.low (omega arith)).0)

pub overflow_add-new-in-loop-kept : goal.overflow_add-new-in-loop-kept
overflow_add-new-in-loop-kept c =
    let low = low_at _ _ c.loop-kept.moved c.requires.low (omega arith) in
    omega (arith, low.0, low.1)

pub loop-kept-preserved : goal.loop-kept-preserved
loop-kept-preserved c =
    join_step c.args.batch.span c.args.batch.worth c.args.entries.now c.loop-kept.kept c.loop-kept.moved c.loop-kept.joined.items _ c.first_of-first.result c.requires.rising c.requires.some
    c.loop-kept.invariant.0 (omega arith) c.first_of-first.ensures c.in_ok-push.ensures.items c.loop-kept.invariant.2 c.loop-kept.invariant.3
