use Rattle.std.proofs.Common.{◌-◌, arith}
use Rattle.cut_bars.proofs.JoinedEntries.{low_at}
use Rattle.cut_bars.proofs.DividedSpans.{after_next, lists_start, lists_more, lists_done}
use Rattle.cut_bars.proofs.divide.divide_lists.Goals.{else-next-back-via-then-next-back+else-back-next, else-next-back-via-else-next-back}
use Rattle.cut_bars.proofs.divide.divide_lists.Goals as goal

pub loop-left-init : goal.loop-left-init
loop-left-init c =
    let start = lists_start c.args.whole c.requires.small_prefix.0 c.requires.small_back.0 c.args.prefix.now c.args.back.now c.requires.rising_prefix c.requires.rising_back c.requires.small_prefix.1 c.requires.small_back.1 in
    (omega arith, omega arith, start.0, start.1)

pub overflow_add-back : goal.overflow_add-back
overflow_add-back c =
    omega (
      arith,
      (low_at c.args.whole c.args.back.now c.loop-left.next c.requires.small_back.1.low (omega arith)).0,
      (low_at c.args.whole c.args.prefix.now (c.loop-left.left - 1) c.requires.small_prefix.1.low (omega (arith, c.loop-left.invariant.0))).0,
    )

pub loop-left-preserved-then-back-next : goal.loop-left-preserved-then-back-next
loop-left-preserved-then-back-next c = (
  c.loop-left.invariant.0,
  omega arith,
  after_next c.args.whole c.requires.small_prefix.0 c.requires.small_back.0 c.args.prefix.now c.args.back.now c.requires.rising_prefix c.requires.rising_back c.requires.small_prefix.1 c.requires.small_back.1
      c.loop-left.left c.loop-left.next c.loop-left.after c.max-after.result c.loop-left.invariant.2 (omega arith) c.loop-left.invariant.0 (omega arith) (omega arith) (omega arith),
  c.loop-left.invariant.3,
)

pub overflow_add-both : goal.overflow_add-both
overflow_add-both c =
    let here = low_at c.args.whole c.args.prefix.now (c.loop-left.left - 1) c.requires.small_prefix.1.low (omega (arith, c.loop-left.invariant.0)) in
    let b = c.loop-left.invariant.2 in
    let beside = c.requires.small_back.1.low b.other b.there in
    omega (arith, here.0, here.1, beside.0, beside.1, b.worth)

pub loop-left-preserved : goal.loop-left-preserved
loop-left-preserved c =
    let more = lists_more c.args.whole c.requires.small_prefix.0 c.requires.small_back.0 c.args.prefix.now c.args.back.now c.requires.rising_prefix c.requires.rising_back c.requires.small_prefix.1 c.requires.small_back.1
    c.loop-left.left c.loop-left.next c.loop-left.after c.loop-left.found _ c.worthier-found.result c.loop-left.invariant.2 c.loop-left.invariant.3 c.worthier-found.ensures (omega arith) c.loop-left.invariant.0
    (λ lt. elim c.else-next-back.branch [
      | else-next-back-via-then-next-back+else-back-next w ↦ omega arith
      | else-next-back-via-else-next-back w ↦ absurd (omega (arith, lt))
    ])
    (omega arith) (omega arith) in
    (omega (arith, c.loop-left.invariant.0), c.loop-left.invariant.1, more.0, more.1)

pub returns : goal.returns
returns c =
    lists_done c.args.whole c.requires.small_prefix.0 c.requires.small_back.0 c.args.prefix.now c.args.back.now c.requires.rising_prefix c.requires.rising_back c.requires.small_prefix.1 c.requires.small_back.1
    c.loop-left.left c.loop-left.found (omega arith) c.loop-left.invariant.3
