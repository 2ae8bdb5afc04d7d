use Rattle.std.proofs.Common.{◌≡◌, ◌-◌, ◌+◌, drop, length, sym, subst, arith}
use Rattle.cut_wants.specs.declared.wants.Want.{Want}
use Rattle.cut_bars.specs.Reached.{AreReached, AreOffered, StayBelow}
use Rattle.cut_bars.specs.Levels.{Has}
use Rattle.cut_bars.proofs.LevelCounts.{reached_all, reached_more, stays_below}
use Rattle.cut_bars.proofs.bar.reached_level.Goals as goal

pub loop-i-init : goal.loop-i-init
loop-i-init g c =
    let none = c.in_ok-level.ensures c.args.kerf c.args.whole in
    (none.0, reached_all c.args.kerf _ (length c.args.wants.now) c.args.wants.now (Has g.T.Number.value c.in_ok-level.level) (omega arith) none.1)

pub offer_want-requires-clause-below : goal.offer_want-requires-clause-below
offer_want-requires-clause-below g c =
    let f = g.T.Number.value in
    subst (λ (x : Want). StayBelow g.T.Number.limit c.args.whole (Has f c.loop-i.level) (x.size.w + c.args.kerf) x.worth) (sym c.index-wants-i.is)
    (stays_below g.T.Number.limit c.args.kerf c.args.whole (c.loop-i.i - 1) c.loop-i.i c.args.wants.now c.index-wants-i.result (Has f c.loop-i.level) c.requires.below (omega arith)
    c.loop-i.invariant.1)

pub loop-i-preserved : goal.loop-i-preserved
loop-i-preserved g c =
    let d = c.index-wants-i.result in
    let o = subst (λ (x : Want). AreOffered (x.size.w + c.args.kerf) x.worth x.left c.args.whole (Has g.T.Number.value c.loop-i.level) (Has g.T.Number.value c.in_ok-level-2.level)) c.index-wants-i.is
    c.in_ok-level-2.ensures.offered in (
      c.in_ok-level-2.ensures.level,
      reached_more c.args.kerf _ (c.loop-i.i - 1) c.loop-i.i c.args.wants.now d (Has g.T.Number.value c.loop-i.level) (Has g.T.Number.value c.in_ok-level-2.level) (omega arith) (omega arith) c.loop-i.invariant.1 o,
    )

pub returns-clause-reached : goal.returns-clause-reached
returns-clause-reached g c =
    let e : c.loop-i.i ≡ 0 = omega arith in
    subst (λ i. AreReached c.args.kerf (drop i c.args.wants.now) c.args.whole (Has g.T.Number.value c.loop-i.level)) e c.loop-i.invariant.1
