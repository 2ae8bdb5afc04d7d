use Rattle.std.proofs.Common.{◌≡◌, ◌+◌, ◌/◌, sym, subst, arith}
use Rattle.cut_bars.specs.Levels.{Has}
use Rattle.cut_bars.specs.Reached.{StayBelow}
use Rattle.cut_bars.proofs.OfferedPieces.{offered_capped, fit_within}
use Rattle.cut_bars.proofs.level.offer_want.Goals as goal

pub offer_any-requires-clause-below : goal.offer_any-requires-clause-below
offer_any-requires-clause-below g c =
    let side : c.w.result ≡ c.args.want.now.size.w = c.w.ensures.value in
    subst (λ n. StayBelow g.T.Number.limit c.args.whole (Has g.T.Number.value c.args.base) (n + c.args.kerf) c.args.want.now.worth) (sym side) c.requires.below

pub offer_batches-requires-clause-below : goal.offer_batches-requires-clause-below
offer_batches-requires-clause-below g c =
    let side : c.w.result ≡ c.args.want.now.size.w = c.w.ensures.value in
    subst (λ n. StayBelow g.T.Number.limit c.args.whole (Has g.T.Number.value c.args.base) (n + c.args.kerf) c.args.want.now.worth) (sym side) c.requires.below

pub returns-then-whole-piece-clause-offered : goal.returns-then-whole-piece-clause-offered
returns-then-whole-piece-clause-offered g c =
    let side : c.w.result ≡ c.args.want.now.size.w = c.w.ensures.value in
    let step = c.w.result + c.args.kerf in
    rw side at
    (offered_capped step c.args.want.now.worth (c.args.whole / step) c.args.want.now.left c.args.whole (Has g.T.Number.value c.args.base) (Has g.T.Number.value c.in_ok-offered.offered) c.in_ok-offered.ensures.offered (omega arith)
    (λ times few fits. fit_within step times c.args.whole (omega arith) fits))
