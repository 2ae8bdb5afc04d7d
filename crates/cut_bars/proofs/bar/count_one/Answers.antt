use Rattle.std.proofs.Common.{◌≡◌, ◌+◌, ◌/◌, ap, arith}
use Rattle.cut_bars.proofs.DividedSpans.{best_one}
use Rattle.cut_bars.proofs.bar.count_one.Goals as goal

pub returns-clause-best : goal.returns-clause-best
returns-clause-best c =
    let side : c.w.result ≡ c.args.want.now.size.w = c.w.ensures.value in
    best_one c.args.kerf c.args.whole c.min.result c.args.want.now (omega (arith, side, c.w.ensures.least)) (omega (arith, ap (λ n. c.args.whole / (n + c.args.kerf)) side))
