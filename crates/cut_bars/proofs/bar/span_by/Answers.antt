use Rattle.cut_bars.specs.Levels.{Has}
use Rattle.cut_bars.proofs.DividedSpans.{best_span, small_worths}
use Rattle.cut_bars.proofs.bar.span_by.Goals as goal

pub divide-requires-clause-small_prefix : goal.divide-requires-clause-small_prefix
divide-requires-clause-small_prefix g c = small_worths g.T.Number.limit c.args.kerf c.args.whole c.args.first.now (Has g.T.Number.value c.in_ok-prefix.prefix) c.requires.below_first c.in_ok-prefix.ensures.reached

pub divide-requires-clause-small_back : goal.divide-requires-clause-small_back
divide-requires-clause-small_back g c = small_worths g.T.Number.limit c.args.kerf c.args.whole c.args.others.now (Has g.T.Number.value c.in_ok-back.back) c.requires.below_others c.in_ok-back.ensures.reached

pub returns : goal.returns
returns g c =
    best_span c.args.kerf c.args.whole c.in_ok-at.at c.args.first.now c.args.others.now (Has g.T.Number.value c.in_ok-prefix.prefix) (Has g.T.Number.value c.in_ok-back.back) c.in_ok-prefix.ensures.reached
    c.in_ok-back.ensures.reached c.in_ok-at.ensures
