use Rattle.std.proofs.Common.{map}
use Rattle.cut_bars.specs.Levels.{HasCell}
use Rattle.cut_bars.proofs.DividedSpans.{IsGreatestCell, IsDivided, IsPast}
use Rattle.cut_bars.proofs.divide.divide_tables.Given as goal

abbrev pub invariant-loop-span : goal.invariant-loop-span
invariant-loop-span g l =
    IsGreatestCell (map g.T.Number.value l.back) l.span l.after
    × IsDivided l.whole 2 (HasCell (map g.T.Number.value l.prefix)) (HasCell (map g.T.Number.value l.back)) (IsPast l.whole l.span) l.found
