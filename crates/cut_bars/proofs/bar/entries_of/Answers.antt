use Rattle.std.proofs.Common.{◌+◌, arith}
use Rattle.std.specs.Prelude.{Contains}
use Rattle.std.proofs.lemmas.Result.{IfOk-weaker}
use Rattle.cut_bars.specs.Levels.{Has}
use Rattle.cut_bars.proofs.LevelCounts.{reached_same}
use Rattle.cut_bars.proofs.bar.entries_of.Goals as goal

pub into_entries-requires : goal.into_entries-requires
into_entries-requires g c = (c.args.size + c.args.kerf, omega arith, c.in_ok-level.ensures.level)

pub returns-clause-reached : goal.returns-clause-reached
returns-clause-reached g c =
    IfOk-weaker c.into_entries.result _ _
    (λ entries same. reached_same c.args.kerf _ c.args.wants.now (Has g.T.Number.value c.in_ok-level.level) (Contains entries.items) c.in_ok-level.ensures.reached same) c.into_entries.ensures.same
