use Rattle.std.proofs.Common.{[], sym, subst}
use Rattle.std.specs.Prelude.{Contains}
use Rattle.cut_bars.specs.Reached.{AreRising, AreReached}
use Rattle.cut_bars.proofs.LevelCounts.{none_reached}
use Rattle.cut_bars.proofs.bar.none_reached.Goals as goal

pub returns : goal.returns
returns g c = λ k whole. subst (λ entries. AreRising entries × AreReached k [] whole (Contains entries)) (sym c.in_ok-none.ensures.items) (none_reached k whole)
