use Rattle.std.proofs.Common.{sym, subst, ◌∙◌}
use Rattle.cut_wants.specs.Best.{IsBestWithin}
use Rattle.cut_bars.specs.Counts.{worth_of_counts}
use Rattle.cut_bars.proofs.BarCounts.{counts_best, bar_wants}
use Rattle.cut_bars.proofs.RaisedCells.{written}
use Rattle.cut_bars.proofs.bar.best_counts.Goals as goal

pub returns-clause-best : goal.returns-clause-best
returns-clause-best c =
    subst (λ ns. IsBestWithin c.args.wants.now c.args.kerf c.args.size 1 (worth_of_counts c.args.wants.now ns)) (sym (written _ c.fill_counts.new.counts _ (c.fill_counts.auto.counts ∙ c.deref_mut.ensures.len)))
    (counts_best c.args.wants.now c.args.kerf c.args.size c.fill_counts.new.counts c.requires.own (bar_wants c.args.wants.now c.in_ok-fill_counts.ensures.some c.requires.bar) c.in_ok-fill_counts.ensures.best)
