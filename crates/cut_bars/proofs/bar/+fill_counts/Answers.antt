use Rattle.std.proofs.Common.{◌/◌, ◌++◌, length, subst, arith}
use Rattle.cut_bars.specs.Counts.{AreBestCounts, HaveLength, HasBoundedWorthAndLeft}
use Rattle.cut_bars.proofs.DividedSpans.{wants_one, taken, dropped, both_parts, lengths_append}
use Rattle.cut_bars.proofs.bar.+fill_counts.Goals as goal

pub returns-then-wants-eq1-clause-best : goal.returns-then-wants-eq1-clause-best
returns-then-wants-eq1-clause-best t c =
    (wants_one c.args.kerf c.args.whole c.args.wants.now c.index-wants-0.result c.args.counts.now c.count_one.result (omega arith) c.requires.len c.index-wants-0.is c.count_one.ensures.some c.count_one.ensures.best).1

pub span_for_first-requires-clause-modest_first : goal.span_for_first-requires-clause-modest_first
span_for_first-requires-clause-modest_first t c = rw c.split_at.ensures.front (taken HasBoundedWorthAndLeft (length c.args.wants.now / 2) c.args.wants.now c.requires.modest)

pub span_for_first-requires-clause-modest_others : goal.span_for_first-requires-clause-modest_others
span_for_first-requires-clause-modest_others t c = rw c.split_at.ensures.back (dropped HasBoundedWorthAndLeft (length c.args.wants.now / 2) c.args.wants.now c.requires.modest)

pub fill_counts-requires : goal.fill_counts-requires
fill_counts-requires t c = (
  omega (arith, c.split_at.ensures.front_len),
  (
    omega (arith, c.split_at.ensures.front_len, c.split_at_mut-first_counts.ensures.front_len),
    (rw c.split_at.ensures.front (taken HasBoundedWorthAndLeft (length c.args.wants.now / 2) c.args.wants.now c.requires.modest), (omega (arith, c.in_ok-at.ensures.within), omega arith)),
  ),
)

pub fill_counts-requires-2 : goal.fill_counts-requires-2
fill_counts-requires-2 t c = (
  omega (arith, c.split_at.ensures.back_len),
  (
    omega (arith, c.split_at.ensures.back_len, c.split_at_mut-first_counts.ensures.back_len, c.requires.len),
    (rw c.split_at.ensures.back (dropped HasBoundedWorthAndLeft (length c.args.wants.now / 2) c.args.wants.now c.requires.modest), (omega arith, omega arith)),
  ),
)

pub returns-clause-some : goal.returns-clause-some
returns-clause-some t c =
    subst (λ xs. HaveLength xs) (both_parts (length c.args.wants.now / 2) c.args.wants.now c.split_at.result.0.now c.split_at.result.1.now c.split_at.ensures.front c.split_at.ensures.back)
    (lengths_append c.split_at.result.0.now c.split_at.result.1.now c.in_ok-fill_counts.ensures.some c.in_ok-fill_counts-2.ensures.some)

pub returns-clause-best : goal.returns-clause-best
returns-clause-best t c =
    subst (λ xs. AreBestCounts c.args.kerf xs c.args.whole (c.fill_counts.new.counts ++ c.fill_counts-2.new.counts))
    (both_parts (length c.args.wants.now / 2) c.args.wants.now c.split_at.result.0.now c.split_at.result.1.now c.split_at.ensures.front c.split_at.ensures.back)
    (c.in_ok-at.ensures.best c.fill_counts.new.counts c.fill_counts-2.new.counts c.in_ok-fill_counts.ensures.best c.in_ok-fill_counts-2.ensures.best)
