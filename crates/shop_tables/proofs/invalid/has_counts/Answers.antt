use Rattle.std.proofs.Common.{true≢false, sym, ◌∙◌}
use Rattle.shop_tables.proofs.invalid.has_counts.Goals as goal

pub returns-then-not-has_count : goal.returns-then-not-has_count
returns-then-not-has_count c has =
    let it = has c.loop-at.at c.loop-at.invariant c.loop-at-test.true in
    absurd (true≢false (sym (c.has_count.ensures it.0 it.1) ∙ c.if-not-has_count.true))
