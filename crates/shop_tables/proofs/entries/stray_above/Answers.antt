use Rattle.std.proofs.Common.{sym, ◌∙◌}
use Rattle.shop_tables.proofs.entries.stray_above.Goals as goal

pub returns-clause-none : goal.returns-clause-none
returns-clause-none g c clean b was all = c.stray_row.ensures.none (c.deref.ensures.value ∙ (c.in_ok-rows.ensures.rows clean b was).0 all)

pub returns-clause-all : goal.returns-clause-all
returns-clause-all g c clean b was none = (c.in_ok-rows.ensures.rows clean b was).1 (sym c.deref.ensures.value ∙ c.stray_row.ensures.empty none)
