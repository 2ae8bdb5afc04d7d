use Rattle.cut_bars.proofs.level.level_of.Goals as goal

pub table_of-requires-clause-low : goal.table_of-requires-clause-low
table_of-requires-clause-low g c = rw c.deref.ensures.value c.requires.low

pub table_of-requires-clause-below : goal.table_of-requires-clause-below
table_of-requires-clause-below g c = rw c.deref.ensures.value c.requires.below
