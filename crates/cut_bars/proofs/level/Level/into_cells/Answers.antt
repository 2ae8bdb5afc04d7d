use Rattle.cut_bars.proofs.level.Level.into_cells.Goals as goal

pub table_of-requires-clause-low : goal.table_of-requires-clause-low
table_of-requires-clause-low g c = rw c.deref.ensures.value (rw c.in-Listed.is at c.requires.small).low

pub table_of-requires-clause-below : goal.table_of-requires-clause-below
table_of-requires-clause-below g c = rw c.deref.ensures.value (rw c.in-Listed.is at c.requires.small).below
