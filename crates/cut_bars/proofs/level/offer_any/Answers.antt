use Rattle.cut_bars.proofs.level.offer_any.Goals as goal

pub offer_freely-requires-clause-below : goal.offer_freely-requires-clause-below
offer_freely-requires-clause-below g c = rw c.in-Tabled.is at c.requires.below

pub offer_batches-requires-clause-below : goal.offer_batches-requires-clause-below
offer_batches-requires-clause-below g c = rw c.in-Listed.is at c.requires.below
