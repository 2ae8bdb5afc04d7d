use Rattle.cut_sheets.proofs.UnitBounds.{units_hold}
use Rattle.cut_sheets.proofs.bound.units.Goals as goal

pub returns-clause-bound : goal.returns-clause-bound
returns-clause-bound c = λ k w h trees each meets. rw (c.div_ceil.ensures, c.total_left-total.ensures) (units_hold c.args.wants.now k w h c.args.best trees c.requires.own c.requires.best each meets)
