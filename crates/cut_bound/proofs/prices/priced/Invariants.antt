use Rattle.std.proofs.Common.{◌≡◌, ◌++◌, drop}
use Rattle.cut_bound.specs.Prices as prices
use Rattle.cut_bound.proofs.prices.priced.Given as goal

abbrev pub invariant-loop-i : goal.invariant-loop-i
invariant-loop-i l = l.priced.items ++ prices.priced l.kind l.kerf (prices.step_of l.step) (drop l.i l.wants) (drop l.i l.numbers) ≡ prices.priced l.kind l.kerf (prices.step_of l.step) l.wants l.numbers
