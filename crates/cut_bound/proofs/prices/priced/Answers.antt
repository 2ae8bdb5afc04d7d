use Rattle.std.proofs.Common.{length, inl, inr, arith}
use Rattle.std.proofs.lemmas.Bool.{cases_lt}
use Rattle.cut_bound.specs.Prices.{step_of}
use Rattle.cut_bound.proofs.PricedWants.{priced_end}
use Rattle.cut_bound.proofs.prices.priced.Goals as goal

pub returns : goal.returns
returns c =
    priced_end c.args.kind c.args.kerf (step_of c.args.step) c.args.wants.now c.loop-i.priced.items c.args.numbers.now c.loop-i.i
    (elim (cases_lt c.loop-i.i (length c.args.wants.now)) [
      | inl inside ↦ inr (omega arith)
      | inr all ↦ inl all
    ]) c.loop-i.invariant
