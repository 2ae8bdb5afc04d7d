use Rattle.std.proofs.Common.{arith}
use Rattle.shop_records.specs.declared.records.Column.TheVariants.{Received, Stock, Rack, Pieces, Kerf, Scrap, Returned}
use Rattle.shop_rows.proofs.sums.totals_in.Goals as goal

pub returns-in_err-narrow-clause-sure : goal.returns-in_err-narrow-clause-sure
returns-in_err-narrow-clause-sure c = λ few. absurd (omega (arith, few Received, c.sums_of-sums.ensures.sums Received, c.in_err-narrow.ensures.wide))

pub returns-in_err-narrow-2-clause-sure : goal.returns-in_err-narrow-2-clause-sure
returns-in_err-narrow-2-clause-sure c = λ few. absurd (omega (arith, few Stock, c.sums_of-sums.ensures.sums Stock, c.in_err-narrow-2.ensures.wide))

pub returns-in_err-narrow-3-clause-sure : goal.returns-in_err-narrow-3-clause-sure
returns-in_err-narrow-3-clause-sure c = λ few. absurd (omega (arith, few Rack, c.sums_of-sums.ensures.sums Rack, c.in_err-narrow-3.ensures.wide))

pub returns-in_err-narrow-4-clause-sure : goal.returns-in_err-narrow-4-clause-sure
returns-in_err-narrow-4-clause-sure c = λ few. absurd (omega (arith, few Pieces, c.sums_of-sums.ensures.sums Pieces, c.in_err-narrow-4.ensures.wide))

pub returns-in_err-narrow-5-clause-sure : goal.returns-in_err-narrow-5-clause-sure
returns-in_err-narrow-5-clause-sure c = λ few. absurd (omega (arith, few Kerf, c.sums_of-sums.ensures.sums Kerf, c.in_err-narrow-5.ensures.wide))

pub returns-in_err-narrow-6-clause-sure : goal.returns-in_err-narrow-6-clause-sure
returns-in_err-narrow-6-clause-sure c = λ few. absurd (omega (arith, few Scrap, c.sums_of-sums.ensures.sums Scrap, c.in_err-narrow-6.ensures.wide))

pub returns-in_err-narrow-7-clause-sure : goal.returns-in_err-narrow-7-clause-sure
returns-in_err-narrow-7-clause-sure c = λ few. absurd (omega (arith, few Returned, c.sums_of-sums.ensures.sums Returned, c.in_err-narrow-7.ensures.wide))
