use Rattle.std.proofs.Common.{◌≡◌, map, take}
use Rattle.shop_planning.specs.Answers.{reported_price}
use Rattle.shop_planning.proofs.response.reported_prices.Given as goal

abbrev pub invariant-loop-price : goal.invariant-loop-price
invariant-loop-price l = l.reported ≡ map reported_price (take l.price-index l.prices)
