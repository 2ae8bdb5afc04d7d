-- A limit of stages that the words have is one that a search takes.
use Rattle.std.proofs.Common.{ℕ, Option, Some, None, refl}
use Rattle.std.specs.Prelude.{nat_le}
use Rattle.std.proofs.lemmas.Bool.{le-leb}
use Rattle.cut_order.specs.declared.instance.TheConstants as orders
use Rattle.cut_order.specs.Stocks.{IsStageLimit}
use Rattle.shop_words.specs.CommandLine.{HasStages}

pub stage_limit : (stages : Option ℕ) → HasStages stages → IsStageLimit stages
stage_limit None has = refl
stage_limit (Some n) has = rw (le-leb orders.MIN_STAGES n has.0, le-leb n orders.MAX_STAGES has.1) refl
