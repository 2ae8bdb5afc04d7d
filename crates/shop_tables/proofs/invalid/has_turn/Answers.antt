use Rattle.std.proofs.Common.{arith}
use Rattle.shop_statements.specs.Rows.{turn_number}
use Rattle.shop_tables.proofs.InvalidRows.{turn_small}
use Rattle.shop_tables.proofs.invalid.has_turn.Goals as goal

pub returns : goal.returns
returns c x has = c.has_number.ensures.known (turn_number x) (omega arith) (turn_small x) has
