use Rattle.std.proofs.Common.{arith}
use Rattle.shop_statements.specs.Rows.{kind_number}
use Rattle.shop_tables.proofs.InvalidRows.{kind_small}
use Rattle.shop_tables.proofs.invalid.has_kind.Goals as goal

pub returns : goal.returns
returns c x has = c.has_number.ensures.known (kind_number x) (omega arith) (kind_small x) has
