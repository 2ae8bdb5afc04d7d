use Rattle.std.proofs.Common.{arith}
use Rattle.shop_rows.proofs.part_rows.PartRows.reserve.Goals as goal

pub returns-clause-spare : goal.returns-clause-spare
returns-clause-spare c = record {
  rows = c.in_ok-reserve_rows-2.ensures.ok;
  origins = c.in_ok-reserve_rows.ensures.ok;
  numbers = omega (arith, c.saturating_add.ensures, c.len.ensures, c.reserve_rows.ensures.len, c.if-saturating_add-gt-MAX_ORIGINS.false);
}
