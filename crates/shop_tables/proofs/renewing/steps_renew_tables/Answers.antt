use Rattle.shop_tables.proofs.Lays.{totals2_added}
use Rattle.shop_tables.proofs.Renewed.{totals_cleared, totals_copied, version_set}
use Rattle.shop_tables.proofs.Extended.{last_version_set}
use Rattle.shop_tables.proofs.renewing.steps_renew_tables.Goals as goal

pub returns : goal.returns
returns g c = record {
  totals2 = totals2_added g.S.Store;
  copy = totals_copied g.S.Store;
  clear = totals_cleared g.S.Store;
  version = version_set g.S.Store;
  last = last_version_set g.S.Store;
}
