use Rattle.shop_tables.proofs.Lays.{meta_added, materials_added, parts_added, jobs_added, orders_added, demands_added, kept_added, imports_added, totals_added, totals2_added, journal_added, uses_added, notes_added, begun_added, halts_added, numbers_put}
use Rattle.shop_tables.proofs.laying.statements_make_tables.Goals as goal

pub returns : goal.returns
returns g c = record {
  meta = meta_added g.S.Store;
  materials = materials_added g.S.Store;
  parts = parts_added g.S.Store;
  jobs = jobs_added g.S.Store;
  orders = orders_added g.S.Store;
  demands = demands_added g.S.Store;
  kept = kept_added g.S.Store;
  imports = imports_added g.S.Store;
  totals = totals_added g.S.Store;
  totals2 = totals2_added g.S.Store;
  journal = journal_added g.S.Store;
  uses = uses_added g.S.Store;
  notes = notes_added g.S.Store;
  begun = begun_added g.S.Store;
  halts = halts_added g.S.Store;
  numbers = numbers_put g.S.Store;
}
