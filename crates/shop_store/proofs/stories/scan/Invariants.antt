use Rattle.std.proofs.Common.{◌≡◌, ◌≤◌, ◌++◌, length, take}
use Rattle.shop_records.specs.Content.{Content}
use Rattle.shop_records.specs.Lists.{entries_about}
use Rattle.shop_book.specs.Ledgers.{bare, content_in}
use Rattle.shop_book.specs.Storages.{IsRead}
use Rattle.shop_store.proofs.stories.scan.Given as goal

abbrev pub invariant-steps : goal.invariant-steps
invariant-steps g l =
    record {
      leaves : IsRead g.S.Storage.has_clean_disk g.S.Storage.holds g.S.Storage.may_leave l.fn.storage l.storage;
      few : length l.rows ≤ l.fn.most;
      found : g.S.Storage.has_clean_disk l.storage → (m : Content) → g.S.Storage.holds l.fn.storage m → content_in l.fn.ledger ≡ bare m
          → take l.fn.most (entries_about m l.fn.about l.fn.after) ≡ take l.fn.most (l.rows ++ entries_about m l.fn.about l.at);
    }
