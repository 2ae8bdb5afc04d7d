use Rattle.std.proofs.Common.{◌≡◌, ℕ, Bool, cond, true, List, inl, sym, subst, ap₂, refl}
use Rattle.sqlite_disk.specs.Events.{Event, replay}
use Rattle.sqlite_wal.specs.Files.{image_at}
use Rattle.sqlite_wal.specs.Recovery.{Image}
use Rattle.shop_book.specs.Ledgers.{bare, content_in}
use Rattle.shop_store.specs.Storing.{IsRemembered}
use Rattle.shop_tables.specs.Adopting.{names_are_free}
use Rattle.shop_opening.proofs.Found.{holds_found, leaves_found, loaded_found, leaves_shown, never_found, some_then}
use Rattle.shop_opening.proofs.stores.open_book.Goals as goal

pub returns-in-Ok-adopt-clause-opened : goal.returns-in-Ok-adopt-clause-opened
returns-in-Ok-adopt-clause-opened g c =
    let conn = c.in-Ok.conn in
    let image = image_at g.S.Start in
    let book = c.in-Ok-adopt.book in
    let made = c.in-Ok-adopt.ensures in
    record {
      holds = λ m shown. (
        (
          holds_found conn book.storage.conn image c.in-Ok.ensures.opened c.in-Ok.ensures.found made.earlier m shown made.held made.renewed made.fresh,
          λ clean. loaded_found conn book.storage.conn image c.in-Ok.ensures.opened c.in-Ok.ensures.found made.earlier m shown (λ n. IsRemembered n book.storage.remembered) (λ n was. made.last n was clean) (λ n was. made.renewed_last n was)
              (λ none. made.fresh_last (subst (λ schema. names_are_free schema ≡ true) (sym none) refl)) clean,
        ),
        λ clean. loaded_found conn book.storage.conn image c.in-Ok.ensures.opened c.in-Ok.ensures.found made.earlier m shown (λ n. content_in book.ledger ≡ bare n)
            (λ n was. made.loaded n was clean) (λ n was. made.renewed_loaded n was clean) (λ none. made.fresh_loaded (subst (λ schema. names_are_free schema ≡ true) (sym none) refl)) clean,
      );
      leaves = λ m shown. leaves_found conn book.storage.conn image c.in-Ok.ensures.opened c.in-Ok.ensures.found made.earlier m shown made.held_after made.renewed_after made.after;
      uncounted = made.failures;
    }

-- ---- the port refused the files

abbrev pair : List ℕ → List ℕ → Image
pair log db = record { log = log; db = db }

abbrev seen : List ℕ → List ℕ → Bool → List Event → List ℕ
seen log db is_log history = (replay (cond is_log log db) history).seen

pub returns-in-Err-clause-port : goal.returns-in-Err-clause-port
returns-in-Err-clause-port g c =
    let log = g.S.Start.log in
    let db = g.S.Start.db in
    some_then c.in-Err.left c.in-Err.ensures.cause (λ rest h. (
      h.0,
      ap₂ pair (ap₂ (seen log db) h.1.0 h.1.1) (ap₂ (seen log db) h.2.0 h.2.1),
      h.3,
    ))

-- ---- the tables weren't taken over

pub returns-in-Err-adopt-clause-tables : goal.returns-in-Err-adopt-clause-tables
returns-in-Err-adopt-clause-tables g c =
    let conn = c.in-Ok.conn in
    let image = image_at g.S.Start in
    let last = c.in-Err-adopt.last in
    let left = c.in-Err-adopt.ensures in
    record {
      leaves = λ m shown. leaves_shown conn last image c.in-Ok.ensures.opened c.in-Ok.ensures.found left.earlier m shown (λ file. inl refl) left.held_after left.renewed_crash left.crash;
      version = λ is clean m shown. never_found conn last image c.in-Ok.ensures.opened c.in-Ok.ensures.found left.earlier m shown clean (left.neither is clean) (left.not_earlier is clean) (left.foreign is);
    }
