use Rattle.std.proofs.Common.{◌≡◌, true, refl, sym, subst}
use Rattle.sqlite.specs.Files.{file_state, image_of}
use Rattle.sqlite.specs.Start.{FindsIn}
use Rattle.sqlite.specs.State.{HasCleanDisk}
use Rattle.shop_book.specs.Ledgers.{bare, content_in}
use Rattle.shop_store.specs.Storing.{IsRemembered}
use Rattle.shop_tables.specs.Adopting.{names_are_free}
use Rattle.shop_opening.proofs.Found.{holds_found, leaves_found, loaded_found}
use Rattle.shop_opening.proofs.apart.open_over.Goals as goal

pub returns-in-Ok-adopt : goal.returns-in-Ok-adopt
returns-in-Ok-adopt g c =
    let conn = c.in-Ok.conn in
    let image = image_of g.D.Disk c.args.files in
    let book = c.in-Ok-adopt.book in
    let made = c.in-Ok-adopt.ensures in
    let found : HasCleanDisk (file_state conn) → FindsIn image (file_state conn) = λ clean. let f = c.in-Ok.ensures.found clean in record { holds = f.holds; reads = f.reads } in
    record {
      holds = λ m shown. (
        (
          holds_found conn book.storage.conn image c.in-Ok.ensures.opened found made.earlier m shown made.held made.renewed made.fresh,
          λ clean. loaded_found conn book.storage.conn image c.in-Ok.ensures.opened found made.earlier m shown (λ n. IsRemembered n book.storage.remembered) (λ n was. made.last n was clean) (λ n was. made.renewed_last n was)
              (λ none. made.fresh_last (subst (λ schema. names_are_free schema ≡ true) (sym none) refl)) clean,
        ),
        λ clean. loaded_found conn book.storage.conn image c.in-Ok.ensures.opened found made.earlier m shown (λ n. content_in book.ledger ≡ bare n)
            (λ n was. made.loaded n was clean) (λ n was. made.renewed_loaded n was clean) (λ none. made.fresh_loaded (subst (λ schema. names_are_free schema ≡ true) (sym none) refl)) clean,
      );
      leaves = λ m shown. leaves_found conn book.storage.conn image c.in-Ok.ensures.opened found made.earlier m shown made.held_after made.renewed_after made.after;
      uncounted = made.failures;
    }
