use Rattle.std.proofs.Common.{sym, subst}
use Rattle.sqlite.specs.Files.{file_state}
use Rattle.sqlite.specs.State.{HasCleanDisk}
use Rattle.shop_tables.specs.Held.{books, HoldsContent, IsSettledAt}
use Rattle.shop_tables.proofs.Reopened.{found_settled}
use Rattle.shop_store.proofs.Adopting.{holds_when}
use Rattle.shop_store.proofs.reopening.reopen_book.Goals as goal

pub returns-in-Ok-adopt : goal.returns-in-Ok-adopt
returns-in-Ok-adopt g c m was =
    let taken : HoldsContent (file_state c.into_connection.result) m = subst (λ h. HoldsContent (file_state h) m) (sym c.into_connection.ensures) was in
    let settled : HasCleanDisk (file_state c.in-Ok-adopt.again.storage.conn) → IsSettledAt (file_state c.in-Ok.conn) m = λ clean.
    record {
      lines = taken.lines;
      totals = taken.totals;
      uses = taken.uses;
      sums = taken.sums;
      trail = taken.trail;
      settled = found_settled c.into_connection.result c.in-Ok.conn c.in_ok-files.files (books m taken.totals taken.uses) c.in_ok-files.ensures.copied c.in-Ok.ensures.opened c.in-Ok.ensures.found taken.holds (c.in-Ok-adopt.ensures.earlier clean);
    } in (
      (
        holds_when (file_state c.in-Ok-adopt.again.storage.conn) m taken.lines taken.totals taken.uses taken.sums taken.trail (λ clean up. c.in-Ok-adopt.ensures.held m (settled clean)),
        λ clean. c.in-Ok-adopt.ensures.last m (settled clean) clean,
      ),
      λ clean. c.in-Ok-adopt.ensures.loaded m (settled clean) clean,
    )
