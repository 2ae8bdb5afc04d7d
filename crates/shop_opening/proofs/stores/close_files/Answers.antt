use Rattle.std.proofs.Common.{subst}
use Rattle.sqlite.specs.Files.{FailsToClose}
use Rattle.sqlite_store.specs.FileStore.{view}
use Rattle.sqlite_trees.specs.View.{IsClean}
use Rattle.shop_opening.specs.Openings.{IsMerged}
use Rattle.shop_opening.proofs.InMemory.{err_then, ok_then}
use Rattle.shop_opening.proofs.Merged.{merged}
use Rattle.shop_opening.proofs.stores.close_files.Goals as goal

pub returns-clause-ok : goal.returns-clause-ok
returns-clause-ok g c =
    ok_then c.close_files.result c.close_files.ensures.copied (λ files copied clean. subst (λ conn. IsMerged conn files) c.into_connection-conn.ensures (merged c.into_connection-conn.result files (copied clean)))

pub returns-clause-err : goal.returns-clause-err
returns-clause-err g c =
    err_then c.close_files.result c.close_files.ensures.err (λ e why clean. subst (λ conn. FailsToClose conn e.1 e.0) c.into_connection-conn.ensures (why.1 clean))
