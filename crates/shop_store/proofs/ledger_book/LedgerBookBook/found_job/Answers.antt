use Rattle.std.proofs.Common.{refl, subst}
use Rattle.shop_book.specs.FoundJobs.{IsFoundJob}
use Rattle.shop_store.proofs.LedgerBooks.{counted}
use Rattle.shop_store.proofs.ledger_book.LedgerBookBook.found_job.Goals as goal

pub returns-clause-rows : goal.returns-clause-rows
returns-clause-rows g c clean m was =
    let found = subst (λ x. IsFoundJob x c.args.number c.in_ok-found.found) (was.1 clean) c.in_ok-found.ensures in
    record { of_job = found.of_job; of_part = found.of_part; of_material = found.of_material }

pub returns-clause-keeps : goal.returns-clause-keeps
returns-clause-keeps g c = counted g.S.Storage _ _ _ refl refl refl
