use Rattle.std.proofs.Common.{refl, ap, ◌∙◌}
use Rattle.shop_records.specs.Lists.{waiting_jobs}
use Rattle.std.specs.Prelude.{map, take}
use Rattle.shop_records.specs.declared.records.Job.{Job}
use Rattle.shop_store.proofs.LedgerBooks.{counted}
use Rattle.shop_store.proofs.ledger_book.LedgerBookBook.first_jobs.Goals as goal

pub returns-clause-rows : goal.returns-clause-rows
returns-clause-rows g c clean m was = c.in_ok-numbers.ensures ∙ ap (λ x. take c.args.most (map (λ (job : Job). job.act) (waiting_jobs x c.args.after))) (was.1 clean)

pub returns-clause-keeps : goal.returns-clause-keeps
returns-clause-keeps g c = counted g.S.Storage _ _ _ refl refl refl
