use Rattle.std.proofs.Common.{refl, ap, ◌∙◌}
use Rattle.shop_records.specs.Content.{job_at}
use Rattle.std.specs.Prelude.{option_map}
use Rattle.shop_book.specs.FoundJobs.{head_of}
use Rattle.shop_store.proofs.LedgerBooks.{counted}
use Rattle.shop_store.proofs.ledger_book.LedgerBookBook.job_head.Goals as goal

pub returns-clause-row : goal.returns-clause-row
returns-clause-row g c clean m was = c.in_ok-head.ensures ∙ ap (λ x. option_map (head_of x) (job_at x c.args.number)) (was.1 clean)

pub returns-clause-keeps : goal.returns-clause-keeps
returns-clause-keeps g c = counted g.S.Storage _ _ _ refl refl refl
