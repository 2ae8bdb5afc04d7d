use Rattle.std.proofs.Common.{Option, Some, sym, subst}
use Rattle.std.specs.Prelude.{OnOk}
use Rattle.std.specs.Option.{option_to_list}
use Rattle.shop_records.specs.declared.records.Job.{Job}
use Rattle.shop_book.specs.FiledJobs.{AreJobsFiled}
use Rattle.shop_book.proofs.number_index.NumberIndex.file_some_job.Goals as goal

pub returns-in-Some-clause-filed : goal.returns-in-Some-clause-filed
returns-in-Some-clause-filed c = subst (λ (job : Option Job). OnOk c.file_job.result (AreJobsFiled c.file_job.new.self (option_to_list job))) (sym c.in-Some.is) c.file_job.ensures.filed
