use Rattle.std.proofs.Common.{ℕ, take}
use Rattle.std.specs.Prelude.{IsTrue}
use Rattle.shop_records.specs.Elements.{IsIn}
use Rattle.shop_book.specs.Filing.{is_filed_for}
use Rattle.shop_book.proofs.number_index.NumberIndex.jobs_for.Given as goal

abbrev pub invariant-loop-demand : goal.invariant-loop-demand
invariant-loop-demand l = (demand job : ℕ) → IsIn demand (take l.demand-index l.demands) → IsTrue (is_filed_for l.self demand job) → IsIn job l.jobs
