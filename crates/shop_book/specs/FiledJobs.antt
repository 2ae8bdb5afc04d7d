-- What is filed of jobs: under the demands of the pieces of their plans, and under the name of their part.
use Rattle.std.specs.Prelude.{◌≤◌, ℕ, IsTrue, List}
use Rattle.cut_tree.specs.Tree.{count_of}
use Rattle.shop_records.specs.Elements.{IsIn}
use Rattle.shop_records.specs.declared.records.Job.{Job}
use Rattle.shop_book.specs.Filing.{is_filed_for, is_filed_in}
use Rattle.shop_book.specs.declared.number_index.NumberIndex.{NumberIndex}

-- the number of a job is filed under its part, and under each demand of which its plan has a piece
pub record IsJobFiled (index : NumberIndex) (job : Job) : Type 0 where
  pub part : IsTrue (is_filed_in index job.part job.act)
  pub pieces : (demand : ℕ) → 1 ≤ count_of job.plan.tree demand → IsTrue (is_filed_for index demand job.act)

-- so is that of each of jobs
abbrev pub AreJobsFiled : NumberIndex → List Job → Type 0
AreJobsFiled index jobs = (job : Job) → IsIn job jobs → IsJobFiled index job
