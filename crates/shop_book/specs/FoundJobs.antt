-- Jobs as they are found in a content: with the rows on which they stand, and as lists show them.
use Rattle.std.specs.Prelude.{◌≡◌, ℕ}
use Rattle.cut_tree.specs.Tree.{cut_count}
use Rattle.shop_records.specs.declared.records.Job.{Job}
use Rattle.shop_records.specs.Content.{Content, job_at, material_of, part_of_job}
use Rattle.shop_records.specs.Lists.{begun_by, due_for_job}
use Rattle.shop_book.specs.declared.books.FoundJob.{FoundJob}
use Rattle.shop_book.specs.declared.books.JobHead.{JobHead}

-- the job of a number, its part and that one's material in a content, as far as they are there
pub record IsFoundJob (m : Content) (number : ℕ) (found : FoundJob) : Type 0 where
  pub of_job : found.job ≡ job_at m number
  pub of_part : found.part ≡ part_of_job m found.job
  pub of_material : found.material ≡ material_of m found.part

-- how lists show a job
abbrev pub head_of : Content → Job → JobHead
head_of content job =
    record { act = job.act; part = job.part; cuts = cut_count job.plan.tree; begun = begun_by content job.act; due = due_for_job content job }
