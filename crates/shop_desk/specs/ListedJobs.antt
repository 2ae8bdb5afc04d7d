-- How jobs that were found are listed.
use Rattle.std.specs.Prelude.{ℕ, Option, option_and_then, option_map}
use Rattle.shop_records.specs.declared.records.Job.{Job}
use Rattle.shop_records.specs.declared.records.JobRow.{JobRow}
use Rattle.shop_records.specs.declared.records.Part.{Part}
use Rattle.shop_records.specs.Content.{Content, job_at, part_at}
use Rattle.shop_answers.specs.Listing.{row_of}
use Rattle.shop_book.specs.declared.books.JobHead.{JobHead}
use Rattle.shop_book.specs.FoundJobs.{head_of}

-- both, where both are there
abbrev pub both : Option Job → Option Part → Option (Job × Part)
both job part = option_and_then (λ (j : Job). option_map (λ (p : Part). (j, p)) part) job

-- the job of a number as lists report it, with its part
abbrev pub head_with_part : Content → ℕ → Option (JobHead × Part)
head_with_part m number =
    option_and_then (λ (head : JobHead). option_map (λ (part : Part). (head, part)) (part_at m head.part)) (option_map (head_of m) (job_at m number))

-- the row of a job that was found with its part
abbrev pub reported_row : Option (JobHead × Part) → Option JobRow
reported_row found = option_map (λ (f : JobHead × Part). row_of f.0.begun f.0.due f.0.act f.0.part f.0.cuts f.1) found
