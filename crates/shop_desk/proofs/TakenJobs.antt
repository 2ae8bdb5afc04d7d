-- Rows of jobs that are listed in turn.
use Rattle.std.proofs.Common.{◌≡◌, ℕ, ◌+◌, ◌<◌, List, [], ◌∷◌, ◌++◌, length, take, get_or, Option, Some, None, refl, sym, ap, ◌∙◌}
use Rattle.std.specs.Prelude.{filter_map, option_and_then, option_map}
use Rattle.std.proofs.lemmas.List.{take_more}
use Rattle.std.proofs.lemmas.List.Elements.{filter_map-append}
use Rattle.shop_records.specs.declared.records.Job.{Job}
use Rattle.shop_records.specs.declared.records.JobRow.{JobRow}
use Rattle.shop_records.specs.declared.records.Part.{Part}
use Rattle.shop_records.specs.Content.{Content, job_at, part_at, part_of_job}
use Rattle.shop_book.specs.declared.books.FoundJob.{FoundJob}
use Rattle.shop_book.specs.declared.books.JobHead.{JobHead}
use Rattle.shop_book.specs.FoundJobs.{IsFoundJob, head_of}
use Rattle.shop_answers.specs.Listing.{job_row, job_row_at, job_with_part}
use Rattle.shop_desk.specs.ListedJobs.{both, head_with_part, reported_row}

-- the job and the part that were found together
pub with_part : (content : Content) (number : ℕ) (found : FoundJob) → IsFoundJob content number found → both found.job found.part ≡ job_with_part content number
with_part content number found is = ap (both found.job) is.of_part ∙ by found.job ∙ ap (option_and_then (λ (job : Job). option_map (λ (part : Part). (job, part)) (part_at content job.part))) is.of_job
  where
    by : (o : Option Job) → both o (part_of_job content o) ≡ option_and_then (λ (job : Job). option_map (λ (part : Part). (job, part)) (part_at content job.part)) o
    by None = refl
    by (Some job) = refl

-- what is reported about a job that lists report is its row
same_row : (content : Content) (number : ℕ) → reported_row (head_with_part content number) ≡ job_row_at content number
same_row content number = of_job (job_at content number)
  where
    of_part : (job : Job) (o : Option Part) → reported_row (option_map (λ (part : Part). (head_of content job, part)) o)
        ≡ option_map (λ (f : Job × Part). job_row content f.0 f.1) (option_map (λ (part : Part). (job, part)) o)
    of_part job None = refl
    of_part job (Some part) = refl

    of_job : (o : Option Job) → reported_row (option_and_then (λ (head : JobHead). option_map (λ (part : Part). (head, part)) (part_at content head.part)) (option_map (head_of content) o))
        ≡ option_map (λ (f : Job × Part). job_row content f.0 f.1) (option_and_then (λ (job : Job). option_map (λ (part : Part). (job, part)) (part_at content job.part)) o)
    of_job None = refl
    of_job (Some job) = of_part job (part_at content job.part)

-- one more is listed, where it is there with its part
pub row_more : (content : Content) (numbers : List ℕ) (i : ℕ) (rows : List JobRow) (found : Option (JobHead × Part)) → i < length numbers
    → rows ≡ filter_map (job_row_at content) (take i numbers) → found ≡ head_with_part content (get_or numbers i 0)
    → rows ++ filter_map reported_row (found ∷ []) ≡ filter_map (job_row_at content) (take (i + 1) numbers)
row_more content numbers i rows found lt before at =
    let n = get_or numbers i 0 in
    ap (λ rows. rows ++ filter_map reported_row (found ∷ [])) before
    ∙ ap (λ f. filter_map (job_row_at content) (take i numbers) ++ filter_map reported_row (f ∷ [])) at
    ∙ ap (λ o. filter_map (job_row_at content) (take i numbers) ++ filter_map (λ (row : Option JobRow). row) (o ∷ [])) (same_row content n)
    ∙ sym (filter_map-append (job_row_at content) (take i numbers) (n ∷ []))
    ∙ ap (filter_map (job_row_at content)) (sym (take_more numbers i 0 lt))
