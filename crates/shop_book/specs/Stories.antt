-- The numbers of the demands that a story is about: those of its order.
use Rattle.std.specs.Prelude.{ℕ, Bool, false, List, [], filter, map as map_list, nat_le, option_map, unwrap_or}
use Rattle.std.specs.FinMap.{values}
use Rattle.std.specs.List.{list_any}
use Rattle.std.specs.Ordering.{nat_cmp}
use Rattle.cut_measure.specs.Names.{Name}
use Rattle.cut_tree.specs.Tree.{count_of}
use Rattle.shop_records.specs.Content.{Content}
use Rattle.shop_records.specs.Same.{same_code, same_name}
use Rattle.shop_records.specs.declared.journal.Subject.{Subject}
use Rattle.shop_records.specs.declared.journal.Subject.TheVariants as subject
use Rattle.shop_records.specs.declared.records.Demand.{Demand}
use Rattle.shop_records.specs.declared.records.Job.{Job}
use Rattle.shop_rows.specs.Keys.{job_key}
use Rattle.shop_rows.specs.Rows.{row_at}

abbrev pub is_of_order : List ℕ → Demand → Bool
is_of_order order demand = same_code demand.order order

-- the numbers of the demands of an order
abbrev pub numbers_of : List ℕ → List Demand → List ℕ
numbers_of order demands = map_list (λ (demand : Demand). demand.number) (filter (is_of_order order) demands)

abbrev pub numbers_about : Content → Subject → List ℕ
numbers_about content (subject.Order code) = numbers_of code (values content.demands)
numbers_about content (subject.Job number) = []
numbers_about content (subject.Part name) = []

-- the plan of a job has a piece of one of these demands
abbrev pub has_piece_among : List ℕ → Job → Bool
has_piece_among numbers job = list_any (λ number. nat_le 1 (count_of job.plan.tree number)) numbers

-- the plan of the job of a number has one
abbrev pub has_piece_in : List Job → (number : ℕ) → List ℕ → Bool
has_piece_in jobs number numbers = unwrap_or (option_map (has_piece_among numbers) (row_at job_key nat_cmp number jobs)) false

-- the job of a number is on a part
abbrev pub is_on_in : List Job → (number : ℕ) → Name → Bool
is_on_in jobs number name = unwrap_or (option_map (λ (job : Job). same_name name job.part) (row_at job_key nat_cmp number jobs)) false
