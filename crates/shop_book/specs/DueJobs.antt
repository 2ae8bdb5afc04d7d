-- The day on which a job is due, from rows.
use Rattle.std.specs.Prelude.{ℕ, List, map}
use Rattle.std.specs.Ordering.{nat_cmp}
use Rattle.cut_measure.specs.Codes.{code_cmp}
use Rattle.cut_tree.specs.declared.leaves.Leaf.{Leaf}
use Rattle.cut_tree.specs.Leaves.{leaves_of}
use Rattle.shop_records.specs.declared.records.Demand.{Demand}
use Rattle.shop_records.specs.declared.records.Job.{Job}
use Rattle.shop_records.specs.declared.notes.OrderNote.{OrderNote}
use Rattle.shop_records.specs.Content.{of_found}
use Rattle.shop_records.specs.Lists.{earliest_day}
use Rattle.shop_rows.specs.Keys.{demand_key, note_key}
use Rattle.shop_rows.specs.Rows.{row_at}

-- the day on which an order is due
abbrev pub due_order : List OrderNote → (order : List ℕ) → ℕ
due_order notes order = of_found (λ (row : OrderNote). row.due) (row_at note_key code_cmp order notes)

-- the same of the order of the demand of a number, if there is one
abbrev pub due_number : List Demand → List OrderNote → (number : ℕ) → ℕ
due_number demands notes number = of_found (λ (demand : Demand). due_order notes demand.order) (row_at demand_key nat_cmp number demands)

-- the least of those of the leaves of a job's plan
abbrev pub due_leaves : List Demand → List OrderNote → Job → ℕ
due_leaves demands notes job =
    earliest_day (map (λ (leaf : Leaf). due_number demands notes leaf.demand) (leaves_of job.plan.tree job.plan.w job.plan.h job.plan.kerf))
