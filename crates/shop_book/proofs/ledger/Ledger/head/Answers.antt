use Rattle.std.proofs.Common.{◌≡◌, ℕ, map, ap, ◌∙◌}
use Rattle.std.specs.Prelude.{Some}
use Rattle.std.specs.Cmp.{nat_cmp_total}
use Rattle.std.specs.FinMap.{nat_cmp-IsAntisymmetric}
use Rattle.std.specs.Ordering.{nat_cmp}
use Rattle.cut_measure.specs.Codes.{code_cmp}
use Rattle.cut_tree.specs.declared.leaves.Leaf.{Leaf}
use Rattle.cut_tree.specs.Leaves.{leaves_of}
use Rattle.shop_records.specs.declared.records.Demand.{Demand}
use Rattle.shop_records.specs.declared.records.JobBegin.{JobBegin}
use Rattle.shop_records.specs.declared.notes.OrderNote.{OrderNote}
use Rattle.shop_records.specs.Content.{demand_at, of_found}
use Rattle.shop_records.specs.Lists.{begun_by, due_for_job, earliest_day}
use Rattle.shop_rows.specs.Keys.{begin_key, demand_key, note_key}
use Rattle.shop_rows.specs.Rows.{row_at}
use Rattle.shop_rows.proofs.Named.{row_key}
use Rattle.shop_book.specs.DueJobs.{due_leaves}
use Rattle.shop_book.specs.Ledgers.{content_in}
use Rattle.shop_book.proofs.DueJobs.{leaves_due}
use Rattle.shop_book.proofs.Held.{get-rows}
use Rattle.shop_book.proofs.ledger.Ledger.head.Goals as goal

pub returns : goal.returns
returns c =
    let self = c.args.self.now in
    let job = c.args.job.now in
    let content = content_in self in
    let own : (n : ℕ) (d : Demand) → demand_at content n ≡ Some d → d.number ≡ n = λ n d is.
    row_key demand_key nat_cmp nat_cmp_total nat_cmp-IsAntisymmetric n self.demands.items d (get-rows demand_key nat_cmp self.demands.items n self.kept_up.demands_rise ∙ is) in
    let begun : c.begun_in.result ≡ begun_by content job.act =
    c.begun_in.ensures
    ∙ ap (of_found (λ (row : JobBegin). row.terminal)) (ap (row_at begin_key nat_cmp job.act) c.deref-3.ensures.value ∙ get-rows begin_key nat_cmp self.begun.items job.act self.kept_up.begun_rise) in
    let due : c.in_ok-due.due ≡ due_for_job content job =
    c.in_ok-due.ensures ∙ (λ i. due_leaves (c.deref.ensures.value i) (c.deref-2.ensures.value i) job)
    ∙ (λ i. earliest_day (map (λ (leaf : Leaf). of_found (λ (d : Demand). of_found (λ (row : OrderNote). row.due) (get-rows note_key code_cmp self.notes.items d.order self.kept_up.notes_rise i)) (get-rows demand_key nat_cmp self.demands.items leaf.demand self.kept_up.demands_rise i)) (leaves_of job.plan.tree job.plan.w job.plan.h job.plan.kerf)))
    ∙ leaves_due content own job in
    λ i. record { act = job.act; part = job.part; cuts = c.cuts.ensures.count i; begun = begun i; due = due i }
