use Rattle.std.proofs.Common.{rules, ◌≡◌, ℕ, List, sym, subst, ◌∙◌}
use Rattle.std.specs.Ordering.{nat_cmp}
use Rattle.shop_records.specs.Lists.{is_open}
use Rattle.shop_records.specs.declared.records.Part.{Part}
use Rattle.shop_records.specs.declared.records.Job.{Job}
use Rattle.shop_records.specs.declared.records.Demand.{Demand}
use Rattle.shop_records.specs.declared.notes.OrderNote.{OrderNote}
use Rattle.shop_rows.specs.Keys.{job_key, note_key, demand_key}
use Rattle.shop_rows.specs.Open.{waits, ListsNumbers}
use Rattle.shop_rows.specs.PartRows.{parts_in}
use Rattle.shop_rows.specs.declared.sums.Sums.{Sums}
use Rattle.shop_rows.specs.Rows.{rise, row_at}
use Rattle.std.specs.Prelude.{IsTrue}
use Rattle.cut_measure.specs.Codes.{code_cmp}
use Rattle.std.specs.List.{list_all}
use Rattle.shop_book.specs.KeptUp.{known_key}
use Rattle.shop_book.specs.Ledgers.{content_of_rows}
use Rattle.shop_book.specs.Orders.{codes_in, is_placed}
use Rattle.shop_book.specs.FiledJobs.{AreJobsFiled}
use Rattle.shop_book.specs.Pieces.{AreFiled}
use Rattle.shop_book.specs.Tallies.{Tallies}
use Rattle.shop_book.specs.declared.known_orders.KnownOrder.{KnownOrder}
use Rattle.shop_book.proofs.Filed.{filed_stay}
use Rattle.shop_book.proofs.JobsFiled.{jobs_stay}
use Rattle.shop_book.proofs.Tallied.{tally_same}
use Rattle.shop_book.proofs.ledger.Ledger.copy.Goals as goal

pub invariant_of-result : goal.invariant_of-result
invariant_of-result c =
    let old = c.args.self.now in
    let was = old.kept_up in
    let lists = c.in_ok-lists.lists in
    let parts : parts_in c.in_ok-parts.parts ≡ parts_in old.parts = c.in_ok-parts.ensures.parts in
    let totals : c.in_ok-totals.totals.items ≡ old.totals.items = search rules in
    let jobs : c.in_ok-jobs.jobs.items ≡ old.jobs.items = c.in_ok-jobs.ensures in
    let orders : c.in_ok-orders.orders.items ≡ old.orders.items = search rules in
    let notes : c.in_ok-notes.notes.items ≡ old.notes.items = c.in_ok-notes.ensures ∙ c.deref-5.ensures.value in
    let demands : c.in_ok-demands.demands.items ≡ old.demands.items = search rules in
    record {
      kept_up = record {
        materials_rise = search rules;
        known = c.in_ok-parts.ensures.known;
        tally =
            tally_same (parts_in c.in_ok-parts.parts) c.in_ok-totals.totals.items old.lists.parts.items lists.parts.items c.in_ok-lists.ensures.parts c.in_ok-lists.ensures.order
            (subst (λ (rows : List Part). Tallies rows c.in_ok-totals.totals.items old.lists.parts.items) (sym parts)
            (subst (λ (totals : List Sums). Tallies (parts_in old.parts) totals old.lists.parts.items) (sym totals) was.tally));
        jobs_rise = subst (λ (js : List Job). IsTrue (rise job_key nat_cmp js)) (sym jobs) was.jobs_rise;
        begun_rise = search rules;
        notes_rise = subst (λ (rows : List OrderNote). IsTrue (rise note_key code_cmp rows)) (sym notes) was.notes_rise;
        orders_rise = subst (λ (orders : List KnownOrder). IsTrue (rise known_key code_cmp orders)) (sym orders) was.orders_rise;
        demands_rise = search rules;
        placed = λ none.
            subst (λ (ds : List Demand). IsTrue (list_all (is_placed c.in_ok-orders.orders.items) ds)) (sym demands)
            (subst (λ (orders : List KnownOrder). IsTrue (list_all (is_placed orders) old.demands.items)) (sym orders) (was.placed none));
        job_keys = search rules;
        waiting =
            subst (λ (js : List Job). ListsNumbers waits (λ number. row_at job_key nat_cmp number js) lists.jobs.items) (sym jobs)
            (λ number. subst (λ (ks : List ℕ). ListsNumbers waits (λ n. row_at job_key nat_cmp n old.jobs.items) ks) (sym c.in_ok-lists.ensures.jobs) was.waiting number);
        demand_keys = search rules;
        open_demands =
            subst (λ (ds : List Demand). ListsNumbers is_open (λ number. row_at demand_key nat_cmp number ds) lists.demands.items) (sym demands)
            (λ number. subst (λ (ks : List ℕ). ListsNumbers is_open (λ n. row_at demand_key nat_cmp n old.demands.items) ks) (sym c.in_ok-lists.ensures.demands) was.open_demands number);
        filed = subst (AreFiled c.in_ok-pieces.pieces) (sym parts) (filed_stay old.pieces c.in_ok-pieces.pieces (parts_in old.parts) c.in_ok-pieces.ensures was.filed);
        worked = subst (AreJobsFiled c.in_ok-works.works) (sym jobs) (jobs_stay old.works c.in_ok-works.works old.jobs.items c.in_ok-works.ensures was.worked);
      };
    }

pub returns : goal.returns
returns c =
    let old = c.args.self.now in
    let materials : c.in_ok-materials.materials.items ≡ old.materials.items = search rules in
    let parts : parts_in c.in_ok-parts.parts ≡ parts_in old.parts = c.in_ok-parts.ensures.parts in
    let jobs : c.in_ok-jobs.jobs.items ≡ old.jobs.items = c.in_ok-jobs.ensures in
    let orders : c.in_ok-orders.orders.items ≡ old.orders.items = search rules in
    let demands : c.in_ok-demands.demands.items ≡ old.demands.items = search rules in
    let begun : c.in_ok-begun.begun.items ≡ old.begun.items = search rules in
    let notes : c.in_ok-notes.notes.items ≡ old.notes.items = c.in_ok-notes.ensures ∙ c.deref-5.ensures.value in
    λ i. content_of_rows (materials i) (parts i) (jobs i) (begun i) (codes_in (orders i)) (notes i) (demands i) old.last_act old.last_demand
