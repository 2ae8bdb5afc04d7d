-- What a reservation does to what a content follows.
use Rattle.std.proofs.Common.{arith, ◌≡◌, ℕ, ◌+◌, List, refl, sym, ap, subst, ◌∙◌, inl, inr}
use Rattle.std.specs.Prelude.{Some}
use Rattle.std.specs.Cmp.{nat_cmp_total}
use Rattle.std.specs.FinMap.{get, insert, nat_cmp-IsAntisymmetric}
use Rattle.cut_measure.specs.Names.{Name}
use Rattle.cut_tree.specs.Patterns.{Pattern}
use Rattle.shop_records.specs.declared.records.Part.{Part}
use Rattle.shop_records.specs.declared.records.State.TheVariants.{Standing, Reserved}
use Rattle.shop_records.specs.declared.records.Job.{Job}
use Rattle.shop_records.specs.declared.records.JobState.TheVariants as job_state
use Rattle.shop_records.specs.declared.records.Demand.{Demand}
use Rattle.shop_records.specs.declared.changes.Change.{Change}
use Rattle.shop_records.specs.declared.messages.Message.{Message}
use Rattle.shop_records.specs.declared.messages.Command.{Command}
use Rattle.shop_records.specs.declared.messages.Command.TheVariants.{Reserve}
use Rattle.shop_records.specs.Messages.{Texts}
use Rattle.shop_records.specs.Content.{Content, part_at, demand_at}
use Rattle.shop_machine.specs.Reserving.{reserve_change, IsReading, IsReservation}
use Rattle.shop_machine.specs.Machine.{Reads, Effect, Reserves, effects}
use Rattle.shop_machine.specs.Recounts.{AreRecounted, with_reserved}
use Rattle.shop_records.specs.WellFormed.{IsWellFormed}
use Rattle.shop_machine.specs.History.{acts_of, ordered_lines, job_of, owner_of, is_gone, standing_as}
use Rattle.shop_records.specs.Columns.{is_free}
use Rattle.shop_records.specs.Readings.{Reading, Plan}
use Rattle.shop_records.proofs.Basics.{nat_cases, same_some, get_same, get_other}
use Rattle.shop_machine.proofs.Moved.{no_reserved}
use Rattle.shop_machine.proofs.OrderedLines.{lines_recounted}
use Rattle.shop_machine.proofs.Cells.{restated}
use Rattle.shop_machine.proofs.Accounts.{reservation, Follows, if_yes, if_no}
use Rattle.shop_machine.proofs.Allowed.{free_stands}
use Rattle.shop_machine.proofs.Steps.{After, AfterAll, named, rows_restated, cut_restated, whole_restated}

module _ (texts : Texts) (message : Message) (earlier : List Effect) (old : Content) (well_formed : IsWellFormed texts old) (f : Follows earlier old) where
  abbrev Next : Effect → Change → Type 0
  Next = After texts message earlier old well_formed f

  module _ (part : Name) (row : Part) (plan : Pattern) (rows : List Demand) (kept : part_at old part ≡ Some row) (stands : row.state ≡ Standing) where
    kept_row : part_at old row.name ≡ Some row
    kept_row = ap (get old.parts) (named texts message earlier old well_formed f part row kept) ∙ kept

    abbrev new_job : Job
    new_job = record { act = acts_of earlier + 1; part = row.name; kerf = plan.kerf; plan = plan; state = job_state.Waiting }

    by_part : AreRecounted (demand_at old) with_reserved plan.tree rows → Next (Reserves part plan.tree) (reserve_change row plan (acts_of earlier + 1) rows)
    by_part recounted = record {
      acts = refl;
      numbers = f.numbers;
      lines = lines_recounted (ordered_lines earlier) old.demands with_reserved plan.tree rows recounted (no_reserved old.demands plan.tree) (λ n d. refl) f.lines;
      params = f.params;
      rows = rows_restated texts message earlier old well_formed f row (Reserved (acts_of earlier + 1)) refl kept_row (Reserves part plan.tree) (λ p job x y is. refl);
      jobs = λ k job g. elim (nat_cases k (acts_of earlier + 1)) [
        | inl y ↦ (
            let is : job ≡ new_job = same_some job new_job (sym g ∙ ap (get (insert old.jobs (acts_of earlier + 1) new_job)) y.0 ∙ get_same nat_cmp_total nat_cmp-IsAntisymmetric old.jobs (acts_of earlier + 1) new_job) in
            if_yes k (acts_of earlier + 1) (Some (record { part = part; tree = plan.tree })) (job_of earlier k) y.0
            ∙ ap (λ v. Some (record { part = v; tree = plan.tree })) (sym (named texts message earlier old well_formed f part row kept)) ∙ ap (λ (v : Job). Some (reservation v)) (sym is))
        | inr n ↦ if_no k (acts_of earlier + 1) (Some (record { part = part; tree = plan.tree })) (job_of earlier k) n.0
            ∙ f.jobs k job (sym (get_other nat_cmp_total nat_cmp-IsAntisymmetric old.jobs (acts_of earlier + 1) new_job k n.0) ∙ g)
      ];
      wholes = λ unit i. whole_restated texts message earlier old well_formed f row (Reserved (acts_of earlier + 1)) refl kept_row unit (f.wholes unit i);
      cells = λ unit i x y across down.
          restated old.parts (named texts message earlier old well_formed f) row.name row kept_row (ap is_gone stands) (Reserved (acts_of earlier + 1)) refl (ap standing_as (sym stands)) (owner_of earlier unit.name x y) unit.name x y
          (f.cells unit i x y across down);
      over = λ n q job k cut.
          let was = f.over n q job (cut_restated texts message earlier old well_formed f row (Reserved (acts_of earlier + 1)) refl kept_row n q job k cut) cut in
          let so_far = (well_formed.jobs job was.job was.found).so_far in
          let e : old.last_act ≡ acts_of earlier = f.acts in
          record {
            job = was.job;
            found = get_other nat_cmp_total nat_cmp-IsAntisymmetric old.jobs (acts_of earlier + 1) new_job job (λ is. absurd (omega (arith, is, so_far, e))) ∙ was.found;
            over = was.over;
          };
    }

    pub by_reservation : AreRecounted (demand_at old) with_reserved plan.tree rows → Next (Reserves part plan.tree) (reserve_change row plan (old.last_act + 1) rows)
    by_reservation recounted = subst (λ n. Next (Reserves part plan.tree) (reserve_change row plan (n + 1) rows)) (sym f.acts) (by_part recounted)

  abbrev Then : Command → Reading → Change → Type 0
  Then command read change = AfterAll texts message earlier old well_formed f (effects command read) change

  pub reserves : (part : Name) (text : List ℕ) (read : Reading) (change : Change) (row : Part) (plan : Pattern) → part_at old part ≡ Some row → read ≡ Plan plan
      → Reads texts old (Reserve part text) read → IsReservation row plan (demand_at old) (old.last_act + 1) change → Then (Reserve part text) read change
  reserves part text read change row plan kept is_read reads made =
      let reading : IsReading old part text plan = subst (Reads texts old (Reserve part text)) is_read reads in
      let same : reading.row ≡ row = same_some reading.row row (sym reading.found ∙ kept) in
      let stands : row.state ≡ Standing = free_stands row.state (ap (λ (q : Part). is_free q.state) (sym same) ∙ reading.stands) in
      subst (λ r. Then (Reserve part text) r change) (sym is_read)
      (subst (Then (Reserve part text) (Plan plan)) (sym made.is)
      (by_reservation part row plan made.rows kept stands made.recounted))
