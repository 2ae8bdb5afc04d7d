use Rattle.std.proofs.Common.{rules, List, sym, subst}
use Rattle.shop_records.specs.declared.records.Job.{Job}
use Rattle.shop_records.specs.declared.records.Part.{Part}
use Rattle.shop_rows.specs.PartRows.{parts_in}
use Rattle.shop_book.specs.FiledJobs.{AreJobsFiled}
use Rattle.shop_book.specs.Pieces.{AreFiled}
use Rattle.shop_book.proofs.Filed.{filed_stay}
use Rattle.shop_book.proofs.JobsFiled.{jobs_stay}
use Rattle.shop_book.proofs.ledger.Ledger.reserve_change.Goals as goal

pub invariant_of-self : goal.invariant_of-self
invariant_of-self c =
    let was = c.args.self.now in
    record {
      kept_up = record {
        materials_rise = search rules;
        known = search rules;
        tally = search rules;
        jobs_rise = search rules;
        begun_rise = search rules;
        orders_rise = search rules;
        notes_rise = search rules;
        demands_rise = search rules;
        placed = search rules;
        job_keys = search rules;
        waiting = search rules;
        demand_keys = search rules;
        open_demands = search rules;
        filed = filed_stay was.pieces c.file_change.new.pieces (parts_in was.parts) c.file_change.ensures.pieces was.kept_up.filed;
        worked = jobs_stay was.works c.file_change.new.works was.jobs.items c.file_change.ensures.works was.kept_up.worked;
      };
    }

pub invariant_of-self-in-Break-branch-2 : goal.invariant_of-self-in-Break-branch-2
invariant_of-self-in-Break-branch-2 c =
    let was = c.args.self.now in
    record {
      kept_up = record {
        materials_rise = search rules;
        known = search rules;
        tally = search rules;
        jobs_rise = search rules;
        begun_rise = search rules;
        orders_rise = search rules;
        notes_rise = search rules;
        demands_rise = search rules;
        placed = search rules;
        job_keys = search rules;
        waiting = search rules;
        demand_keys = search rules;
        open_demands = search rules;
        filed = filed_stay was.pieces c.file_change.new.pieces (parts_in was.parts) c.file_change.ensures.pieces was.kept_up.filed;
        worked = jobs_stay was.works c.file_change.new.works was.jobs.items c.file_change.ensures.works was.kept_up.worked;
      };
    }

pub invariant_of-self-in-Break-branch-3 : goal.invariant_of-self-in-Break-branch-3
invariant_of-self-in-Break-branch-3 c =
    let was = c.args.self.now in
    record {
      kept_up = record {
        materials_rise = search rules;
        known = search rules;
        tally = search rules;
        jobs_rise = search rules;
        begun_rise = search rules;
        orders_rise = search rules;
        notes_rise = search rules;
        demands_rise = search rules;
        placed = search rules;
        job_keys = search rules;
        waiting = search rules;
        demand_keys = search rules;
        open_demands = search rules;
        filed = subst (λ (rows : List Part). AreFiled c.file_change.new.pieces rows) (sym c.reserve_parts.ensures.parts) (filed_stay was.pieces c.file_change.new.pieces (parts_in was.parts) c.file_change.ensures.pieces was.kept_up.filed);
        worked = jobs_stay was.works c.file_change.new.works was.jobs.items c.file_change.ensures.works was.kept_up.worked;
      };
    }

pub invariant_of-self-in-Break-branch-4 : goal.invariant_of-self-in-Break-branch-4
invariant_of-self-in-Break-branch-4 c =
    let was = c.args.self.now in
    record {
      kept_up = record {
        materials_rise = search rules;
        known = search rules;
        tally = search rules;
        jobs_rise = search rules;
        begun_rise = search rules;
        orders_rise = search rules;
        notes_rise = search rules;
        demands_rise = search rules;
        placed = search rules;
        job_keys = search rules;
        waiting = search rules;
        demand_keys = search rules;
        open_demands = search rules;
        filed = subst (λ (rows : List Part). AreFiled c.file_change.new.pieces rows) (sym c.reserve_parts.ensures.parts) (filed_stay was.pieces c.file_change.new.pieces (parts_in was.parts) c.file_change.ensures.pieces was.kept_up.filed);
        worked = jobs_stay was.works c.file_change.new.works was.jobs.items c.file_change.ensures.works was.kept_up.worked;
      };
    }

pub invariant_of-self-in-Break-branch-5 : goal.invariant_of-self-in-Break-branch-5
invariant_of-self-in-Break-branch-5 c =
    let was = c.args.self.now in
    record {
      kept_up = record {
        materials_rise = search rules;
        known = search rules;
        tally = search rules;
        jobs_rise = search rules;
        begun_rise = search rules;
        orders_rise = search rules;
        notes_rise = search rules;
        demands_rise = search rules;
        placed = search rules;
        job_keys = search rules;
        waiting = search rules;
        demand_keys = search rules;
        open_demands = search rules;
        filed = subst (λ (rows : List Part). AreFiled c.file_change.new.pieces rows) (sym c.reserve_parts.ensures.parts) (filed_stay was.pieces c.file_change.new.pieces (parts_in was.parts) c.file_change.ensures.pieces was.kept_up.filed);
        worked = subst (λ (rows : List Job). AreJobsFiled c.file_change.new.works rows) (sym c.reserve_both.ensures.rows) (jobs_stay was.works c.file_change.new.works was.jobs.items c.file_change.ensures.works was.kept_up.worked);
      };
    }

pub invariant_of-self-in-Break-branch-6 : goal.invariant_of-self-in-Break-branch-6
invariant_of-self-in-Break-branch-6 c =
    let was = c.args.self.now in
    record {
      kept_up = record {
        materials_rise = search rules;
        known = search rules;
        tally = search rules;
        jobs_rise = search rules;
        begun_rise = search rules;
        orders_rise = search rules;
        notes_rise = search rules;
        demands_rise = search rules;
        placed = search rules;
        job_keys = search rules;
        waiting = search rules;
        demand_keys = search rules;
        open_demands = search rules;
        filed = subst (λ (rows : List Part). AreFiled c.file_change.new.pieces rows) (sym c.reserve_parts.ensures.parts) (filed_stay was.pieces c.file_change.new.pieces (parts_in was.parts) c.file_change.ensures.pieces was.kept_up.filed);
        worked = subst (λ (rows : List Job). AreJobsFiled c.file_change.new.works rows) (sym c.reserve_both.ensures.rows) (jobs_stay was.works c.file_change.new.works was.jobs.items c.file_change.ensures.works was.kept_up.worked);
      };
    }

pub invariant_of-self-in-Break-branch-7 : goal.invariant_of-self-in-Break-branch-7
invariant_of-self-in-Break-branch-7 c =
    let was = c.args.self.now in
    record {
      kept_up = record {
        materials_rise = search rules;
        known = search rules;
        tally = search rules;
        jobs_rise = search rules;
        begun_rise = search rules;
        orders_rise = search rules;
        notes_rise = search rules;
        demands_rise = search rules;
        placed = search rules;
        job_keys = search rules;
        waiting = search rules;
        demand_keys = search rules;
        open_demands = search rules;
        filed = subst (λ (rows : List Part). AreFiled c.file_change.new.pieces rows) (sym c.reserve_parts.ensures.parts) (filed_stay was.pieces c.file_change.new.pieces (parts_in was.parts) c.file_change.ensures.pieces was.kept_up.filed);
        worked = subst (λ (rows : List Job). AreJobsFiled c.file_change.new.works rows) (sym c.reserve_both.ensures.rows) (jobs_stay was.works c.file_change.new.works was.jobs.items c.file_change.ensures.works was.kept_up.worked);
      };
    }

pub invariant_of-self-2 : goal.invariant_of-self-2
invariant_of-self-2 c =
    let was = c.args.self.now in
    record {
      kept_up = record {
        materials_rise = search rules;
        known = search rules;
        tally = search rules;
        jobs_rise = search rules;
        begun_rise = search rules;
        orders_rise = search rules;
        notes_rise = search rules;
        demands_rise = search rules;
        placed = search rules;
        job_keys = search rules;
        waiting = search rules;
        demand_keys = search rules;
        open_demands = search rules;
        filed = subst (λ (rows : List Part). AreFiled c.file_change.new.pieces rows) (sym c.reserve_parts.ensures.parts) (filed_stay was.pieces c.file_change.new.pieces (parts_in was.parts) c.file_change.ensures.pieces was.kept_up.filed);
        worked = subst (λ (rows : List Job). AreJobsFiled c.file_change.new.works rows) (sym c.reserve_both.ensures.rows) (jobs_stay was.works c.file_change.new.works was.jobs.items c.file_change.ensures.works was.kept_up.worked);
      };
    }
