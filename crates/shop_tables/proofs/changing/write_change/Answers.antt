use Rattle.std.proofs.Common.{refl}
use Rattle.shop_tables.specs.Changing.{with_entries, with_jobs, with_messages, with_stock, with_work}
use Rattle.shop_statements.proofs.Steps.{went_then, ran_then, on_ok_then, within_then}
use Rattle.shop_tables.proofs.Fitting.{entry_new, job_fits, uses_new}
use Rattle.shop_tables.proofs.InTurn.{of_some, ran_writes, stops, writes_so, writes_then}
use Rattle.shop_tables.proofs.changing.write_change.Goals as goal

pub returns-clause-ran : goal.returns-clause-ran
returns-clause-ran g c =
    on_ok_then _ (λ last. ran_then _ _ _ c.in_ok-keep.ensures.ran (went_then _ _ _ c.in_ok-write_some.ensures.writes.went
    (went_then _ _ _ c.in_ok-write_job.ensures.writes.went (went_then _ _ _ c.in_ok-write_stock.ensures.writes.went (went_then _ _ _ c.in_ok-write_work.ensures.writes.went (went_then _ _ _ c.in_ok-write_uses.ensures.writes.went (went_then _ _ _ c.in_ok-write_said.ensures.writes.went last))))))) c.write_numbers.ensures.writes.went

pub returns-clause-writes : goal.returns-clause-writes
returns-clause-writes g c =
    let change = c.args.change.now in
    writes_so
    (λ b has.
    let noted = with_entries change.entry (with_messages change.kept b) in (
      (
        (
          (
            (((has.2.kept, entry_new b.content change has.2), job_fits b.content noted.content.kept noted.content.entries change.job change.act has.2.job), record { decided = b; sums = has.0; fits = has.2; materials = refl; parts = refl; totals = refl }),
            record { decided = b.content; fits = has.2; orders = refl; imports = refl; demands = refl },
          ),
          uses_new b change has.1 has.2 (with_work change (with_stock change (with_jobs change.job noted))) refl,
        ),
        has.2.halt,
      ),
      tt,
    )) (λ b. refl)
    (writes_then (writes_then (writes_then (writes_then (writes_then (writes_then (writes_then (ran_writes c.in_ok-keep.ensures.ran c.in_ok-keep.ensures.put c.in_ok-keep.ensures.others c.keep.ensures.within)
    (of_some with_entries (λ b. refl) (λ x b. refl) change.entry c.in_ok-write_some.ensures.writes)) c.in_ok-write_job.ensures.writes) c.in_ok-write_stock.ensures.writes) c.in_ok-write_work.ensures.writes) (rw c.as_slice.ensures at c.in_ok-write_uses.ensures.writes)) c.in_ok-write_said.ensures.writes) c.write_numbers.ensures.writes)

pub returns-in_err-write_work-clause-writes : goal.returns-in_err-write_work-clause-writes
returns-in_err-write_work-clause-writes g c =
    stops c.from_residual-in_err-write_work.ensures.0
    (within_then _ _ _ (within_then _ _ _ (within_then _ _ _ (within_then _ _ _ c.keep.ensures.within c.write_some.ensures.writes.within) c.write_job.ensures.writes.within) c.write_stock.ensures.writes.within) c.write_work.ensures.writes.within)

pub returns-in_err-write_uses-clause-writes : goal.returns-in_err-write_uses-clause-writes
returns-in_err-write_uses-clause-writes g c =
    stops c.from_residual-in_err-write_uses.ensures.0
    (within_then _ _ _ (within_then _ _ _ (within_then _ _ _ (within_then _ _ _ (within_then _ _ _ c.keep.ensures.within c.write_some.ensures.writes.within) c.write_job.ensures.writes.within) c.write_stock.ensures.writes.within) c.write_work.ensures.writes.within) c.write_uses.ensures.writes.within)

pub returns-in_err-write_said-clause-writes : goal.returns-in_err-write_said-clause-writes
returns-in_err-write_said-clause-writes g c =
    stops c.from_residual-in_err-write_said.ensures.0
    (within_then _ _ _ (within_then _ _ _ (within_then _ _ _ (within_then _ _ _ (within_then _ _ _ (within_then _ _ _ c.keep.ensures.within c.write_some.ensures.writes.within) c.write_job.ensures.writes.within) c.write_stock.ensures.writes.within) c.write_work.ensures.writes.within) c.write_uses.ensures.writes.within) c.write_said.ensures.writes.within)
