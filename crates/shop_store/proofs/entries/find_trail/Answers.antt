use Rattle.std.proofs.Common.{sym, ap, ◌∙◌, arith}
use Rattle.std.specs.Option.{option_or}
use Rattle.sqlite.specs.Held.{state}
use Rattle.sqlite.specs.State.{HasCleanDisk}
use Rattle.shop_statements.proofs.Reading.{leaves_then}
use Rattle.shop_records.specs.Lists.{entries_behind}
use Rattle.shop_book.specs.Ends.{end_time}
use Rattle.shop_store.proofs.Checked.{leaves_itself}
use Rattle.shop_store.proofs.NextEntries.{none_up_to}
use Rattle.shop_store.proofs.entries.find_trail.Goals as goal

pub steps-init : goal.steps-init
steps-init g c = record {
  leaves = leaves_itself (state g.S.Store c.args.conn.now);
  mode = λ out. out;
  found = λ clean b was job. sym (ap (λ found. option_or found (end_time job (entries_behind b.content 0))) (c.new-ends.ensures job));
  filed = λ clean b was. none_up_to b.content c.new-index.result;
}

pub returns-in-None-clause-ends : goal.returns-in-None-clause-ends
returns-in-None-clause-ends g c clean b was =
    let before : HasCleanDisk (state g.S.Store c.steps.conn) = let l = c.step.ensures.leaves.survives.clean in omega (arith, l, clean) in
    let is = rw c.in-None.is at (c.in_ok-next.ensures.ends clean b (c.steps.invariant.leaves.stays b was)) in
    λ job. sym (c.steps.invariant.found before b was job ∙ is job)

pub steps-preserved : goal.steps-preserved
steps-preserved g c = record {
  leaves = leaves_then _ _ _ c.steps.invariant.leaves c.step.ensures.leaves;
  mode = λ out. c.step.ensures.mode (c.steps.invariant.mode out);
  found = λ clean b was job.
      let before : HasCleanDisk (state g.S.Store c.steps.conn) = let l = c.step.ensures.leaves.survives.clean in omega (arith, l, clean) in
      let is = rw c.in-Some.is at (c.in_ok-next.ensures.ends clean b (c.steps.invariant.leaves.stays b was)) in
      c.steps.invariant.found before b was job ∙ is job;
  filed = λ clean b was.
      let before : HasCleanDisk (state g.S.Store c.steps.conn) = let l = c.step.ensures.leaves.survives.clean in omega (arith, l, clean) in
      rw c.in-Some.is at (c.in_ok-next.ensures.filed clean b (c.steps.invariant.leaves.stays b was)) (c.steps.invariant.filed before b was);
}

pub returns-in-None-clause-filed : goal.returns-in-None-clause-filed
returns-in-None-clause-filed g c clean b was =
    let before : HasCleanDisk (state g.S.Store c.steps.conn) = let l = c.step.ensures.leaves.survives.clean in omega (arith, l, clean) in
    let on = rw c.in-None.is at (c.in_ok-next.ensures.filed clean b (c.steps.invariant.leaves.stays b was)) in
    on (c.steps.invariant.filed before b was)
