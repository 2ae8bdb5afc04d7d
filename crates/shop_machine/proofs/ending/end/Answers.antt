use Rattle.std.proofs.Common.{sym, subst}
use Rattle.cut_tree.specs.Laying.{IsLaid}
use Rattle.cut_tree.specs.Stops.{outcome_of}
use Rattle.shop_machine.proofs.EndingDecision.{end_made}
use Rattle.shop_machine.proofs.Inside.{has_part}
use Rattle.shop_machine.proofs.UndoingDecision.{fits_as_part}
use Rattle.shop_machine.proofs.ending.end.Goals as goal

pub ended_parts-requires-clause-part : goal.ended_parts-requires-clause-part
ended_parts-requires-clause-part c = fits_as_part c.args.work.job c.args.work.part (has_part c.args.work.job c.args.work.part c.requires.part)

pub returns-clause-change : goal.returns-clause-change
returns-clause-change c =
    λ at found.
    let plan = c.args.work.job.plan in
    record {
      laid = c.deref-laid.result.now;
      is_laid = subst (IsLaid plan.tree plan.w plan.h plan.kerf (outcome_of c.args.stop.now)) (sym c.deref-laid.ensures.value) c.in_ok-rows.ensures.laid;
      rows = c.in_ok-demands.demands;
      recounted = c.in_ok-demands.ensures at found;
      is = end_made c.args.stop.now c.args.work.job c.args.work.part c.args.work.limits c.args.totals.now c.deref-laid.result.now c.in_ok-demands.demands c.in_ok-parts.parts c.in_ok-parts.incoming
          c.moved_totals.result c.ended_reply-reply.result c.ended_state.result c.in_ok-halt.halt c.no_change.result c.no_change.ensures c.ended_state.ensures c.in_ok-halt.ensures c.in_ok-parts.ensures.parts c.in_ok-parts.ensures.cells
          c.moved_totals.ensures c.ended_reply-reply.ensures;
    }
