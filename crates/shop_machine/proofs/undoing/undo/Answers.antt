use Rattle.std.proofs.Common.{List, subst}
use Rattle.cut_tree.specs.declared.lay.Row.{Row}
use Rattle.shop_machine.specs.Recounts.{AreRecounted, with_unmade}
use Rattle.shop_machine.proofs.UndoingDecision.{undo_made}
use Rattle.shop_machine.proofs.undoing.undo.Goals as goal

pub recounted_rows-requires-clause-found : goal.recounted_rows-requires-clause-found
recounted_rows-requires-clause-found c = c.requires.rows

pub returns-clause-change : goal.returns-clause-change
returns-clause-change c =
    λ at found. (
      c.in_ok-demands.demands,
      subst (λ (l : List Row). AreRecounted at (with_unmade l) c.args.over.job.plan.tree c.in_ok-demands.demands) c.requires.laid (c.in_ok-demands.ensures at found),
      undo_made c.args.over.end c.args.over.job c.args.over.part c.args.over.limits c.args.totals.now c.in_ok-demands.demands c.args.left.now c.in_ok-undone.undone c.args.outgoing.now
          c.tally_one-incoming.result c.totals_after-after.result c.no_change.result c.no_change.ensures c.requires.left c.in_ok-undone.ensures c.requires.outgoing c.tally_one-incoming.ensures c.totals_after-after.ensures,
    )
