use Rattle.cut_tree.specs.declared.halts.Stop.TheVariants.{All}
use Rattle.shop_machine.specs.Ending.{IsRelease}
use Rattle.shop_machine.proofs.EndingDecision.{worked}
use Rattle.shop_machine.proofs.ending.decide_release.Goals as goal

pub returns-clause-decision : goal.returns-clause-decision
returns-clause-decision c =
    λ at found.
    let work = c.in_ok-work.work in (
      c.in_ok-work.ensures.allowed at found,
      worked All (λ j part params. IsRelease j part at c.in_ok-change.change) c.args.job c.args.part c.args.material at c.args.totals work.job work.part work.limits
          c.in_ok-work.ensures.work.0 c.in_ok-work.ensures.work.1 c.in_ok-work.ensures.work.2 (c.in_ok-work.ensures.allowed at found) (c.in_ok-change.ensures.change at found),
    )
