use Rattle.std.proofs.Common.{◌+◌, ◌++◌, ◌∷◌, [], sym, ap, take, ◌∙◌, arith}
use Rattle.shop_machine.specs.Ordering.{new_demand, new_demands, lines_in}
use Rattle.shop_machine.specs.declared.ordering.FoundLine.{FoundLine}
use Rattle.shop_machine.proofs.OrderingDecision.{new_demands_more}
use Rattle.shop_machine.proofs.ordering.new_demands.Goals as goal

pub loop-found-preserved : goal.loop-found-preserved
loop-found-preserved c = (
  omega (arith, c.loop-found.invariant.0),
  c.in_ok-push.ensures.ok
      ∙ ap (λ rows. rows ++ c.new_demand.result ∷ []) c.loop-found.invariant.1
      ∙ ap (λ row. new_demands c.args.order c.args.first (lines_in (take c.loop-found.found-index c.args.lines.now)) ++ row ∷ []) (c.new_demand.ensures ∙ ap (λ n. new_demand c.args.order n c.found-item.result.line) c.loop-found.invariant.0)
      ∙ ap (λ (f : FoundLine). new_demands c.args.order c.args.first (lines_in (take c.loop-found.found-index c.args.lines.now)) ++ new_demand c.args.order (c.args.first + c.loop-found.found-index) f.line ∷ []) c.found-item.is
      ∙ sym (new_demands_more c.args.order c.args.first c.args.lines.now c.loop-found.found-index c.found-item.result c.loop-found-test.true),
)
