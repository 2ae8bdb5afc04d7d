use Rattle.std.proofs.Common.{◌+◌, ◌≤◌, List, subst, ◌∙◌}
use Rattle.std.specs.Prelude.{All}
use Rattle.cut_measure.specs.Measures.{Size}
use Rattle.cut_bound.specs.declared.stock.StockSize.{StockSize}
use Rattle.cut_bound.proofs.CheckedOrders.{All-mapped}
use Rattle.cut_bound.proofs.unit_bounds.stock_grid.Goals as goal

pub returns-clause-wide : goal.returns-clause-wide
returns-clause-wide c =
    All-mapped (λ (e : Size). e.w + c.args.kerf ≤ c.in_ok-grid.grid.most_across) (λ (z : StockSize). z.size) c.args.sizes.now
    (subst (λ (es : List Size). All (λ e. e.w + c.args.kerf ≤ c.in_ok-grid.grid.most_across) es) (c.deref.ensures.value ∙ c.in_ok-extents.ensures) c.in_ok-grid.ensures.wide)

pub returns-clause-tall : goal.returns-clause-tall
returns-clause-tall c =
    All-mapped (λ (e : Size). e.h + c.args.kerf ≤ c.in_ok-grid.grid.most_down) (λ (z : StockSize). z.size) c.args.sizes.now
    (subst (λ (es : List Size). All (λ e. e.h + c.args.kerf ≤ c.in_ok-grid.grid.most_down) es) (c.deref.ensures.value ∙ c.in_ok-extents.ensures) c.in_ok-grid.ensures.tall)
