use Rattle.std.proofs.Common.{◌≡◌, ◌<◌, ◌↔◌, ℕ, List, refl, subst}
use Rattle.std.specs.Prelude.{All, IsSome, IsTrue, map}
use Rattle.cut_bound.specs.declared.planned.PlannedUnit.{PlannedUnit}
use Rattle.cut_bound.specs.declared.stock.StockSize.{StockSize}
use Rattle.cut_bound.specs.Solutions.{cost_at_hand}
use Rattle.cut_bound.specs.Planned.{IsChecked}
use Rattle.cut_bound.specs.Prices.{price_of, priced, step_of}
use Rattle.cut_order.specs.declared.answer.OrderPlan.{OrderPlan}
use Rattle.cut_order.proofs.Answered.{answered}
use Rattle.cut_order.proofs.answer.answer_of.Goals as goal

pub returns : goal.returns
returns c =
    let q = c.args.certified.now.instance in
    let cert = c.args.certified.now.certificate in
    let checked = c.in_ok-checked.checked in
    let plan : OrderPlan = record {
      units = c.args.units;
      missing = checked.missing;
      cost = checked.cost;
      bound = cert.bound;
      prices = c.in_ok-prices.prices;
      proved = checked.proved;
      short = c.is_short-short.result;
    } in
    answered q.kind q.kerf q.step q.stages q.sizes.items q.wants.items cert.numbers.items plan checked c.requires.plan c.requires.filled c.args.certified.now.exact
    (subst (λ (us : List PlannedUnit). IsChecked q.wants.items q.kerf q.sizes.items cert.bound us checked) c.deref.ensures.value c.in_ok-checked.ensures.checked) c.in_ok-checked.ensures.small refl refl refl
    (subst (λ (ns : List ℕ). c.in_ok-prices.prices.items ≡ map price_of (priced q.kind q.kerf (step_of q.step) q.wants.items ns)) c.deref-2.ensures.value c.in_ok-prices.ensures)
    (subst (λ (zs : List StockSize). IsTrue c.is_short-short.result ↔ (All (λ s. IsSome s.limit) zs × (cost_at_hand zs < cert.bound))) c.deref-3.ensures.value c.is_short-short.ensures)
