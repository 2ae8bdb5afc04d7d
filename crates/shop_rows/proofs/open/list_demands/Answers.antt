use Rattle.std.proofs.Common.{ℕ, Option, take, sym, ap, subst, ◌∙◌, add-one, arith}
use Rattle.std.proofs.lemmas.List.{take_all}
use Rattle.std.specs.Ordering.{nat_cmp}
use Rattle.shop_records.specs.Lists.{is_open}
use Rattle.shop_records.specs.declared.records.Demand.{Demand}
use Rattle.shop_rows.specs.Keys.{demand_key}
use Rattle.shop_rows.specs.Open.{finds_with_all, ListsNumbers}
use Rattle.shop_rows.proofs.Listed.{finds_more}
use Rattle.shop_rows.proofs.open.list_demands.Goals as goal

pub loop-demand-preserved : goal.loop-demand-preserved
loop-demand-preserved c =
    let demands = c.args.demands.now in
    let i = c.loop-demand.demand-index in
    let demand = c.demand-item.result in
    record {
      rising = c.list_demand.ensures.rising;
      spare = omega arith;
      lists = λ find lists.
          subst (λ (f : ℕ → Option Demand). ListsNumbers is_open f c.list_demand.new.keys.items)
          (sym (ap (λ n. finds_with_all demand_key nat_cmp (take n demands) find) (add-one i) ∙ finds_more demand_key nat_cmp demands i demand find c.loop-demand-test.true c.demand-item.is))
          (c.list_demand.ensures.lists (finds_with_all demand_key nat_cmp (take i demands) find) (c.loop-demand.invariant.lists find lists));
    }

pub returns-clause-lists : goal.returns-clause-lists
returns-clause-lists c = λ find lists.
    let demands = c.args.demands.now in
    subst (λ ds. ListsNumbers is_open (finds_with_all demand_key nat_cmp ds find) c.loop-demand.keys.items) (take_all c.loop-demand.demand-index demands c.loop-demand-test.false) (c.loop-demand.invariant.lists find lists)
