use Rattle.std.proofs.Common.{ℕ, ◌+◌, ◌-◌, ◌≤◌, Option, length, take, vec_len, vec_capacity}
use Rattle.std.specs.Prelude.{IsTrue}
use Rattle.std.specs.Ordering.{nat_cmp}
use Rattle.shop_records.specs.Lists.{is_open}
use Rattle.shop_records.specs.declared.records.Demand.{Demand}
use Rattle.shop_rows.specs.Keys.{demand_key}
use Rattle.shop_rows.specs.Open.{own_key, finds_with_all, ListsNumbers}
use Rattle.shop_rows.specs.Rows.{rise}
use Rattle.shop_rows.proofs.open.list_demands.Given as goal

abbrev pub invariant-loop-demand : goal.invariant-loop-demand
invariant-loop-demand l =
    record {
      rising : IsTrue (rise own_key nat_cmp l.keys.items);
      spare : vec_len l.keys + (length l.demands - l.demand-index) ≤ vec_capacity l.keys;
      lists : (find : ℕ → Option Demand) → ListsNumbers is_open find l.fn.keys.items → ListsNumbers is_open (finds_with_all demand_key nat_cmp (take l.demand-index l.demands) find) l.keys.items;
    }
