use Rattle.std.proofs.Common.{ℕ}
use Rattle.std.specs.Cmp.{nat_cmp_total}
use Rattle.std.specs.Ordering.{nat_cmp}
use Rattle.shop_records.specs.Lists.{is_open}
use Rattle.shop_rows.specs.Keys.{demand_key}
use Rattle.shop_rows.specs.Open.{finds_with_all}
use Rattle.shop_rows.specs.Rows.{row_at}
use Rattle.shop_rows.proofs.Listed.{found_put_each, numbers_same}
use Rattle.shop_book.proofs.memory_lists.put_demands.Goals as goal

pub returns-clause-listed : goal.returns-clause-listed
returns-clause-listed c =
    let rows = c.args.rows.now in
    let old = c.args.demands.now.items in
    let new = c.put_all.new.rows.items in
    let before = λ (number : ℕ). row_at demand_key nat_cmp number old in
    numbers_same is_open (finds_with_all demand_key nat_cmp rows before) (λ number. row_at demand_key nat_cmp number new) c.list_demands.new.keys.items
    (found_put_each demand_key nat_cmp nat_cmp_total rows old new c.put_all.ensures.put) (c.list_demands.ensures.lists before c.requires.listed)
