use Rattle.std.proofs.Common.{◌≡◌, take, true}
use Rattle.std.specs.Prelude.{◌<◌, vec_len, vec_capacity}
use Rattle.std.specs.List.{list_all}
use Rattle.cut_measure.specs.Codes.{code_cmp}
use Rattle.shop_rows.specs.Rows.{rise}
use Rattle.shop_book.specs.KeptUp.{known_key}
use Rattle.shop_book.specs.Memory.{orders_in}
use Rattle.shop_book.specs.Orders.{codes_in, is_placed, ReachAsFar}
use Rattle.shop_book.proofs.known_orders.reach_all.Given as goal

abbrev pub invariant-loop-row : goal.invariant-loop-row
invariant-loop-row l =
    record {
      rising : rise known_key code_cmp l.orders.items ≡ true;
      spare : vec_len l.orders < vec_capacity l.orders;
      same : orders_in (codes_in l.orders.items) ≡ orders_in (codes_in l.fn.orders.items);
      reach : ReachAsFar l.fn.orders.items l.orders.items;
      placed : l.are_all ≡ true → list_all (is_placed l.orders.items) (take l.row-index l.rows) ≡ true;
    }
