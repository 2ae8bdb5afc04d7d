use Rattle.std.proofs.Common.{◌<◌, None, length, map, ap, ◌∙◌, arith}
use Rattle.shop_records.specs.Lists.{order_codes, orders_after}
use Rattle.shop_tables.proofs.Ordered.{filter_true}
use Rattle.shop_tables.specs.Listing.{code_row}
use Rattle.shop_store.specs.Loading.{put_order}
use Rattle.shop_store.specs.declared.loading.TheConstants.{MAX_ORDERS}
use Rattle.shop_store.proofs.Chunks.{not_cut_off}
use Rattle.shop_store.proofs.HeldEither.{either}
use Rattle.shop_store.proofs.Loads.{all_fit}
use Rattle.shop_store.proofs.loading.load_orders.Goals as goal

pub returns-in_err-rows-clause-leaves : goal.returns-in_err-rows-clause-leaves
returns-in_err-rows-clause-leaves g c = c.order_rows.ensures.gives.leaves

pub returns-clause-leaves : goal.returns-clause-leaves
returns-clause-leaves g c = c.order_rows.ensures.gives.leaves

pub returns-clause-loaded : goal.returns-clause-loaded
returns-clause-loaded g c clean b was =
    let rows = either was (c.in_ok-rows.ensures.gives.rows clean b) (c.in_ok-rows.ensures.second clean b) (c.in_ok-rows.ensures.earlier clean b) in
    let few : length c.in_ok-rows.rows.items < MAX_ORDERS = omega (arith, c.if-len-ge-MAX_ORDERS.false) in
    let whole = not_cut_off code_row (orders_after b.content None) c.in_ok-rows.rows.items MAX_ORDERS rows few ∙ filter_true (order_codes b.content) in
    c.load_each.ensures (order_codes b.content) (c.deref.ensures.value ∙ rows ∙ ap (map code_row) whole) (all_fit put_order (order_codes b.content) _)
