use Rattle.std.proofs.Common.{◌≡◌, sym, ap, ◌∙◌}
use Rattle.std.specs.Prelude.{Some, is_some}
use Rattle.std.specs.FinSet.{insert}
use Rattle.cut_measure.specs.Codes.{code_cmp}
use Rattle.shop_rows.specs.Rows.{row_at}
use Rattle.shop_book.specs.KeptUp.{known_key}
use Rattle.shop_book.specs.Memory.{orders_in}
use Rattle.shop_book.specs.Orders.{codes_in, is_among, order_at}
use Rattle.shop_book.proofs.KnownRows.{known_is_row, known_itself, known_put, known_same, wider_reach}
use Rattle.shop_book.proofs.known_orders.reach_to.Goals as goal

pub returns-then-not-has-clause-same : goal.returns-then-not-has-clause-same
returns-then-not-has-clause-same c =
    let old = c.args.orders.now.items in
    let there : order_at c.args.row.now.order old ≡ Some c.in-Some.order =
    sym (known_is_row c.args.row.now.order old) ∙ ap (row_at known_key code_cmp c.args.row.now.order) (sym c.deref.ensures.value) ∙ sym c.in-Some.ensures.row in
    known_put c.with.result old c.put.new.rows.items c.put.ensures.put ∙ ap (insert (orders_in (codes_in old))) (c.with.ensures.code ∙ c.in-Some.ensures.key)
    ∙ sym (known_same c.args.row.now.order old (ap is_some there))

pub returns-then-not-has-clause-reach : goal.returns-then-not-has-clause-reach
returns-then-not-has-clause-reach c =
    let old = c.args.orders.now.items in
    let there : order_at c.args.row.now.order old ≡ Some c.in-Some.order =
    sym (known_is_row c.args.row.now.order old) ∙ ap (row_at known_key code_cmp c.args.row.now.order) (sym c.deref.ensures.value) ∙ sym c.in-Some.ensures.row in
    wider_reach c.with.result c.in-Some.order old c.put.new.rows.items (ap (λ code. order_at code old) (c.with.ensures.code ∙ c.in-Some.ensures.key) ∙ there) c.with.ensures.all c.put.ensures.put

pub returns-then-not-has-clause-placed : goal.returns-then-not-has-clause-placed
returns-then-not-has-clause-placed c = λ _.
    let new = c.put.new.rows.items in
    ap (λ found. is_among found c.args.row.now.number) (ap (λ code. order_at code new) (sym (c.with.ensures.code ∙ c.in-Some.ensures.key)) ∙ known_itself c.with.result c.args.orders.now.items new c.put.ensures.put)
    ∙ c.with.ensures.own

pub returns-else-not-has-clause-placed : goal.returns-else-not-has-clause-placed
returns-else-not-has-clause-placed c = λ _.
    let old = c.args.orders.now.items in
    let there : order_at c.args.row.now.order old ≡ Some c.in-Some.order =
    sym (known_is_row c.args.row.now.order old) ∙ ap (row_at known_key code_cmp c.args.row.now.order) (sym c.deref.ensures.value) ∙ sym c.in-Some.ensures.row in
    ap (λ found. is_among found c.args.row.now.number) there ∙ sym c.has.ensures ∙ c.if-not-has.false
