use Rattle.std.proofs.Common.{subst, sym, ◌∙◌}
use Rattle.shop_records.specs.Elements.{IsIn}
use Rattle.shop_book.proofs.Filed.{one_order}
use Rattle.shop_book.proofs.ledger.Ledger.lines_for.Goals as goal

pub returns-in-Order : goal.returns-in-Order
returns-in-Order c = λ order row is there own.
    c.rows_with.ensures.all row (subst (IsIn row) (sym c.deref-in-Order.ensures.value) there) (own ∙ one_order c.args.of.now order c.in-Order.order is c.in-Order.is)
