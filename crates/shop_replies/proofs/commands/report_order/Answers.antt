use Rattle.shop_replies.proofs.commands.report_order.Goals as goal

pub returns-clause-value : goal.returns-clause-value
returns-clause-value c =
    rw c.in-AddOrder.is (rw (c.wide.ensures.value, c.wide-2.ensures.value, c.as_str.ensures.value) at c.write_object.ensures)
