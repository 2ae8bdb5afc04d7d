use Rattle.shop_replies.proofs.asking.report_demand.Goals as goal

pub returns-clause-value : goal.returns-clause-value
returns-clause-value c =
    rw c.in-Demand.is (rw (c.wide.ensures.value, c.wide-2.ensures.value, c.wide-3.ensures.value, c.as_str.ensures.value, c.as_str-2.ensures.value, c.wide-4.ensures.value, c.wide-5.ensures.value) at c.write_object.ensures)
