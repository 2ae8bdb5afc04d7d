use Rattle.shop_replies.proofs.asking.report_plan.Goals as goal

pub returns-clause-value : goal.returns-clause-value
returns-clause-value c =
    rw c.in-Plan.is (rw (c.wide.ensures.value, c.as_str.ensures.value) at c.write_object.ensures)
