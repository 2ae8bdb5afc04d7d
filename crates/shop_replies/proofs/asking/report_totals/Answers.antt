use Rattle.shop_replies.proofs.asking.report_totals.Goals as goal

pub returns-clause-value : goal.returns-clause-value
returns-clause-value c =
    rw c.in-Totals.is (rw c.as_str.ensures.value at c.write_object.ensures)
