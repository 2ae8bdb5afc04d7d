use Rattle.shop_replies.proofs.asking.report_trace.Goals as goal

pub returns-clause-value : goal.returns-clause-value
returns-clause-value c =
    rw c.in-Trace.is (rw (c.as_str.ensures.value, c.wide.ensures.value, c.wide-2.ensures.value, c.state_word.ensures, c.wide-3.ensures.value, c.wide-4.ensures.value, c.wide-5.ensures.value) at c.write_object.ensures)
