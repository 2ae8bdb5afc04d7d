use Rattle.shop_replies.proofs.commands.report_import.Goals as goal

pub returns-clause-value : goal.returns-clause-value
returns-clause-value c =
    rw c.in-Import.is (rw (c.wide.ensures.value, c.wide-2.ensures.value, c.wide-3.ensures.value, c.as_str.ensures.value) at c.write_object.ensures)
