use Rattle.shop_replies.proofs.commands.report_undo.Goals as goal

pub returns-clause-value : goal.returns-clause-value
returns-clause-value c =
    rw c.wide.ensures.value at c.write_object.ensures
