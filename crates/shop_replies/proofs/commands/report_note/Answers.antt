use Rattle.shop_replies.proofs.commands.report_note.Goals as goal

pub returns : goal.returns
returns c =
    rw c.as_str.ensures.value at c.write_object.ensures
