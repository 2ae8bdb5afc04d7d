use Rattle.shop_messages.proofs.commands.write_note.Goals as goal

pub returns-clause-value : goal.returns-clause-value
returns-clause-value c =
    rw (c.wide.ensures.value, c.as_str.ensures.value, c.as_str-2.ensures.value) at c.write_object.ensures
