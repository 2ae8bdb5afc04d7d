use Rattle.shop_messages.proofs.halting.write_saving.Goals as goal

pub returns-clause-value : goal.returns-clause-value
returns-clause-value c =
    rw (c.cuts_member.ensures.0, c.cuts_member.ensures.1, c.wide.ensures.value, c.lost_member.ensures.0, c.lost_member.ensures.1, c.wide-2.ensures.value) at c.write_object.ensures
