use Rattle.shop_replies.proofs.listing.report_terminal.Goals as goal

pub returns-clause-value : goal.returns-clause-value
returns-clause-value c =
    rw (c.wide.ensures.value, c.wide-2.ensures.value) at c.write_object.ensures
