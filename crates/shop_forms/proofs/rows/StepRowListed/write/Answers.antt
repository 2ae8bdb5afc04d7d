use Rattle.shop_forms.proofs.rows.StepRowListed.write.Goals as goal

pub returns-clause-value : goal.returns-clause-value
returns-clause-value c =
    rw (c.wide.ensures.value, c.demand_cut.ensures, c.wide-2.ensures.value, c.wide-3.ensures.value, c.wide-4.ensures.value, c.order_or_none.ensures, c.part_member.ensures.0, c.part_member.ensures.1, c.wide-5.ensures.value, c.cut_place.ensures, c.state_or_none.ensures, c.is_turned.ensures, c.wide-6.ensures.value, c.what_word.ensures, c.wide-7.ensures.value, c.wide-8.ensures.value) at c.write_object.ensures
