use Rattle.shop_forms.proofs.rows.DemandRowListed.write.Goals as goal

pub returns-clause-value : goal.returns-clause-value
returns-clause-value c =
    rw (c.wide.ensures.value, c.wide-2.ensures.value, c.wide-3.ensures.value, c.h.ensures.value, c.wide-4.ensures.value, c.wide-5.ensures.value, c.as_str.ensures.value, c.as_str-2.ensures.value, c.wide-6.ensures.value, c.wide-7.ensures.value, c.w.ensures.value, c.wide-8.ensures.value, c.wide-9.ensures.value) at c.write_object.ensures
