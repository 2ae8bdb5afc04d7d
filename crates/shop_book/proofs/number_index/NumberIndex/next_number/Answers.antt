use Rattle.shop_book.proofs.number_index.NumberIndex.next_number.Goals as goal

pub returns-clause-named : goal.returns-clause-named
returns-clause-named c = record {
  left = c.lesser.ensures.left _ c.next_named.ensures.left c.next_for_any.ensures.left;
  none = λ number left filed. c.lesser.ensures.first number (c.next_named.ensures.none number left filed);
}

pub returns-clause-worked : goal.returns-clause-worked
returns-clause-worked c = record {
  left = c.lesser.ensures.left _ c.next_named.ensures.left c.next_for_any.ensures.left;
  none = λ number left filed. c.lesser.ensures.second number (c.next_for_any.ensures.none number left filed);
}
