use Rattle.shop_store.proofs.sql.fresh_book.Goals as goal

pub returns-in-Ok-clause-fresh : goal.returns-in-Ok-clause-fresh
returns-in-Ok-clause-fresh g c = c.in-Ok.ensures.fresh c.requires.vacant

pub returns-in-Ok-clause-after : goal.returns-in-Ok-clause-after
returns-in-Ok-clause-after g c = c.in-Ok.ensures.after c.requires.vacant
