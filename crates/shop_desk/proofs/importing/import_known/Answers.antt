use Rattle.shop_desk.proofs.importing.import_known.Goals as goal

pub returns-then-repeats-clause-decision : goal.returns-then-repeats-clause-decision
returns-then-repeats-clause-decision g c =
    λ clean_disk m held well_formed is.
    c.import_again.ensures.decision m c.args.order c.args.form.now c.args.text.now (g.B.Book.failed c.args.book.now) (g.B.Book.failed c.args.book.now) well_formed is (c.repeats.ensures.0 c.if-repeats.true)
