use Rattle.std.proofs.Common.{◌∙◌, true≢false, sym, ap}
use Rattle.std.specs.Prelude.{not}
use Rattle.shop_tables.specs.Adopting.{names_are_free}
use Rattle.shop_tables.proofs.Taken.{taken, earlier_taken, second_taken}
use Rattle.shop_tables.proofs.adopting.adopt_tables.Goals as goal

pub returns-then-are_free-clause-held : goal.returns-then-are_free-clause-held
returns-then-are_free-clause-held g c b was = absurd (true≢false (sym c.if-are_free.true ∙ c.are_free.ensures ∙ ap names_are_free c.schema.ensures.value ∙ taken c.args.conn.now.schema was.shows.schema))

pub returns-then-are_free-clause-made : goal.returns-then-are_free-clause-made
returns-then-are_free-clause-made g c is b was = absurd (true≢false (sym c.if-are_free.true ∙ c.are_free.ensures ∙ ap names_are_free c.schema.ensures.value ∙ taken c.args.conn.now.schema was.shows.schema))

pub returns-then-are_free-clause-still : goal.returns-then-are_free-clause-still
returns-then-are_free-clause-still g c it = absurd (true≢false (sym c.if-are_free.true ∙ c.are_free.ensures ∙ ap names_are_free c.schema.ensures.value ∙ taken c.args.conn.now.schema it))

pub returns-then-are_free-clause-one_only : goal.returns-then-are_free-clause-one_only
returns-then-are_free-clause-one_only g c is = absurd (true≢false (sym c.if-are_free.true ∙ c.are_free.ensures ∙ ap names_are_free c.schema.ensures.value ∙ earlier_taken c.args.conn.now.schema is))

pub returns-then-are_free-clause-one_leaves : goal.returns-then-are_free-clause-one_leaves
returns-then-are_free-clause-one_leaves g c is = absurd (true≢false (sym c.if-are_free.true ∙ c.are_free.ensures ∙ ap names_are_free c.schema.ensures.value ∙ earlier_taken c.args.conn.now.schema is))

pub returns-else-are_free-clause-fresh : goal.returns-else-are_free-clause-fresh
returns-else-are_free-clause-fresh g c empty = absurd (true≢false (sym (c.are_free.ensures ∙ ap names_are_free (c.schema.ensures.value ∙ empty)) ∙ c.if-are_free.false))

pub returns-else-are_free-clause-vacant : goal.returns-else-are_free-clause-vacant
returns-else-are_free-clause-vacant g c empty = absurd (true≢false (sym (c.are_free.ensures ∙ ap names_are_free (c.schema.ensures.value ∙ empty)) ∙ c.if-are_free.false))

pub returns-else-are_free-clause-crash : goal.returns-else-are_free-clause-crash
returns-else-are_free-clause-crash g c empty = absurd (true≢false (sym (c.are_free.ensures ∙ ap names_are_free (c.schema.ensures.value ∙ empty)) ∙ c.if-are_free.false))

pub returns-else-are_free-clause-after : goal.returns-else-are_free-clause-after
returns-else-are_free-clause-after g c empty = absurd (true≢false (sym (c.are_free.ensures ∙ ap names_are_free (c.schema.ensures.value ∙ empty)) ∙ c.if-are_free.false))

pub returns-then-are_free-clause-named : goal.returns-then-are_free-clause-named
returns-then-are_free-clause-named g c it = absurd (true≢false (sym c.if-are_free.true ∙ c.are_free.ensures ∙ ap names_are_free c.schema.ensures.value ∙ taken c.args.conn.now.schema it))

pub returns-then-are_free-clause-one_named : goal.returns-then-are_free-clause-one_named
returns-then-are_free-clause-one_named g c is = absurd (true≢false (sym c.if-are_free.true ∙ c.are_free.ensures ∙ ap names_are_free c.schema.ensures.value ∙ earlier_taken c.args.conn.now.schema is))

pub returns-then-are_free-clause-taken : goal.returns-then-are_free-clause-taken
returns-then-are_free-clause-taken g c used = absurd (true≢false (sym c.if-are_free.true ∙ c.are_free.ensures ∙ ap names_are_free c.schema.ensures.value ∙ used))

pub returns-else-are_free-clause-schema : goal.returns-else-are_free-clause-schema
returns-else-are_free-clause-schema g c empty = absurd (true≢false (sym (c.are_free.ensures ∙ ap names_are_free (c.schema.ensures.value ∙ empty)) ∙ c.if-are_free.false))

pub returns-else-are_free-clause-free : goal.returns-else-are_free-clause-free
returns-else-are_free-clause-free g c free = absurd (true≢false (sym (c.are_free.ensures ∙ ap names_are_free c.schema.ensures.value ∙ free) ∙ c.if-are_free.false))

pub returns-then-are_free-clause-no_old_totals : goal.returns-then-are_free-clause-no_old_totals
returns-then-are_free-clause-no_old_totals g c it = absurd (true≢false (sym c.if-are_free.true ∙ c.are_free.ensures ∙ ap names_are_free c.schema.ensures.value ∙ taken c.args.conn.now.schema it))

pub returns-else-are_free-clause-no_old_totals : goal.returns-else-are_free-clause-no_old_totals
returns-else-are_free-clause-no_old_totals g c it clean = c.adopt_taken.ensures.no_old_totals it clean (c.is_autocommit-outside.ensures.settled (c.is_autocommit-outside.ensures.value ∙ ap not c.requires.outside))

pub returns-then-are_free-clause-two_only : goal.returns-then-are_free-clause-two_only
returns-then-are_free-clause-two_only g c is = absurd (true≢false (sym c.if-are_free.true ∙ c.are_free.ensures ∙ ap names_are_free c.schema.ensures.value ∙ second_taken c.args.conn.now.schema is))

pub returns-then-are_free-clause-two_leaves : goal.returns-then-are_free-clause-two_leaves
returns-then-are_free-clause-two_leaves g c is = absurd (true≢false (sym c.if-are_free.true ∙ c.are_free.ensures ∙ ap names_are_free c.schema.ensures.value ∙ second_taken c.args.conn.now.schema is))

pub returns-then-are_free-clause-two_named : goal.returns-then-are_free-clause-two_named
returns-then-are_free-clause-two_named g c is = absurd (true≢false (sym c.if-are_free.true ∙ c.are_free.ensures ∙ ap names_are_free c.schema.ensures.value ∙ second_taken c.args.conn.now.schema is))

pub returns-then-are_free-clause-two_old_totals : goal.returns-then-are_free-clause-two_old_totals
returns-then-are_free-clause-two_old_totals g c is = absurd (true≢false (sym c.if-are_free.true ∙ c.are_free.ensures ∙ ap names_are_free c.schema.ensures.value ∙ second_taken c.args.conn.now.schema is))

pub returns-else-are_free-clause-two_old_totals : goal.returns-else-are_free-clause-two_old_totals
returns-else-are_free-clause-two_old_totals g c is clean = c.adopt_taken.ensures.two_old_totals is clean (c.is_autocommit-outside.ensures.settled (c.is_autocommit-outside.ensures.value ∙ ap not c.requires.outside))

pub returns-then-are_free-clause-one_undone : goal.returns-then-are_free-clause-one_undone
returns-then-are_free-clause-one_undone g c is = absurd (true≢false (sym c.if-are_free.true ∙ c.are_free.ensures ∙ ap names_are_free c.schema.ensures.value ∙ earlier_taken c.args.conn.now.schema is))

pub returns-then-are_free-clause-two_undone : goal.returns-then-are_free-clause-two_undone
returns-then-are_free-clause-two_undone g c is = absurd (true≢false (sym c.if-are_free.true ∙ c.are_free.ensures ∙ ap names_are_free c.schema.ensures.value ∙ second_taken c.args.conn.now.schema is))

pub returns-else-are_free-clause-two_undone : goal.returns-else-are_free-clause-two_undone
returns-else-are_free-clause-two_undone g c is clean = c.adopt_taken.ensures.two_undone is clean (c.is_autocommit-outside.ensures.settled (c.is_autocommit-outside.ensures.value ∙ ap not c.requires.outside))

pub returns-else-are_free-clause-one_undone : goal.returns-else-are_free-clause-one_undone
returns-else-are_free-clause-one_undone g c is clean = c.adopt_taken.ensures.one_undone is clean (c.is_autocommit-outside.ensures.settled (c.is_autocommit-outside.ensures.value ∙ ap not c.requires.outside))
