use Rattle.std.proofs.Common.{◌∙◌, true≢false, sym, ap}
use Rattle.shop_tables.specs.Adopting.{names_are_tables, names_are_earlier, names_are_second}
use Rattle.shop_statements.proofs.Reading.{leaves_itself}
use Rattle.shop_tables.proofs.Taken.{stand, earlier_names_alone, earlier_stand, not_earlier, not_second, second_stand, second_not_earlier}
use Rattle.shop_tables.proofs.adopting.adopt_taken.Goals as goal

pub returns-then-are_earlier-clause-neither : goal.returns-then-are_earlier-clause-neither
returns-then-are_earlier-clause-neither g c is clean b was = absurd (true≢false (sym c.if-are_earlier.true ∙ c.are_earlier.ensures ∙ ap names_are_earlier c.schema.ensures.value ∙ not_earlier c.args.conn.now.schema was.shows.schema))

pub returns-then-are_earlier-clause-one : goal.returns-then-are_earlier-clause-one
returns-then-are_earlier-clause-one g c is it = absurd (true≢false (sym c.if-are_earlier.true ∙ c.are_earlier.ensures ∙ ap names_are_earlier c.schema.ensures.value ∙ not_earlier c.args.conn.now.schema it))

pub returns-then-not-are_tables-clause-neither : goal.returns-then-not-are_tables-clause-neither
returns-then-not-are_tables-clause-neither g c is clean b was = absurd (true≢false (sym (c.are_tables.ensures ∙ ap names_are_tables c.schema-3.ensures.value ∙ stand c.args.conn.now.schema was.shows.schema) ∙ c.if-not-are_tables.true))

pub returns-then-not-are_tables-clause-one_neither : goal.returns-then-not-are_tables-clause-one_neither
returns-then-not-are_tables-clause-one_neither g c is clean b was = absurd (true≢false (sym (c.are_earlier.ensures ∙ ap names_are_earlier c.schema.ensures.value ∙ earlier_stand c.args.conn.now.schema was.shows.schema) ∙ c.if-are_earlier.false))

pub returns-clause-one_only : goal.returns-clause-one_only
returns-clause-one_only g c is = absurd (true≢false (sym (c.are_earlier.ensures ∙ ap names_are_earlier c.schema.ensures.value ∙ earlier_stand c.args.conn.now.schema is) ∙ c.if-are_earlier.false))

pub returns-clause-one_neither : goal.returns-clause-one_neither
returns-clause-one_neither g c is clean b was = absurd (true≢false (sym (c.are_earlier.ensures ∙ ap names_are_earlier c.schema.ensures.value ∙ earlier_stand c.args.conn.now.schema was.shows.schema) ∙ c.if-are_earlier.false))

pub returns-then-not-are_tables-clause-leaves : goal.returns-then-not-are_tables-clause-leaves
returns-then-not-are_tables-clause-leaves g c = leaves_itself _

pub returns-then-are_earlier-clause-named : goal.returns-then-are_earlier-clause-named
returns-then-are_earlier-clause-named g c it = absurd (true≢false (sym c.if-are_earlier.true ∙ c.are_earlier.ensures ∙ ap names_are_earlier c.schema.ensures.value ∙ not_earlier c.args.conn.now.schema it))

pub returns-clause-one_named : goal.returns-clause-one_named
returns-clause-one_named g c is = absurd (true≢false (sym (c.are_earlier.ensures ∙ ap names_are_earlier c.schema.ensures.value ∙ earlier_stand c.args.conn.now.schema is) ∙ c.if-are_earlier.false))

pub returns-then-are_earlier-clause-no_old_totals : goal.returns-then-are_earlier-clause-no_old_totals
returns-then-are_earlier-clause-no_old_totals g c it = absurd (true≢false (sym c.if-are_earlier.true ∙ c.are_earlier.ensures ∙ ap names_are_earlier c.schema.ensures.value ∙ not_earlier c.args.conn.now.schema it))

pub returns-clause-earlier_names : goal.returns-clause-earlier_names
returns-clause-earlier_names g c is = absurd (true≢false (sym (c.are_earlier.ensures ∙ ap names_are_earlier c.schema.ensures.value ∙ is) ∙ c.if-are_earlier.false))

pub returns-then-are_earlier-clause-two_only : goal.returns-then-are_earlier-clause-two_only
returns-then-are_earlier-clause-two_only g c is = absurd (true≢false (sym c.if-are_earlier.true ∙ c.are_earlier.ensures ∙ ap names_are_earlier c.schema.ensures.value ∙ second_not_earlier c.args.conn.now.schema is))

pub returns-then-are_earlier-clause-two_neither : goal.returns-then-are_earlier-clause-two_neither
returns-then-are_earlier-clause-two_neither g c is clean b was = absurd (true≢false (sym c.if-are_earlier.true ∙ c.are_earlier.ensures ∙ ap names_are_earlier c.schema.ensures.value ∙ second_not_earlier c.args.conn.now.schema was.shows.schema))

pub returns-then-are_earlier-clause-two_named : goal.returns-then-are_earlier-clause-two_named
returns-then-are_earlier-clause-two_named g c is = absurd (true≢false (sym c.if-are_earlier.true ∙ c.are_earlier.ensures ∙ ap names_are_earlier c.schema.ensures.value ∙ second_not_earlier c.args.conn.now.schema is))

pub returns-then-are_earlier-clause-two_old_totals : goal.returns-then-are_earlier-clause-two_old_totals
returns-then-are_earlier-clause-two_old_totals g c is = absurd (true≢false (sym c.if-are_earlier.true ∙ c.are_earlier.ensures ∙ ap names_are_earlier c.schema.ensures.value ∙ second_not_earlier c.args.conn.now.schema is))

pub returns-then-are_second-clause-neither : goal.returns-then-are_second-clause-neither
returns-then-are_second-clause-neither g c is clean b was = absurd (true≢false (sym c.if-are_second.true ∙ c.are_second.ensures ∙ ap names_are_second c.schema-2.ensures.value ∙ not_second c.args.conn.now.schema was.shows.schema))

pub returns-then-are_second-clause-named : goal.returns-then-are_second-clause-named
returns-then-are_second-clause-named g c it = absurd (true≢false (sym c.if-are_second.true ∙ c.are_second.ensures ∙ ap names_are_second c.schema-2.ensures.value ∙ not_second c.args.conn.now.schema it))

pub returns-then-are_second-clause-no_old_totals : goal.returns-then-are_second-clause-no_old_totals
returns-then-are_second-clause-no_old_totals g c it = absurd (true≢false (sym c.if-are_second.true ∙ c.are_second.ensures ∙ ap names_are_second c.schema-2.ensures.value ∙ not_second c.args.conn.now.schema it))

pub returns-then-are_second-clause-two : goal.returns-then-are_second-clause-two
returns-then-are_second-clause-two g c is it = absurd (true≢false (sym c.if-are_second.true ∙ c.are_second.ensures ∙ ap names_are_second c.schema-2.ensures.value ∙ not_second c.args.conn.now.schema it))

pub returns-then-are_second-clause-one_only : goal.returns-then-are_second-clause-one_only
returns-then-are_second-clause-one_only g c is = absurd (true≢false (sym (c.are_earlier.ensures ∙ ap names_are_earlier c.schema.ensures.value ∙ earlier_stand c.args.conn.now.schema is) ∙ c.if-are_earlier.false))

pub returns-then-are_second-clause-one_neither : goal.returns-then-are_second-clause-one_neither
returns-then-are_second-clause-one_neither g c is clean b was = absurd (true≢false (sym (c.are_earlier.ensures ∙ ap names_are_earlier c.schema.ensures.value ∙ earlier_stand c.args.conn.now.schema was.shows.schema) ∙ c.if-are_earlier.false))

pub returns-then-are_second-clause-one_named : goal.returns-then-are_second-clause-one_named
returns-then-are_second-clause-one_named g c is = absurd (true≢false (sym (c.are_earlier.ensures ∙ ap names_are_earlier c.schema.ensures.value ∙ earlier_stand c.args.conn.now.schema is) ∙ c.if-are_earlier.false))

pub returns-then-are_second-clause-earlier_names : goal.returns-then-are_second-clause-earlier_names
returns-then-are_second-clause-earlier_names g c is = absurd (true≢false (sym (c.are_earlier.ensures ∙ ap names_are_earlier c.schema.ensures.value ∙ is) ∙ c.if-are_earlier.false))

pub returns-then-not-are_tables-clause-two_neither : goal.returns-then-not-are_tables-clause-two_neither
returns-then-not-are_tables-clause-two_neither g c is clean b was = absurd (true≢false (sym (c.are_second.ensures ∙ ap names_are_second c.schema-2.ensures.value ∙ second_stand c.args.conn.now.schema was.shows.schema) ∙ c.if-are_second.false))

pub returns-clause-two_only : goal.returns-clause-two_only
returns-clause-two_only g c is = absurd (true≢false (sym (c.are_second.ensures ∙ ap names_are_second c.schema-2.ensures.value ∙ second_stand c.args.conn.now.schema is) ∙ c.if-are_second.false))

pub returns-clause-two_neither : goal.returns-clause-two_neither
returns-clause-two_neither g c is clean b was = absurd (true≢false (sym (c.are_second.ensures ∙ ap names_are_second c.schema-2.ensures.value ∙ second_stand c.args.conn.now.schema was.shows.schema) ∙ c.if-are_second.false))

pub returns-clause-two_named : goal.returns-clause-two_named
returns-clause-two_named g c is = absurd (true≢false (sym (c.are_second.ensures ∙ ap names_are_second c.schema-2.ensures.value ∙ second_stand c.args.conn.now.schema is) ∙ c.if-are_second.false))

pub returns-clause-two_old_totals : goal.returns-clause-two_old_totals
returns-clause-two_old_totals g c is = absurd (true≢false (sym (c.are_second.ensures ∙ ap names_are_second c.schema-2.ensures.value ∙ second_stand c.args.conn.now.schema is) ∙ c.if-are_second.false))

pub returns-clause-second_names : goal.returns-clause-second_names
returns-clause-second_names g c is = absurd (true≢false (sym (c.are_second.ensures ∙ ap names_are_second c.schema-2.ensures.value ∙ is) ∙ c.if-are_second.false))

pub returns-then-are_second-clause-two_neither : goal.returns-then-are_second-clause-two_neither
returns-then-are_second-clause-two_neither g c is clean b was = c.adopt_second.ensures.neither is clean b (λ clean up. was)

pub returns-then-are_earlier-clause-second_names : goal.returns-then-are_earlier-clause-second_names
returns-then-are_earlier-clause-second_names g c second = absurd (true≢false (sym second ∙ earlier_names_alone c.args.conn.now.schema (sym (c.are_earlier.ensures ∙ ap names_are_earlier c.schema.ensures.value) ∙ c.if-are_earlier.true)))

pub returns-then-are_earlier-clause-two_undone : goal.returns-then-are_earlier-clause-two_undone
returns-then-are_earlier-clause-two_undone g c is = absurd (true≢false (sym c.if-are_earlier.true ∙ c.are_earlier.ensures ∙ ap names_are_earlier c.schema.ensures.value ∙ second_not_earlier c.args.conn.now.schema is))

pub returns-then-are_second-clause-one_undone : goal.returns-then-are_second-clause-one_undone
returns-then-are_second-clause-one_undone g c is = absurd (true≢false (sym (c.are_earlier.ensures ∙ ap names_are_earlier c.schema.ensures.value ∙ earlier_stand c.args.conn.now.schema is) ∙ c.if-are_earlier.false))

pub returns-clause-one_undone : goal.returns-clause-one_undone
returns-clause-one_undone g c is = absurd (true≢false (sym (c.are_earlier.ensures ∙ ap names_are_earlier c.schema.ensures.value ∙ earlier_stand c.args.conn.now.schema is) ∙ c.if-are_earlier.false))

pub returns-clause-two_undone : goal.returns-clause-two_undone
returns-clause-two_undone g c is = absurd (true≢false (sym (c.are_second.ensures ∙ ap names_are_second c.schema-2.ensures.value ∙ second_stand c.args.conn.now.schema is) ∙ c.if-are_second.false))

pub returns-then-are_earlier-clause-one_neither : goal.returns-then-are_earlier-clause-one_neither
returns-then-are_earlier-clause-one_neither g c is clean b was = c.adopt_first.ensures.neither is clean b (λ clean up. was)
