use Rattle.std.proofs.Common.{map}
use Rattle.cut_bars.specs.Levels.{Has, HasCell}
use Rattle.cut_bars.proofs.DividedSpans.{division_same}
use Rattle.cut_bars.proofs.divide.divide.Goals as goal

pub divide_lists-requires-clause-small_prefix : goal.divide_lists-requires-clause-small_prefix
divide_lists-requires-clause-small_prefix g c = (g.T.Number.limit, rw c.deref.ensures.value (rw c.in-Listed-Listed.is-0 at c.requires.small_prefix))

pub divide_lists-requires-clause-small_back : goal.divide_lists-requires-clause-small_back
divide_lists-requires-clause-small_back g c = (g.T.Number.limit, rw c.deref-in-Listed-Listed.ensures.value (rw c.in-Listed-Listed.is-1 at c.requires.small_back))

pub returns-in-Listed-Listed : goal.returns-in-Listed-Listed
returns-in-Listed-Listed g c =
    rw (c.in-Listed-Listed.is-0, c.in-Listed-Listed.is-1) (rw c.deref-in-Listed-Listed.ensures.value at (rw c.deref.ensures.value at c.divide_lists.ensures))

pub returns : goal.returns
returns g c =
    let f = g.T.Number.value in
    division_same c.args.whole c.divide_tables.result (HasCell (map f c.in_ok-prefix.prefix.items)) (Has f c.args.prefix) (HasCell (map f c.in_ok-back.back.items)) (Has f c.args.back)
    (rw c.deref-3.ensures.value at (rw c.deref-2.ensures.value at c.divide_tables.ensures)) c.in_ok-prefix.ensures.same c.in_ok-back.ensures.same
