use Rattle.std.proofs.Common.{map, take_all, subst, arith}
use Rattle.std.specs.Prelude.{Contains, ◌↔◌}
use Rattle.cut_bars.specs.declared.reach.Entry.{Entry}
use Rattle.cut_bars.specs.Levels.{HasCell}
use Rattle.std.proofs.lemmas.Grind.{common_steps}
use Rattle.std.proofs.lemmas.List.Elements.{Contains-get_or}
use Rattle.cut_bars.proofs.JoinedEntries.{low_at, none, taken_in}
use Rattle.cut_bars.proofs.RaisedCells.{number_put, zeros_none}
use Rattle.cut_bars.proofs.cells.table_of.Goals as goal

pub loop-entry-init : goal.loop-entry-init
loop-entry-init g c = (
  omega (arith, c.in_ok-cells.ensures.len),
  λ e. (λ has. absurd (zeros_none (map g.T.Number.value c.in_ok-cells.cells.items) e c.in_ok-cells.ensures.zeros has), λ (i, lt, is). absurd (omega arith)),
)

pub overflow_add-entry : goal.overflow_add-entry
overflow_add-entry g c =
    let low = low_at c.args.whole c.args.entries.now c.loop-entry.entry-index c.requires.low (omega arith) in
    omega (arith, low.0, low.1)

pub of-requires : goal.of-requires
of-requires g c = omega (arith, c.requires.below _ (Contains-get_or c.args.entries.now c.loop-entry.entry-index none (omega arith)))

pub index_mut-requires : goal.index_mut-requires
index_mut-requires g c =
    let low = low_at c.args.whole c.args.entries.now c.loop-entry.entry-index c.requires.low (omega arith) in
    omega (arith, low.0, c.loop-entry.invariant.0)

pub loop-entry-preserved : goal.loop-entry-preserved
loop-entry-preserved g c =
    let f = g.T.Number.value in
    let low = low_at c.args.whole c.args.entries.now c.loop-entry.entry-index c.requires.low (omega arith) in (
      grind (arith, common_steps),
      taken_in c.args.entries.now c.loop-entry.entry-index none c.requires.rising (omega arith) (HasCell (map f c.loop-entry.cells.items)) _ c.loop-entry.invariant.1
          (λ e. number_put f c.loop-entry.cells.items _ e c.of.result (omega (arith, low.0, c.loop-entry.invariant.0)) (omega (arith, c.of.ensures))),
    )

pub returns-clause-same : goal.returns-clause-same
returns-clause-same g c =
    subst (λ entries. (e : Entry) → HasCell (map g.T.Number.value c.loop-entry.cells.items) e ↔ Contains entries e) (take_all c.loop-entry.entry-index c.args.entries.now (omega arith))
    c.loop-entry.invariant.1
