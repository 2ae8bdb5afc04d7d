use Rattle.std.proofs.Common.{◌≡◌, ℕ, ◌+◌, ◌<◌, ◌≤◌, get_or, length, map, max, slice_index, arith}
use Rattle.std.proofs.lemmas.List.{get_or_default}
use Rattle.std.proofs.lemmas.List.Elements.{Contains-get_or}
use Rattle.cut_wants.proofs.NumberRows.{same_length}
use Rattle.cut_classes.specs.declared.pairs.Pair.{Pair}
use Rattle.cut_classes.specs.Classes.{count}
use Rattle.cut_classes.specs.Grids.{across_of, down_of}
use Rattle.cut_classes.specs.Filling.{rows_of, worth_at}
use Rattle.cut_classes.proofs.FilledRows.{over_sums, stacked_row, sum_below}
use Rattle.cut_classes.proofs.Loops.{each_all, each_next}
use Rattle.cut_classes.proofs.RaisedRows.{count_rows}
use Rattle.cut_classes.proofs.row.stack_all.Goals as goal

pub stack_pair-requires-clause-inside : goal.stack_pair-requires-clause-inside
stack_pair-requires-clause-inside g c = c.requires.pairs.inside _ (Contains-get_or c.args.pairs.now c.loop-pair.pair-index _ (omega arith))

pub stack_pair-requires-clause-wide : goal.stack_pair-requires-clause-wide
stack_pair-requires-clause-wide g c = λ j lt.
    let f = g.T.Number.value in
    let len = count_rows f c.args.rows.now in
    omega (arith, (c.requires.rows j (omega (arith, len, lt))).pieces.len, c.loop-pair.invariant.0.len, same_length f c.loop-pair.row)

pub stack_pair-requires-clause-fits : goal.stack_pair-requires-clause-fits
stack_pair-requires-clause-fits g c = λ i lt.
    let f = g.T.Number.value in
    let has = Contains-get_or c.args.pairs.now c.loop-pair.pair-index (record { first = 0; second = 0 }) (omega arith) in
    let inside = c.requires.pairs.inside _ has in
    sum_below g.T.Number.limit c.args.wants.now c.args.kerf (down_of c.args.grid.now) (across_of c.args.grid.now) (rows_of f c.args.rows.now) (length c.args.rows.now) _ _ (count_rows f c.args.rows.now)
    c.requires.fits c.requires.rows c.requires.class inside.0 inside.1 (c.requires.pairs.parts _ has) i (omega (arith, lt, c.loop-pair.invariant.0.len, same_length f c.loop-pair.row))

pub loop-pair-preserved : goal.loop-pair-preserved
loop-pair-preserved g c =
    let f = g.T.Number.value in
    let xs = down_of c.args.grid.now in
    let ys = across_of c.args.grid.now in
    let rows = rows_of f c.args.rows.now in
    let none : Pair = record { first = 0; second = 0 } in
    let p = get_or c.args.pairs.now c.loop-pair.pair-index none in
    let has = Contains-get_or c.args.pairs.now c.loop-pair.pair-index none (omega arith) in
    let inside = c.requires.pairs.inside p has in
    let old = same_length f c.loop-pair.row in
    let new = same_length f c.stack_pair.new.row in
    let raised : (i : ℕ) → i < count xs → slice_index (map f c.stack_pair.new.row) i ≡ max (slice_index (map f c.loop-pair.row) i) (worth_at rows i p.first + worth_at rows i p.second) =
    λ i il. c.stack_pair.ensures i (omega (arith, il, c.loop-pair.invariant.0.len, old)) in (
      stacked_row c.args.wants.now c.args.kerf xs ys rows (length c.args.rows.now) p.first p.second (map f c.loop-pair.row) (map f c.stack_pair.new.row) (count_rows f c.args.rows.now) c.requires.rows c.requires.class
          inside.0 inside.1 (c.requires.pairs.parts p has) (omega (arith, c.loop-pair.invariant.0.len, old, new)) raised c.loop-pair.invariant.0,
      each_next (λ (q : Pair). (i : ℕ) → i < count xs → worth_at rows i q.first + worth_at rows i q.second ≤ slice_index (map f c.loop-pair.row) i)
          (λ (q : Pair). (i : ℕ) → i < count xs → worth_at rows i q.first + worth_at rows i q.second ≤ slice_index (map f c.stack_pair.new.row) i) c.args.pairs.now c.loop-pair.pair-index p (omega arith)
          (get_or_default c.args.pairs.now c.loop-pair.pair-index none p (omega arith)) (λ q le i il. omega (arith, le i il, raised i il)) c.loop-pair.invariant.1 (λ i il. omega (arith, raised i il)),
    )

pub returns-clause-sums : goal.returns-clause-sums
returns-clause-sums g c =
    let f = g.T.Number.value in
    let xs = down_of c.args.grid.now in
    let rows = rows_of f c.args.rows.now in
    over_sums c.args.wants.now c.args.kerf xs (across_of c.args.grid.now) rows (length c.args.rows.now) c.args.pairs.now (map f c.loop-pair.row) (count_rows f c.args.rows.now) c.requires.usable.across
    c.requires.rows c.requires.class c.requires.pairs
    (each_all (λ (q : Pair). (i : ℕ) → i < count xs → worth_at rows i q.first + worth_at rows i q.second ≤ slice_index (map f c.loop-pair.row) i) c.args.pairs.now c.loop-pair.pair-index (omega arith)
    c.loop-pair.invariant.1)
