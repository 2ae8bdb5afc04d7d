use Rattle.std.proofs.Common.{◌+◌, ◌≤◌, get_or, map, slice_index, arith}
use Rattle.std.proofs.lemmas.List.{get_or_default}
use Rattle.std.proofs.lemmas.List.Elements.{Contains-get_or}
use Rattle.cut_classes.specs.declared.pairs.Pair.{Pair}
use Rattle.cut_classes.proofs.Loops.{each_all, each_next}
use Rattle.cut_classes.proofs.row.best_sum.Goals as goal

pub raised_by-best-requires-clause-inside : goal.raised_by-best-requires-clause-inside
raised_by-best-requires-clause-inside g c = c.requires.inside _ (Contains-get_or c.args.pairs.now c.loop-pair.pair-index _ (omega arith))

pub raised_by-best-requires-clause-fits : goal.raised_by-best-requires-clause-fits
raised_by-best-requires-clause-fits g c = c.requires.fits _ (Contains-get_or c.args.pairs.now c.loop-pair.pair-index _ (omega arith))

pub loop-pair-preserved : goal.loop-pair-preserved
loop-pair-preserved g c =
    let f = g.T.Number.value in
    let r = map f c.args.row.now in
    let none : Pair = record { first = 0; second = 0 } in
    let p = get_or c.args.pairs.now c.loop-pair.pair-index none in (
      omega (arith, c.loop-pair.invariant.0, c.raised_by-best.ensures),
      each_next (λ (q : Pair). slice_index r q.first + slice_index r q.second ≤ f c.loop-pair.best) (λ (q : Pair). slice_index r q.first + slice_index r q.second ≤ f c.raised_by-best.result) c.args.pairs.now
          c.loop-pair.pair-index p (omega arith) (get_or_default c.args.pairs.now c.loop-pair.pair-index none p (omega arith)) (λ q le. omega (arith, le, c.raised_by-best.ensures)) c.loop-pair.invariant.1
          (omega (arith, c.raised_by-best.ensures)),
      λ bound le all.
          let before = c.loop-pair.invariant.2 bound le all in
          let here = all p (Contains-get_or c.args.pairs.now c.loop-pair.pair-index none (omega arith)) in
          omega (arith, before, here, c.raised_by-best.ensures),
    )

pub returns-clause-most : goal.returns-clause-most
returns-clause-most g c =
    let f = g.T.Number.value in
    let r = map f c.args.row.now in
    each_all (λ (q : Pair). slice_index r q.first + slice_index r q.second ≤ f c.loop-pair.best) c.args.pairs.now c.loop-pair.pair-index (omega arith) c.loop-pair.invariant.1
