use Rattle.std.proofs.Common.{Bool, false, true, map, sym, arith}
use Rattle.cut_wants.specs.declared.wants.Want.{Want}
use Rattle.cut_wants.proofs.NumberRows.{same_length}
use Rattle.cut_classes.specs.Grids.{across_of, down_of}
use Rattle.cut_classes.specs.Filling.{IsOffered, IsRaised}
use Rattle.cut_classes.proofs.FilledRows.{below_offered, both_ways, offered_still}
use Rattle.cut_classes.proofs.Loops.{each_all, each_next}
use Rattle.cut_classes.proofs.row.offer_wants.Goals as goal

pub offer_upright-requires-clause-worth : goal.offer_upright-requires-clause-worth
offer_upright-requires-clause-worth g c = c.requires.worths c.want-item.result (c.loop-want.want-index, omega arith, sym c.want-item.is)

pub offer_turned-requires-clause-worth : goal.offer_turned-requires-clause-worth
offer_turned-requires-clause-worth g c = c.requires.worths c.want-item.result (c.loop-want.want-index, omega arith, sym c.want-item.is)

pub loop-want-preserved : goal.loop-want-preserved
loop-want-preserved g c =
    let f = g.T.Number.value in
    let x = c.want-item.result in
    let xs = down_of c.args.grid.now in
    let ys = across_of c.args.grid.now in
    let old = map f c.loop-want.row in
    let mid = map f c.offer_upright.new.row in
    let new = map f c.offer_turned.new.row in
    let raised : IsRaised old new = λ p. omega (arith, c.offer_upright.ensures.kept p, c.offer_turned.ensures.kept p) in (
      each_next (λ (y : Want). (turned : Bool) → IsOffered xs ys c.args.kerf y turned old c.args.class) (λ (y : Want). (turned : Bool) → IsOffered xs ys c.args.kerf y turned new c.args.class)
          c.args.wants.now c.loop-want.want-index x (omega arith) c.want-item.is (λ y is turned. offered_still xs ys c.args.kerf y turned old new c.args.class raised (is turned))
          c.loop-want.invariant.0
          (both_ways xs ys c.args.kerf x new c.args.class (offered_still xs ys c.args.kerf x false mid new c.args.class c.offer_turned.ensures.kept c.offer_upright.ensures.offered) c.offer_turned.ensures.offered),
      below_offered c.args.wants.now xs ys c.args.kerf x true c.args.class mid new (c.loop-want.want-index, omega arith, sym c.want-item.is) c.requires.class c.offer_turned.ensures
          (below_offered c.args.wants.now xs ys c.args.kerf x false c.args.class old mid (c.loop-want.want-index, omega arith, sym c.want-item.is) c.requires.class c.offer_upright.ensures c.loop-want.invariant.1),
    )

pub returns : goal.returns
returns g c =
    let f = g.T.Number.value in
    let xs = down_of c.args.grid.now in
    let ys = across_of c.args.grid.now in
    let all = each_all (λ (y : Want). (turned : Bool) → IsOffered xs ys c.args.kerf y turned (map f c.loop-want.row) c.args.class) c.args.wants.now c.loop-want.want-index (omega arith) c.loop-want.invariant.0 in
    record { len = omega (arith, same_length f c.loop-want.row, c.requires.len); offered = λ x turned has. all x has turned; below = c.loop-want.invariant.1 }
