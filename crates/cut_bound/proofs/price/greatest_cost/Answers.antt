use Rattle.std.proofs.Common.{◌+◌, sym, refl, subst, arith}
use Rattle.std.proofs.lemmas.Bool.{false≢true}
use Rattle.cut_bound.specs.declared.stock.BoundedSize.{BoundedSize}
use Rattle.cut_bound.specs.Bounds.{SetsPrice, cost_at}
use Rattle.cut_bound.proofs.GreatestCosts.{IsGreatestSoFar, greatest_next, greatest_same, greatest_all}
use Rattle.cut_bound.proofs.price.greatest_cost.Goals as goal
use Rattle.cut_bound.proofs.price.greatest_cost.Goals.{then-sets_price, else-sets_price}

pub loop-by-preserved : goal.loop-by-preserved
loop-by-preserved c =
    let P = λ (t : BoundedSize). SetsPrice t c.args.bounded.now in
    let f = λ (t : BoundedSize). cost_at t c.args.bounded.now c.args.worth in
    elim c.if-sets_price.branch [
      | then-sets_price w ↦
          greatest_next P f c.args.bounded.now c.loop-by.by-index c.loop-by.greatest c.if-sets_price.greatest c.by-item.result (omega arith) c.by-item.is (w.if-sets_price.ensures.0 refl) (omega arith)
          c.loop-by.invariant
      | else-sets_price w ↦
          subst (IsGreatestSoFar P f c.args.bounded.now (c.loop-by.by-index + 1)) (sym w.greatest-is)
          (greatest_same P f c.args.bounded.now c.loop-by.by-index c.loop-by.greatest c.by-item.result (omega arith) c.by-item.is (λ sets. false≢true (w.if-sets_price.ensures.1 sets)) c.loop-by.invariant)
    ]

pub returns : goal.returns
returns c =
    greatest_all (λ (t : BoundedSize). SetsPrice t c.args.bounded.now) (λ (t : BoundedSize). cost_at t c.args.bounded.now c.args.worth) c.args.bounded.now c.loop-by.by-index c.loop-by.greatest (omega arith)
    c.loop-by.invariant
