use Rattle.std.proofs.Common.{inr, refl, arith}
use Rattle.cut_measure.specs.declared.sizes.Kind.TheVariants.{Bar}
use Rattle.cut_plan.proofs.BarPieces.{bar_pieces, is_proposal, too_many, not_long}
use Rattle.cut_plan.proofs.Faultless as facts
use Rattle.cut_plan.proofs.bars.proposal_of.Goals as goal

pub bar_plan-requires-clause-pieces : goal.bar_plan-requires-clause-pieces
bar_plan-requires-clause-pieces c =
    rw c.deref.ensures.value (bar_pieces c.args.wants.now c.requires.best.counts c.args.best.now.pieces.items c.requires.best.list c.requires.demands c.requires.best.some)

pub unreachable-requires : goal.unreachable-requires
unreachable-requires c =
    let long = rw (c.in-Err-TooLong.field-0-is, c.deref.ensures.value) at c.in-Err-TooLong.ensures.fault in
    omega (arith, long, not_long c.args.size c.args.kerf c.args.wants.now c.args.best.now c.requires.best)

pub returns-in-Ok-clause-ok : goal.returns-in-Ok-clause-ok
returns-in-Ok-clause-ok c =
    let f = facts.faultless Bar c.args.size c.args.kerf 0 c.args.wants.now c.requires.faultless in
    is_proposal c.args.size c.args.kerf c.args.wants.now c.args.best.now c.in-Ok.plan (facts.own _ Bar c.args.wants.now f.in_range) (facts.flat _ c.args.wants.now f.in_range)
    c.requires.flat c.requires.best (rw c.deref.ensures.value at c.in-Ok.ensures.tree) c.in-Ok.ensures.unit

pub returns-in-Err-TooManyCuts-clause-err : goal.returns-in-Err-TooManyCuts-clause-err
returns-in-Err-TooManyCuts-clause-err c =
    let f = facts.faultless Bar c.args.size c.args.kerf 0 c.args.wants.now c.requires.faultless in
    let fault = rw (c.in-Err-TooManyCuts.field-0-is, c.deref.ensures.value) at c.in-Err-TooManyCuts.ensures.fault in
    inr (
      refl,
      too_many c.args.size c.args.kerf c.args.wants.now c.args.best.now (facts.own _ Bar c.args.wants.now f.in_range) (facts.flat _ c.args.wants.now f.in_range)
          c.requires.flat c.requires.best fault.1,
    )
