use Rattle.std.proofs.Common.{◌≡◌, ◌+◌, inl, inr}
use Rattle.std.specs.Prelude.{◌⊎◌}
use Rattle.std.proofs.lemmas.Bool.{cases_lt}
use Rattle.cut_tree.specs.declared.token.TheConstants.{MAX_CUTS}
use Rattle.cut_tree.proofs.BarTrees.{spent, fits_bar, over_bar, cuts_by_span}
use Rattle.cut_tree.proofs.bars.bar_root.Goals as goal
use Rattle.cut_tree.proofs.bars.bar_root.Goals.{then-span-eq0, else-span-eq0}

pub returns-in_default-clause-fault : goal.returns-in_default-clause-fault
returns-in_default-clause-fault c = over_bar c.args.pieces.now c.args.length c.args.kerf (elim (cases_lt (c.args.length + c.args.kerf) (spent c.args.kerf c.args.pieces.now)) [ inl l ↦ l | inr l ↦ absurd (c.in_default.ensures l) ])

pub returns-then-pieces-most-clause-fault : goal.returns-then-pieces-most-clause-fault
returns-then-pieces-most-clause-fault c =
    let limit : ((c.in-Some.span ≡ 0) × (c.if-span-eq0.most ≡ 256)) ⊎ ((c.in-Some.span ≡ 0 → ⊥) × (c.if-span-eq0.most ≡ MAX_CUTS)) =
    elim c.if-span-eq0.branch [ then-span-eq0 w ↦ inl (w.if-span-eq0.true, w.most-is) | else-span-eq0 w ↦ inr (w.if-span-eq0.false, w.most-is) ] in (
      fits_bar c.args.pieces.now c.args.length c.args.kerf c.in-Some.ensures.0,
      (cuts_by_span c.args.pieces.now c.args.length c.args.kerf c.in-Some.span c.if-span-eq0.most c.requires.some (λ i d l. (c.requires.pieces i d l).2) c.in-Some.ensures.0 c.in-Some.ensures.1 limit).1
          c.if-pieces-most.true,
    )

pub returns-in-Ok-clause-fits : goal.returns-in-Ok-clause-fits
returns-in-Ok-clause-fits c = fits_bar c.args.pieces.now c.args.length c.args.kerf c.in-Some.ensures.0

pub returns-in-Ok-clause-few_cuts : goal.returns-in-Ok-clause-few_cuts
returns-in-Ok-clause-few_cuts c =
    let limit : ((c.in-Some.span ≡ 0) × (c.if-span-eq0.most ≡ 256)) ⊎ ((c.in-Some.span ≡ 0 → ⊥) × (c.if-span-eq0.most ≡ MAX_CUTS)) =
    elim c.if-span-eq0.branch [ then-span-eq0 w ↦ inl (w.if-span-eq0.true, w.most-is) | else-span-eq0 w ↦ inr (w.if-span-eq0.false, w.most-is) ] in
    (cuts_by_span c.args.pieces.now c.args.length c.args.kerf c.in-Some.span c.if-span-eq0.most c.requires.some (λ i d l. (c.requires.pieces i d l).2) c.in-Some.ensures.0 c.in-Some.ensures.1 limit).0
    c.if-pieces-most.false

pub returns-in-Err-clause-fault : goal.returns-in-Err-clause-fault
returns-in-Err-clause-fault c = fits_bar c.args.pieces.now c.args.length c.args.kerf c.in-Some.ensures.0
