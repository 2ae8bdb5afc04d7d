use Rattle.std.proofs.Common.{◌≡◌, ◌+◌, ◌<◌, ◌≤◌, length, get_or, sym, subst, arith}
use Rattle.std.proofs.lemmas.List.{get_or_default}
use Rattle.cut_bars.specs.declared.reach.Entry.{Entry}
use Rattle.cut_bound.proofs.GreatestCosts.{IsGreatestSoFar, greatest_next, greatest_same, greatest_all}
use Rattle.cut_bound.proofs.unit_bounds.best_within.Goals as goal
use Rattle.cut_bound.proofs.unit_bounds.best_within.Goals.{then-entry-span, else-entry-span}

pub loop-entry-preserved : goal.loop-entry-preserved
loop-entry-preserved c =
    let P = λ (e : Entry). e.span ≤ c.args.span in
    let f = λ (e : Entry). e.worth in
    let lt : c.loop-entry.entry-index < length c.args.entries.now = omega arith in
    let entry = get_or c.args.entries.now c.loop-entry.entry-index (record { span = 0; worth = 0 }) in
    let is : entry ≡ get_or c.args.entries.now c.loop-entry.entry-index entry = get_or_default c.args.entries.now c.loop-entry.entry-index (record { span = 0; worth = 0 }) entry lt in
    elim c.if-entry-span.branch [
      | then-entry-span w ↦
          greatest_next P f c.args.entries.now c.loop-entry.entry-index c.loop-entry.best c.if-entry-span.best entry lt is w.if-entry-span.true (omega arith)
          c.loop-entry.invariant
      | else-entry-span w ↦
          subst (IsGreatestSoFar P f c.args.entries.now (c.loop-entry.entry-index + 1)) (sym w.best-is)
          (greatest_same P f c.args.entries.now c.loop-entry.entry-index c.loop-entry.best entry lt is (λ fits. omega (arith, w.if-entry-span.false, fits)) c.loop-entry.invariant)
    ]

pub returns : goal.returns
returns c = greatest_all (λ (e : Entry). e.span ≤ c.args.span) (λ (e : Entry). e.worth) c.args.entries.now c.loop-entry.entry-index c.loop-entry.best (omega arith) c.loop-entry.invariant
