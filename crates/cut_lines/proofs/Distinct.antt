-- The plans of units, each once, one unit after another.
use Rattle.std.proofs.Common.{◌≡◌, ◌∙◌, ◌+◌, ◌<◌, ℕ, suc, List, [], ◌∷◌, ◌++◌, ap, drop, false, get_or, length, map, sym, true, arith}
use Rattle.std.specs.Prelude.{if◌then◌else◌}
use Rattle.std.specs.List.{list_any}
use Rattle.std.proofs.Math.Seq.{drop-cons}
use Rattle.cut_tree.specs.SamePatterns.{same_pattern}
use Rattle.cut_bound.specs.declared.planned.PlannedUnit.{PlannedUnit}
use Rattle.cut_lines.specs.declared.lines.Line.{Line}
use Rattle.cut_lines.specs.Lines.{PlanLine, distinct, reported}

module _ (f : PlannedUnit → PlanLine) (us rest : List PlannedUnit) (u : PlannedUnit) (is : us ≡ u ∷ rest) where
  -- a plan that comes again stands later
  pub again : list_any (λ v. same_pattern v.plan u.plan) rest ≡ true → map f (distinct us) ≡ map f (distinct rest)
  again more = ap (λ l. map f (distinct l)) is ∙ ap (λ b. map f (if b then distinct rest else u ∷ distinct rest)) more

  pub for_good : list_any (λ v. same_pattern v.plan u.plan) rest ≡ false → map f (distinct us) ≡ f u ∷ map f (distinct rest)
  for_good last = ap (λ l. map f (distinct l)) is ∙ ap (λ b. map f (if b then distinct rest else u ∷ distinct rest)) last

-- the units from one on
pub from_one : (us : List PlannedUnit) (i : ℕ) (u : PlannedUnit) → i < length us → u ≡ get_or us i u → drop i us ≡ u ∷ drop (i + 1) us
from_one us i u within is =
    let after : suc i ≡ i + 1 = omega arith in
    drop-cons us i u within ∙ ap (λ v. v ∷ drop (suc i) us) (sym is) ∙ ap (λ k. u ∷ drop k us) after

-- a line more
pub one_more : (done : List Line) (line : Line) (p : PlanLine) (rest : List PlanLine) → reported line ≡ p
    → map reported (done ++ line ∷ []) ++ rest ≡ map reported done ++ p ∷ rest
one_more [] line p rest is = ap (λ q. q ∷ rest) is
one_more (d ∷ ds) line p rest is = ap (λ ls. reported d ∷ ls) (one_more ds line p rest is)
