-- The largest rest of units, as far as a loop has come.
use Rattle.std.proofs.Common.{◌≡◌, ◌⊎◌, ℕ, ◌+◌, ◌<◌, ◌≤◌, List, length, take, take_all, get_or, sym, subst, inl, inr, arith}
use Rattle.std.specs.Prelude.{All, Any, max}
use Rattle.std.proofs.lemmas.Bool.{cases_lt}
use Rattle.std.proofs.lemmas.List.Elements.{All-more, All-weaker}
use Rattle.cut_measure.specs.Measures.{CutParams}
use Rattle.cut_bound.specs.declared.planned.PlannedUnit.{PlannedUnit}
use Rattle.shop_planning.specs.Rests.{HasRestWithin, IsLargestRest, IsRestOf}

pub record IsLargestSoFar (params : CutParams) (units : List PlannedUnit) (i cells : ℕ) : Type 0 where
  pub each : All (HasRestWithin params cells) (take i units)
  pub some : (cells ≡ 0) ⊎ Any (λ u. IsRestOf params u.plan cells) units

pub largest_next : (params : CutParams) (units : List PlannedUnit) (i old new rest : ℕ) (u : PlannedUnit) → i < length units → u ≡ get_or units i u → IsRestOf params u.plan rest → new ≡ max rest old
    → IsLargestSoFar params units i old → IsLargestSoFar params units (i + 1) new
largest_next params units i old new rest u lt is own greater g =
    record {
      each = All-more (HasRestWithin params new) units i u lt
          (All-weaker (HasRestWithin params old) (HasRestWithin params new) (λ v w. record { own = w.own; is = w.is; within = omega (arith, w.within, greater) }) (take i units) g.each)
          (subst (HasRestWithin params new) is (record { own = rest; is = own; within = omega (arith, greater) }));
      some = elim (cases_lt old rest) [
        | inl more ↦
            let same : rest ≡ new = omega (arith, more, greater) in
            inr (i, u, lt, sym is, subst (IsRestOf params u.plan) same own)
        | inr less ↦
            let same : old ≡ new = omega (arith, less, greater) in
            subst (λ n. (n ≡ 0) ⊎ Any (λ v. IsRestOf params v.plan n) units) same g.some
      ];
    }

pub largest_all : (params : CutParams) (units : List PlannedUnit) (i cells : ℕ) → length units ≤ i → IsLargestSoFar params units i cells → IsLargestRest params units cells
largest_all params units i cells all g = record {
  each = subst (λ (us : List PlannedUnit). All (HasRestWithin params cells) us) (take_all i units all) g.each;
  some = g.some;
}
