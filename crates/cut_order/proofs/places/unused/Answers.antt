use Rattle.std.proofs.Common.{ℕ, ◌+◌, ◌<◌, ◌≤◌, Option, Some, sym, subst, inl, inr, arith}
use Rattle.std.specs.Prelude.{IfSome}
use Rattle.std.proofs.lemmas.Bool.{cases_lt}
use Rattle.cut_bound.specs.declared.limits.TheConstants.{MAX_ORDER_UNITS}
use Rattle.cut_order.proofs.places.unused.Goals as goal

pub returns-in-Some-clause-all : goal.returns-in-Some-clause-all
returns-in-Some-clause-all c =
    elim (cases_lt c.min.result MAX_ORDER_UNITS) [
      | inl less ↦
          let reached : c.in-Some.limit ≤ c.args.used + c.min.result = omega (arith, c.min.ensures, c.saturating_sub.ensures, less) in
          let never : (IfSome (Some c.in-Some.limit) (λ n. c.args.used + c.min.result < n) → ⊥) = λ unused. absurd (omega (arith, reached, unused)) in
          inr (subst (λ (o : Option ℕ). IfSome o (λ n. c.args.used + c.min.result < n) → ⊥) (sym c.in-Some.is) never)
      | inr all ↦ inl (omega (arith, all, c.min.ensures))
    ]
