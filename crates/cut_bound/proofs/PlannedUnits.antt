-- What planned units add up to, and that they are units of a solution.
use Rattle.std.proofs.Common.{◌≡◌, ℕ, ◌+◌, ◌*◌, ◌<◌, ◌≤◌, List, [], ◌∷◌, length, take, take_all, get_or, replicate, refl, ap, sym, ◌∙◌, arith}
use Rattle.std.specs.Prelude.{All, sum_by}
use Rattle.std.proofs.lemmas.List.Elements.{All-append, All-head, All-nil, All-replicate, All-tail}
use Rattle.std.proofs.lemmas.List.Folds.{sum_by-replicate}
use Rattle.std.proofs.lemmas.List.Sums.{sum_by-append, sum_by-cons, sum_by_more, sum_by-take-le}
use Rattle.cut_wants.specs.declared.wants.Want.{Want}
use Rattle.cut_bound.specs.declared.stock.StockSize.{StockSize}
use Rattle.cut_bound.specs.declared.planned.PlannedUnit.{PlannedUnit}
use Rattle.cut_bound.specs.Solutions.{CutUnit, IsCutUnit}
use Rattle.cut_bound.specs.Planned.{IsPlannedUnit, solution_of, one_of}

-- f of each of the units, added up
abbrev pub planned_sum : (CutUnit → ℕ) → List PlannedUnit → ℕ
planned_sum f units = sum_by (λ u. u.times * f (one_of u)) units

pub planned_all : (f : CutUnit → ℕ) (us : List PlannedUnit) → sum_by f (solution_of us) ≡ planned_sum f us
planned_all f [] = refl
planned_all f (u ∷ us) =
    omega (
      arith,
      sum_by-append f (replicate u.times (one_of u)) (solution_of us),
      sum_by-replicate f u.times (one_of u),
      planned_all f us,
      sum_by-cons (λ (v : PlannedUnit). v.times * f (one_of v)) u us,
    )

-- the next of them
pub planned_next : (f : CutUnit → ℕ) (us : List PlannedUnit) (i : ℕ) (u : PlannedUnit) → i < length us → u ≡ get_or us i u
    → planned_sum f (take (i + 1) us) ≡ planned_sum f (take i us) + u.times * f (one_of u)
planned_next f us i u lt is =
    sum_by_more (λ (v : PlannedUnit). v.times * f (one_of v)) us i u lt
    ∙ ap (λ (v : PlannedUnit). planned_sum f (take i us) + v.times * f (one_of v)) (sym is)

-- the first of them are no more than all
pub planned_first : (f : CutUnit → ℕ) (us : List PlannedUnit) (i : ℕ) → planned_sum f (take i us) ≤ planned_sum f us
planned_first f us i = sum_by-take-le (λ (v : PlannedUnit). v.times * f (one_of v)) us i

-- units that have a plan for their size are units of a solution
pub are_cut : (wants : List Want) (k : ℕ) (sizes : List StockSize) (us : List PlannedUnit) → All (IsPlannedUnit wants k sizes) us → All (IsCutUnit wants k sizes) (solution_of us)
are_cut wants k sizes [] all = All-nil (IsCutUnit wants k sizes)
are_cut wants k sizes (u ∷ us) all =
    let is = All-head (IsPlannedUnit wants k sizes) u us all in
    let cut : IsCutUnit wants k sizes (one_of u) = record { stock = is.stock; there = is.there; legal = is.planned.legal } in
    All-append (IsCutUnit wants k sizes) (replicate u.times (one_of u)) (solution_of us) (All-replicate (IsCutUnit wants k sizes) u.times (one_of u) cut)
    (are_cut wants k sizes us (All-tail (IsPlannedUnit wants k sizes) u us all))

-- all of them
pub planned_done : (f : CutUnit → ℕ) (us : List PlannedUnit) (i : ℕ) → length us ≤ i → planned_sum f (take i us) ≡ sum_by f (solution_of us)
planned_done f us i all = ap (planned_sum f) (take_all i us all) ∙ sym (planned_all f us)

-- what is over a limit with the next of them is so with all
pub planned_over : (f : CutUnit → ℕ) (us : List PlannedUnit) (i most : ℕ) (u : PlannedUnit) → i < length us → u ≡ get_or us i u → most ≤ planned_sum f (take i us) + u.times * f (one_of u)
    → most ≤ sum_by f (solution_of us)
planned_over f us i most u lt is over = omega (arith, planned_next f us i u lt is, planned_first f us (i + 1), planned_all f us)
