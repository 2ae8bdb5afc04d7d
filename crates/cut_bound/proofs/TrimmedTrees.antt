-- Of each legal tree a legal one of which only pieces within given counts are kept: the others become rests.
use Rattle.std.proofs.Common.{◌≡◌, ℕ, ◌-◌, ◌≤◌, cond, eqb, List, [], ◌∷◌, refl, ap, inl, inr, arith}
use Rattle.std.specs.Prelude.{Contains, min}
use Rattle.std.proofs.lemmas.Bool.{cases_lt}
use Rattle.std.proofs.lemmas.Bool.Decides.{eqb_tells}
use Rattle.std.proofs.lemmas.Nat.{mul-le}
use Rattle.std.proofs.Math.Nat.{le_refl}
use Rattle.cut_measure.specs.declared.sizes.Axis.TheVariants.{X, Y}
use Rattle.cut_measure.specs.Measures.{Size}
use Rattle.cut_tree.specs.Tree.{Tree, Rest, Piece, Trim, Cut, count_of}
use Rattle.cut_wants.specs.declared.wants.Want.{Want}
use Rattle.cut_wants.specs.Legal.{Legal, of_demand, HaveOwnDemands}
use Rattle.cut_wants.proofs.LeafSums.{Contains-head, Contains-tail, weigh, weigh-count}
use Rattle.cut_bound.specs.Bounds.{IsMost}

-- a legal tree within the counts `left`, with the pieces of t as far as they go
pub record IsTrimmed (wants : List Want) (k w h : ℕ) (left : ℕ → ℕ) (t : Tree) : Type 0 where
  pub tree : Tree
  pub legal : Legal wants k tree w h
  pub few : (d : ℕ) → count_of tree d ≤ left d
  pub enough : (d : ℕ) → min (count_of t d) (left d) ≤ count_of tree d

-- a piece stays where one is left
trimmed_piece : (wants : List Want) (k w h : ℕ) (left : ℕ → ℕ) (t : Tree) (e : ℕ) → Legal wants k t w h
    → ((d : ℕ) → count_of t d ≡ cond (eqb e d) 1 0) → IsTrimmed wants k w h left t
trimmed_piece wants k w h left t e l one =
    elim (cases_lt 0 (left e)) [
      | inl some ↦ record {
        tree = t;
        legal = l;
        few = λ d. elim (eqb_tells e d) [
          | inl (test, same) ↦ omega (arith, rw test at (one d), ap left same)
          | inr (test, other) ↦ omega (arith, rw test at (one d))
        ];
        enough = λ d. omega arith;
      }
      | inr none ↦ record {
        tree = Rest;
        legal = tt;
        few = λ d. omega arith;
        enough = λ d. elim (eqb_tells e d) [
          | inl (test, same) ↦ omega (arith, ap left same)
          | inr (test, other) ↦ omega (arith, rw test at (one d))
        ];
      }
    ]

pub trimmed : (wants : List Want) (k : ℕ) (t : Tree) (w h : ℕ) (left : ℕ → ℕ) → Legal wants k t w h → IsTrimmed wants k w h left t
trimmed wants k Rest w h left l = record { tree = Rest; legal = tt; few = λ d. omega arith; enough = λ d. omega arith }
trimmed wants k (Piece e b) w h left l = trimmed_piece wants k w h left (Piece e b) e l (λ d. refl)
trimmed wants k (Trim X a t) w h left l =
    let r = trimmed wants k t a h left l.3 in
    record { tree = Trim X a r.tree; legal = (l.0, l.1, l.2, r.legal); few = r.few; enough = r.enough }
trimmed wants k (Trim Y a t) w h left l =
    let r = trimmed wants k t w a left l.3 in
    record { tree = Trim Y a r.tree; legal = (l.0, l.1, l.2, r.legal); few = r.few; enough = r.enough }
trimmed wants k (Cut X a t u) w h left l =
    let r = trimmed wants k t a h left l.2 in
    let q = trimmed wants k u (w - a - k) h (λ d. left d - count_of r.tree d) l.3 in
    record {
      tree = Cut X a r.tree q.tree;
      legal = (l.0, l.1, r.legal, q.legal);
      few = λ d. omega (arith, r.few d, q.few d);
      enough = λ d. omega (arith, r.enough d, q.enough d, r.few d);
    }
trimmed wants k (Cut Y a t u) w h left l =
    let r = trimmed wants k t w a left l.2 in
    let q = trimmed wants k u w (h - a - k) (λ d. left d - count_of r.tree d) l.3 in
    record {
      tree = Cut Y a r.tree q.tree;
      legal = (l.0, l.1, r.legal, q.legal);
      few = λ d. omega (arith, r.few d, q.few d);
      enough = λ d. omega (arith, r.enough d, q.enough d, r.few d);
    }

pub weigh-le : (f : Want → ℕ) (g h : ℕ → ℕ) (xs : List Want) → ((x : Want) → Contains xs x → g x.demand ≤ h x.demand) → weigh f g xs ≤ weigh f h xs
weigh-le f g h [] each = omega arith
weigh-le f g h (x ∷ xs) each =
    omega (
      arith,
      mul-le (f x) (g x.demand) (f x) (h x.demand) (le_refl (f x)) (each x (Contains-head x xs)),
      weigh-le f g h xs (λ y has. each y (Contains-tail x xs y has)),
    )

-- the pieces of a legal tree, of each want as many as are left, are worth at most what the best tree within the counts is
pub trimmed_worth : (wants : List Want) (k : ℕ) (size : Size) (best : ℕ) (t : Tree) → HaveOwnDemands wants → IsMost wants k size best → Legal wants k t size.w size.h
    → weigh (λ x. x.worth) (λ d. min (count_of t d) (of_demand (λ x. x.left) wants d)) wants ≤ best
trimmed_worth wants k size best t own most l =
    let left : ℕ → ℕ = of_demand (λ x. x.left) wants in
    let r = trimmed wants k t size.w size.h left l in
    omega (
      arith,
      weigh-le (λ x. x.worth) (λ d. min (count_of t d) (left d)) (count_of r.tree) wants (λ x has. r.enough x.demand),
      weigh-count (λ x. x.worth) wants r.tree own,
      most r.tree r.legal r.few,
    )
