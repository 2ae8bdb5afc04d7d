-- The owner before the end of a job is the owner by the effects before that end.
use Rattle.std.proofs.Common.{◌≡◌, ℕ, List, [], ◌∷◌, ◌++◌, Bool, true, false, ap, ◌∙◌}
use Rattle.std.specs.Prelude.{not, if◌then◌else◌}
use Rattle.std.specs.List.{list_all}
use Rattle.std.proofs.lemmas.Bool.{and_parts, eq-eqb}
use Rattle.std.specs.Prelude.{refl}
use Rattle.cut_measure.specs.Names.{Name}
use Rattle.cut_tree.specs.Cells.{Outcome}
use Rattle.shop_machine.specs.Machine.{Effect, Ends}
use Rattle.shop_machine.specs.History.{ends_job, owner_of, owner_before}

not_true : (b : Bool) → not b ≡ true → b ≡ false
not_true true e = cc
not_true false e = refl

pub before_end : (job : ℕ) (outcome : ℕ → Outcome) (later earlier : List Effect) (unit : Name) (x y : ℕ) → list_all (λ done. not (ends_job job done)) later ≡ true
    → owner_before (later ++ Ends job outcome ∷ earlier) job unit x y ≡ owner_of earlier unit x y
before_end job outcome [] earlier unit x y none =
    ap (λ b. if b then owner_of earlier unit x y else owner_before earlier job unit x y) (eq-eqb job job refl)
before_end job outcome (done ∷ later) earlier unit x y none =
    let both = and_parts (not (ends_job job done)) (list_all (λ done. not (ends_job job done)) later) none in
    ap (λ b. if b then owner_of (later ++ Ends job outcome ∷ earlier) unit x y else owner_before (later ++ Ends job outcome ∷ earlier) job unit x y) (not_true (ends_job job done) both.0)
    ∙ before_end job outcome later earlier unit x y both.1
