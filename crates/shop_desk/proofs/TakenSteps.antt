-- Rows of a plan's nodes that are reported in turn.
use Rattle.std.proofs.Common.{◌≡◌, ℕ, ◌+◌, ◌<◌, List, [], ◌∷◌, ◌++◌, length, map, take, get_or, sym, ap, ◌∙◌}
use Rattle.std.proofs.lemmas.List.{map-append, take_more}
use Rattle.cut_tree.specs.declared.steps.Step.{Step}
use Rattle.shop_records.specs.declared.pieces.StepRow.{StepRow}
use Rattle.shop_records.specs.Content.{Content}
use Rattle.shop_records.specs.Lists.{step_row}

-- one more is reported
pub step_more : (content : Content) (job : ℕ) (steps : List Step) (i : ℕ) (other : Step) (rows more : List StepRow) (row : StepRow) → i < length steps
    → rows ≡ map (step_row content job) (take i steps) → row ≡ step_row content job (get_or steps i other) → more ≡ rows ++ row ∷ [] → more ≡ map (step_row content job) (take (i + 1) steps)
step_more content job steps i other rows more row lt before one is =
    is ∙ ap (λ rs. rs ++ row ∷ []) before ∙ ap (λ r. map (step_row content job) (take i steps) ++ r ∷ []) one
    ∙ sym (map-append (step_row content job) (take i steps) (get_or steps i other ∷ []))
    ∙ ap (map (step_row content job)) (sym (take_more steps i other lt))
