-- Units that are received one after another.
use Rattle.std.proofs.Common.{◌≡◌, ℕ, ◌+◌, List, [], ◌∷◌, ◌++◌, map, ap, ◌∙◌, add-one}
use Rattle.std.proofs.lemmas.List.{map-append}
use Rattle.cut_measure.specs.Measures.{Size, below}
use Rattle.shop_machine.specs.Receiving.{unit_part, unit_parts}

pub below_more : (n : ℕ) → below (n + 1) ≡ below n ++ n ∷ []
below_more n = ap below (add-one n)

pub unit_parts_more : (material batch : List ℕ) (size : Size) (act n : ℕ)
    → unit_parts material batch size act (n + 1) ≡ unit_parts material batch size act n ++ unit_part material batch size act n ∷ []
unit_parts_more material batch size act n = ap (map (unit_part material batch size act)) (below_more n) ∙ map-append (unit_part material batch size act) (below n) (n ∷ [])
