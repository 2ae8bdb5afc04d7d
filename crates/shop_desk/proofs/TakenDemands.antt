-- Rows of demands that are reported in turn.
use Rattle.std.proofs.Common.{◌≡◌, ℕ, ◌+◌, ◌<◌, List, [], ◌∷◌, ◌++◌, length, map, take, get_or, sym, ap, ◌∙◌}
use Rattle.std.proofs.lemmas.List.{map-append, take_more}
use Rattle.shop_records.specs.declared.records.Demand.{Demand}
use Rattle.shop_records.specs.declared.records.DemandRow.{DemandRow}
use Rattle.shop_records.specs.Content.{Content}
use Rattle.shop_records.specs.Lists.{demand_row}

-- one more is reported
pub demand_more : (content : Content) (demands : List Demand) (i : ℕ) (demand : Demand) (rows more : List DemandRow) (row : DemandRow) → i < length demands → demand ≡ get_or demands i demand
    → rows ≡ map (demand_row content) (take i demands) → row ≡ demand_row content demand → more ≡ rows ++ row ∷ [] → more ≡ map (demand_row content) (take (i + 1) demands)
demand_more content demands i demand rows more row lt at before one is =
    is ∙ ap (λ rs. rs ++ row ∷ []) before ∙ ap (λ r. map (demand_row content) (take i demands) ++ r ∷ []) one
    ∙ sym (map-append (demand_row content) (take i demands) (demand ∷ []))
    ∙ ap (map (demand_row content)) (ap (λ d. take i demands ++ d ∷ []) at ∙ sym (take_more demands i demand lt))
