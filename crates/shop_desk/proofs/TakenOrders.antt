-- Rows of orders that are reported in turn.
use Rattle.std.proofs.Common.{◌≡◌, ℕ, ◌+◌, ◌<◌, List, [], ◌∷◌, ◌++◌, length, take, get_or, sym, ap, subst, ◌∙◌}
use Rattle.std.proofs.lemmas.List.{take_more}
use Rattle.shop_records.specs.declared.records.OrderRow.{OrderRow}
use Rattle.shop_records.specs.Content.{Content}
use Rattle.shop_answers.specs.Listing.{IsOrderRow, AreOrderRows}
use Rattle.shop_answers.proofs.OrdersReply.{reported_more}

-- one more is reported
pub order_more : (content : Content) (orders : List (List ℕ)) (i : ℕ) (order : List ℕ) (rows more : List OrderRow) (row : OrderRow) → i < length orders → order ≡ get_or orders i order
    → AreOrderRows content (take i orders) rows → IsOrderRow content order row → more ≡ rows ++ row ∷ [] → AreOrderRows content (take (i + 1) orders) more
order_more content orders i order rows more row lt at before one is =
    let next : take (i + 1) orders ≡ take i orders ++ order ∷ [] = take_more orders i order lt ∙ ap (λ o. take i orders ++ o ∷ []) (sym at) in
    subst (AreOrderRows content (take (i + 1) orders)) (sym is)
    (subst (λ os. AreOrderRows content os (rows ++ row ∷ [])) (sym next) (reported_more content (take i orders) rows order row before one))
