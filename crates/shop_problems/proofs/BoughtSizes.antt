-- The stock of some sizes is one that a search takes.
use Rattle.std.proofs.Common.{◌≡◌, ◌≤◌, Bool, List, [], ◌∷◌, arith, length, refl, subst, sym}
use Rattle.std.specs.Prelude.{◌==◌, All, None, unwrap_or}
use Rattle.std.proofs.lemmas.List.{length-map}
use Rattle.std.proofs.lemmas.List.Elements.{All-map}
use Rattle.std.proofs.lemmas.List.Sums.{sum_by-cons}
use Rattle.cut_measure.specs.Measures.{Size}
use Rattle.cut_measure.specs.declared.sizes.Kind.{Kind}
use Rattle.cut_measure.specs.declared.sizes.Kind.TheVariants.{Bar}
use Rattle.cut_bound.specs.declared.limits.TheConstants.{MAX_BOUGHT_SIZES}
use Rattle.cut_bound.specs.declared.stock.StockSize.{StockSize}
use Rattle.cut_order.specs.declared.instance.TheConstants.{MAX_COST}
use Rattle.cut_order.specs.Stocks.{IsStock, parts_of}
use Rattle.shop_problems.specs.Stock.{cost_of, stock_at, stock_of}

-- no unit is at hand
none_at_hand : (single : Bool) (sizes : List Size) → parts_of (stock_at single sizes) ≡ 0
none_at_hand single [] = refl
none_at_hand single (size ∷ sizes) =
    let first : StockSize = record { size = size; cost = cost_of size single; limit = None } in
    omega (arith, sum_by-cons (λ (s : StockSize). unwrap_or s.limit 0) first (stock_at single sizes), none_at_hand single sizes)

pub is_stock : (kind : Kind) (sizes : List Size) (stock : List StockSize) → stock ≡ stock_of sizes → length sizes ≤ MAX_BOUGHT_SIZES
    → All (λ (s : StockSize). s.cost ≤ MAX_COST) stock → (kind ≡ Bar → All (λ (size : Size). size.h ≡ 1) sizes) → IsStock kind stock
is_stock kind sizes stock is few cheap flat =
    let single = length sizes == 1 in
    let of_size : Size → StockSize = λ size. record { size = size; cost = cost_of size single; limit = None } in
    let number : length (stock_of sizes) ≡ length sizes = length-map sizes of_size in
    subst (IsStock kind) (sym is)
    (record {
      few = omega (arith, few, number);
      at_hand = omega (arith, none_at_hand single sizes);
      cheap = subst (All (λ (s : StockSize). s.cost ≤ MAX_COST)) is cheap;
      flat = λ bar. All-map (λ (s : StockSize). s.size.h ≡ 1) of_size sizes (flat bar);
    })
