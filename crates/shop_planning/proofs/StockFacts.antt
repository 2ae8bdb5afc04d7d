-- The sizes of a stock are ones that a search takes.
use Rattle.std.proofs.Common.{◌≡◌, ◌∙◌, ℕ, ◌+◌, ◌*◌, ◌<◌, ◌≤◌, List, [], ◌∷◌, ◌++◌, Bool, true, false, refl, ap, sym, append_assoc, drop, get_or, length, map, arith, Option, Some, None}
use Rattle.std.specs.Prelude.{All, filter_map, if◌then◌else◌, option_map, sum_by, unwrap_or}
use Rattle.std.specs.Bool.{Decides}
use Rattle.std.specs.Cmp.{unsigned_Decides}
use Rattle.std.proofs.lemmas.Bool.Decides.{Decides-and, Decides-like}
use Rattle.cut_measure.specs.Measures.{Size, is_size}
use Rattle.std.specs.List.{cons_option}
use Rattle.std.proofs.lemmas.List.{drop_more, length-append, length-map}
use Rattle.std.proofs.lemmas.List.Elements.{All-map, All-weaker}
use Rattle.std.proofs.lemmas.List.Sums.{sum_by-append, sum_by-cons}
use Rattle.cut_measure.specs.declared.sizes.Kind.{Kind}
use Rattle.cut_bound.specs.declared.stock.StockSize.{StockSize}
use Rattle.cut_bound.specs.declared.limits.TheConstants.{MAX_BOUGHT_SIZES, MAX_PARTS}
use Rattle.cut_order.specs.declared.instance.TheConstants.{MAX_COST}
use Rattle.cut_order.specs.Stocks.{IsStock, parts_of}
use Rattle.shop_plans.specs.declared.limits.TheConstants.{UNIT_COST}
use Rattle.shop_plans.specs.declared.queries.BuySize.{BuySize}
use Rattle.shop_planning.specs.declared.instance.StockPart.{StockPart}
use Rattle.shop_planning.specs.Stock.{IsStockPart, IsStockSize, are_alike, bought_size, firsts, part_size, part_sizes, sizes_of}
use Rattle.shop_planning.proofs.Firsts.{all_firsts, few_firsts}
use Rattle.shop_planning.proofs.Grouped.{IsLikeness, like_keys, whole}

-- parts are alike whose sides and costs are the same
pub likeness : IsLikeness are_alike
likeness = like_keys are_alike (λ p. ((p.size.w, p.size.h), p.cost)) same_keys
  where
    same_keys : (a b : StockPart) → Decides (are_alike a b) (let k : (ℕ × ℕ) × ℕ = ((a.size.w, a.size.h), a.cost) in k ≡ ((b.size.w, b.size.h), b.cost))
    same_keys a b =
        Decides-like _ (λ e i. ((e.0.0 i, e.0.1 i), e.1 i)) (λ e. ((ap (λ k. k.0.0) e, ap (λ k. k.0.1) e), ap (λ k. k.1) e))
        (Decides-and _ _ (Decides-and _ _ (unsigned_Decides a.size.w b.size.w) (unsigned_Decides a.size.h b.size.h)) (unsigned_Decides a.cost b.cost))

pub mapped_sum : {A B : Type 0} (f : B → ℕ) (g : A → B) (xs : List A) → sum_by f (map g xs) ≡ sum_by (λ x. f (g x)) xs
mapped_sum f g [] = refl
mapped_sum f g (x ∷ xs) = omega (arith, sum_by-cons f (g x) (map g xs), sum_by-cons (λ y. f (g y)) x xs, mapped_sum f g xs)

ones : {A : Type 0} (xs : List A) → sum_by (λ _. 1) xs ≡ length xs
ones [] = refl
ones (x ∷ xs) = omega (arith, sum_by-cons (λ _. 1) x xs, ones xs)

-- as many units are at hand as there are parts
parts_at_hand : (parts : List StockPart) → parts_of (part_sizes parts) ≡ length parts
parts_at_hand parts =
    mapped_sum (λ (s : StockSize). unwrap_or s.limit 0) (part_size parts) (firsts are_alike [] parts) ∙ whole are_alike likeness (λ _. 1) parts ∙ ones parts

-- sizes that may be bought have no limit
none_at_hand : (kind : Kind) (buy : List BuySize) → parts_of (filter_map (bought_size kind) buy) ≡ 0
none_at_hand kind [] = refl
none_at_hand kind (b ∷ bs) = by (is_size kind b.w b.h) (none_at_hand kind bs)
  where
    by : (t : Bool) → parts_of (filter_map (bought_size kind) bs) ≡ 0
        → parts_of (cons_option (option_map (λ (size : Size). let s : StockSize = record { size = size; cost = size.w * size.h * UNIT_COST; limit = None } in s) (if t then Some (record { w = b.w; h = b.h }) else None)) (filter_map (bought_size kind) bs)) ≡ 0
    by true more =
        omega (
          arith,
          sum_by-cons (λ (s : StockSize). unwrap_or s.limit 0) (record { size = record { w = b.w; h = b.h }; cost = b.w * b.h * UNIT_COST; limit = None }) (filter_map (bought_size kind) bs),
          more,
        )
    by false more = more

few_bought : (kind : Kind) (buy : List BuySize) → length (filter_map (bought_size kind) buy) ≤ length buy
few_bought kind [] = omega arith
few_bought kind (b ∷ bs) = by (bought_size kind b) (few_bought kind bs)
  where
    by : (o : Option StockSize) → length (filter_map (bought_size kind) bs) ≤ length bs → length (cons_option o (filter_map (bought_size kind) bs)) ≤ length (b ∷ bs)
    by None few = omega (arith, few)
    by (Some s) few = omega (arith, few)

pub all_sizes : (kind : Kind) (parts : List StockPart) → All (IsStockPart kind) parts → All (IsStockSize kind) (part_sizes parts)
all_sizes kind parts all =
    All-map (IsStockSize kind) (part_size parts) (firsts are_alike [] parts)
    (All-weaker (IsStockPart kind) (λ p. IsStockSize kind (part_size parts p)) (λ p is. record { cheap = is.cheap; flat = is.flat }) (firsts are_alike [] parts) (all_firsts are_alike (IsStockPart kind) [] parts all))

pub is_stock : (kind : Kind) (parts : List StockPart) (buy : List BuySize) (sizes : List StockSize) → length parts ≤ MAX_PARTS → length buy ≤ MAX_BOUGHT_SIZES
    → sizes ≡ sizes_of kind parts buy → All (IsStockSize kind) sizes → IsStock kind sizes
is_stock kind parts buy sizes few_parts few_buy is all =
    record {
      few = omega (
        arith,
        ap length is,
        length-append (part_sizes parts) (filter_map (bought_size kind) buy),
        length-map (firsts are_alike [] parts) (part_size parts),
        few_firsts are_alike [] parts,
        few_bought kind buy,
        few_parts,
        few_buy,
      );
      at_hand = omega (
        arith,
        ap parts_of is,
        sum_by-append (λ (s : StockSize). unwrap_or s.limit 0) (part_sizes parts) (filter_map (bought_size kind) buy),
        parts_at_hand parts,
        none_at_hand kind buy,
        few_parts,
      );
      cheap = All-weaker (IsStockSize kind) (λ s. s.cost ≤ MAX_COST) (λ s x. x.cheap) sizes all;
      flat = λ bar. All-weaker (IsStockSize kind) (λ s. s.size.h ≡ 1) (λ s x. x.flat bar) sizes all;
    }

-- ---- sizes that may be bought, one after another

module _ {A B : Type 0} (f : A → Option B) (xs : List A) (i : ℕ) (d : A) (within : i < length xs) where
  at : filter_map f (drop i xs) ≡ cons_option (f (get_or xs i d)) (filter_map f (drop (i + 1) xs))
  at = ap (filter_map f) (drop_more xs i d within)

  pub some_next : (y : B) (list all : List B) → Some y ≡ f (get_or xs i d) → list ++ filter_map f (drop i xs) ≡ all → (list ++ y ∷ []) ++ filter_map f (drop (i + 1) xs) ≡ all
  some_next y list all is so =
      append_assoc list (y ∷ []) (filter_map f (drop (i + 1) xs)) ∙ ap (λ o. list ++ cons_option o (filter_map f (drop (i + 1) xs))) is ∙ ap (λ l. list ++ l) (sym at) ∙ so

  pub none_next : (list all : List B) → None ≡ f (get_or xs i d) → list ++ filter_map f (drop i xs) ≡ all → list ++ filter_map f (drop (i + 1) xs) ≡ all
  none_next list all is so = ap (λ o. list ++ cons_option o (filter_map f (drop (i + 1) xs))) is ∙ ap (λ l. list ++ l) (sym at) ∙ so
