-- Each order of a content is in the list of all orders.
use Rattle.std.proofs.Common.{◌≡◌, ◌<◌, ℕ, zero, suc, Bool, true, false, List, [], ◌∷◌, filter, length, take, refl, sym, ap, subst, ◌∙◌, arith, inl, inr}
use Rattle.std.specs.Prelude.{None, ◌||◌, is_some}
use Rattle.std.specs.List.{list_any}
use Rattle.std.specs.Ordering.{eq_by_cmp}
use Rattle.std.specs.FinMap.{contains_key-keys, from_entries, get-from_entries}
use Rattle.std.specs.FinMap.Entries.{is_some-find}
use Rattle.std.specs.FinSet.{contains-items, items}
use Rattle.cut_measure.specs.Codes.{code_cmp}
use Rattle.shop_records.specs.Content.{Content, has_order}
use Rattle.shop_records.specs.Elements.{IsIn}
use Rattle.shop_records.specs.Lists.{order_codes, orders_after}
use Rattle.shop_records.proofs.Basics.{codes_same, codes_total}
use Rattle.shop_records.proofs.OrderCodes.{codes_of_marked, marked}
use Rattle.shop_audit.proofs.Within.{equal_of}

any_in : (code : List ℕ) (codes : List (List ℕ)) → list_any (eq_by_cmp code_cmp code) codes ≡ true → IsIn code codes
any_in code [] any = absurd (cc any)
any_in code (c ∷ codes) any = by (eq_by_cmp code_cmp code c) refl any (any_in code codes)
  where
    by : (b : Bool) → eq_by_cmp code_cmp code c ≡ b → (b || list_any (eq_by_cmp code_cmp code) codes) ≡ true → (list_any (eq_by_cmp code_cmp code) codes ≡ true → IsIn code codes) → IsIn code (c ∷ codes)
    by true tie more rest = inl (codes_same code c (equal_of (code_cmp code c) tie))
    by false tie more rest = inr (rest more)

all_of : (codes : List (List ℕ)) → filter (λ _. true) codes ≡ codes
all_of [] = refl
all_of (c ∷ codes) = ap (λ l. c ∷ l) (all_of codes)

pub order_in : (content : Content) (code : List ℕ) → has_order content code ≡ true → IsIn code (orders_after content None)
order_in content code is =
    subst (IsIn code) (sym (all_of (order_codes content)))
    (any_in code (order_codes content)
    (sym (contains_key-keys (from_entries {R = code_cmp} (marked (items content.orders))) code)
    ∙ ap is_some (get-from_entries codes_total (marked (items content.orders)) code) ∙ is_some-find code_cmp code (marked (items content.orders))
    ∙ ap (list_any (eq_by_cmp code_cmp code)) (codes_of_marked (items content.orders)) ∙ sym (contains-items content.orders code) ∙ is))

-- a list of which less was taken than could be was taken whole
pub short : {X : Type 0} (n : ℕ) (xs : List X) → length (take n xs) < n → take n xs ≡ xs
short zero xs few = absurd (omega (arith, few))
short (suc n) [] few = refl
short (suc n) (x ∷ xs) few = ap (λ l. x ∷ l) (short n xs (omega (arith, few)))
