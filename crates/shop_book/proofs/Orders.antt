-- Codes in order, and the set that they are.
use Rattle.std.proofs.Common.{◌≡◌, ℕ, Bool, true, false, List, [], ◌∷◌, map, refl, sym, ap, subst, ◌∙◌}
use Rattle.std.specs.Prelude.{Option, Some, None, T, ◌&&◌, ◌||◌, cond, is_some}
use Rattle.std.specs.List.{list_all, list_any}
use Rattle.std.specs.Bool.{Decides}
use Rattle.std.specs.Ordering.{is_lt, eq_by_cmp, nat_cmp}
use Rattle.std.specs.Cmp.Lexicographic.{nat_list_cmp_total, pointwise, bytes_decides}
use Rattle.std.specs.Prelude.{nat_eq}
use Rattle.std.specs.FinMap.{FinMap, entries, entries_sorted, from_entries, get-entries, get-from_entries, is_sorted, find}
use Rattle.std.specs.FinMap.Entries.{below_all, is_some-find, find-put, same_entries}
use Rattle.std.specs.FinSet.{contains, insert, items, contains-from_list, contains-insert, contains-items, same_set}
use Rattle.std.proofs.lemmas.Bool.Decides.{Decides-like}
use Rattle.std.proofs.lemmas.Slice.Eq.{slice_eq-Decides}
use Rattle.cut_measure.specs.Codes.{code_cmp}
use Rattle.shop_records.specs.declared.records.Demand.{Demand}
use Rattle.shop_rows.specs.Keys.{codes_exact, demand_key}
use Rattle.shop_rows.specs.Rows.{entries_of, rise, row_at, IsPut, ArePut}
use Rattle.shop_book.specs.Memory.{order_key, orders_in}
use Rattle.shop_book.specs.Orders.{codes_in, is_placed}
use Rattle.shop_book.specs.declared.known_orders.KnownOrder.{KnownOrder}
use Rattle.shop_rows.proofs.Mapped.{all-put-each}
use Rattle.shop_rows.proofs.Places.{tested}

firsts : (codes : List (List ℕ)) → map (λ (e : List ℕ × List ℕ). e.0) (entries_of order_key code_cmp codes) ≡ codes
firsts [] = refl
firsts (c ∷ cs) = ap (λ ds. c ∷ ds) (firsts cs)

-- a code is found exactly where the set has it
pub code_found : (codes : List (List ℕ)) (code : List ℕ) → is_some (row_at order_key code_cmp code codes) ≡ contains (orders_in codes) code
code_found codes code =
    is_some-find code_cmp code (entries_of order_key code_cmp codes) ∙ ap (list_any (eq_by_cmp code_cmp code)) (firsts codes)
    ∙ sym (contains-from_list nat_list_cmp_total codes code)

either : (b : Bool) (x : List ℕ) (o : Option (List ℕ)) → is_some (cond b (Some x) o) ≡ (b || is_some o)
either true x o = refl
either false x o = refl

-- to put a code is to insert it
pub code_put : (code : List ℕ) (old new : List (List ℕ)) → IsPut order_key code_cmp code old new → orders_in new ≡ insert (orders_in old) code
code_put code old new is =
    same_set nat_list_cmp_total codes_exact _ _
    (λ q.
    sym (code_found new q) ∙ ap (λ es. is_some (find code_cmp q es)) is
    ∙ ap is_some (find-put code_cmp nat_list_cmp_total q code code (entries_of order_key code_cmp old))
    ∙ either (eq_by_cmp code_cmp q code) code (row_at order_key code_cmp q old)
    ∙ ap (λ b. eq_by_cmp code_cmp q code || b) (code_found old q)
    ∙ sym (contains-insert nat_list_cmp_total (orders_in old) code q))

no : {A : Type 0} → false ≡ true → A
no e = absurd (subst T (sym e) tt)

-- ---- orders with their numbers

-- where demands that lie with those of their orders are put one after another, all do
pub all_placed : (orders : List KnownOrder) (rows old new : List Demand) → list_all (is_placed orders) rows ≡ true → list_all (is_placed orders) old ≡ true → ArePut demand_key nat_cmp rows old new
    → list_all (is_placed orders) new ≡ true
all_placed orders rows old new own placed are_put = all-put-each (is_placed orders) demand_key nat_cmp rows old new own placed are_put

-- ---- equal sets have equal codes in order

abbrev places : List (List ℕ) → List (List ℕ × Unit {0})
places codes = map (λ c. (c, tt)) codes

keys : (codes : List (List ℕ)) → map (λ (e : List ℕ × Unit {0}). e.0) (places codes) ≡ codes
keys [] = refl
keys (c ∷ cs) = ap (λ ds. c ∷ ds) (keys cs)

below : (c : List ℕ) (codes : List (List ℕ)) → below_all code_cmp c (entries_of order_key code_cmp codes) ≡ below_all code_cmp c (places codes)
below c [] = refl
below c (d ∷ codes) = ap (λ b. is_lt (code_cmp c d) && b) (below c codes)

in_order : (codes : List (List ℕ)) → rise order_key code_cmp codes ≡ is_sorted code_cmp (places codes)
in_order [] = refl
in_order (c ∷ codes) = λ i. below c codes i && in_order codes i

there : (codes : List (List ℕ)) (code : List ℕ) → is_some (find code_cmp code (places codes)) ≡ contains (orders_in codes) code
there codes code =
    is_some-find code_cmp code (places codes) ∙ ap (list_any (eq_by_cmp code_cmp code)) (keys codes) ∙ sym (contains-from_list nat_list_cmp_total codes code)

one_mark : (x y : Option (Unit {0})) → is_some x ≡ is_some y → x ≡ y
one_mark None None e = refl
one_mark None (Some v) e = no e
one_mark (Some u) None e = no (sym e)
one_mark (Some u) (Some v) e = refl

one_list : (xs ys : List (List ℕ)) → rise order_key code_cmp xs ≡ true → rise order_key code_cmp ys ≡ true → orders_in xs ≡ orders_in ys → xs ≡ ys
one_list xs ys up vp e =
    sym (keys xs)
    ∙ ap (map (λ (m : List ℕ × Unit {0}). m.0))
    (same_entries code_cmp nat_list_cmp_total codes_exact (places xs) (places ys) (tested _ (sym (in_order xs) ∙ up)) (tested _ (sym (in_order ys) ∙ vp))
    (λ code. one_mark _ _ (there xs code ∙ ap (λ codes. contains codes code) e ∙ sym (there ys code))))
    ∙ keys ys

pointwise_codes : (xs ys : List KnownOrder) → pointwise (λ (a b : KnownOrder). pointwise nat_eq a.code b.code) xs ys ≡ pointwise (pointwise nat_eq) (codes_in xs) (codes_in ys)
pointwise_codes [] [] = refl
pointwise_codes [] (y ∷ ys) = refl
pointwise_codes (x ∷ xs) [] = refl
pointwise_codes (x ∷ xs) (y ∷ ys) = ap (λ b. pointwise nat_eq x.code y.code && b) (pointwise_codes xs ys)

-- codes in order are equal exactly where the sets are
pub codes_decide : (xs ys : List (List ℕ)) (r : Bool) → r ≡ pointwise (pointwise nat_eq) xs ys → rise order_key code_cmp xs ≡ true → rise order_key code_cmp ys ≡ true
    → Decides r (orders_in xs ≡ orders_in ys)
codes_decide xs ys r is up vp = Decides-like r (ap orders_in) (one_list xs ys up vp) (slice_eq-Decides bytes_decides xs ys r is)

pub orders_decide : (xs ys : List KnownOrder) (r : Bool) → r ≡ pointwise (λ (a b : KnownOrder). pointwise nat_eq a.code b.code) xs ys → rise order_key code_cmp (codes_in xs) ≡ true → rise order_key code_cmp (codes_in ys) ≡ true
    → Decides r (orders_in (codes_in xs) ≡ orders_in (codes_in ys))
orders_decide xs ys r is = codes_decide (codes_in xs) (codes_in ys) r (is ∙ pointwise_codes xs ys)

-- the codes of a set in the order of a map's keys are those that made it
pub items_are : (codes : List (List ℕ)) → rise order_key code_cmp codes ≡ true → map (λ (e : List ℕ × Unit {0}). e.0) (entries (from_entries {R = code_cmp} (places (items (orders_in codes))))) ≡ codes
items_are codes up =
    ap (map (λ (e : List ℕ × Unit {0}). e.0))
    (same_entries code_cmp nat_list_cmp_total codes_exact (entries m) (places codes) (entries_sorted m) (tested _ (sym (in_order codes) ∙ up))
    (λ q.
    one_mark _ _
    (ap is_some (sym (get-entries m q) ∙ get-from_entries nat_list_cmp_total (places its) q) ∙ there its q ∙ contains-from_list nat_list_cmp_total its q
    ∙ sym (contains-items (orders_in codes) q)
    ∙ sym (there codes q))))
    ∙ keys codes
  where
    its : List (List ℕ)
    its = items (orders_in codes)

    m : FinMap code_cmp (Unit {0})
    m = from_entries {R = code_cmp} (places its)
