-- The lines of an order among the demands of a book.
use Rattle.std.proofs.Common.{◌≡◌, inl, inr, ℕ, Bool, true, false, List, [], ◌∷◌, cond, get_or, refl, sym, ap, ◌∙◌, true≢false}
use Rattle.std.specs.Prelude.{Option, Some, None, IfSome, filter}
use Rattle.std.specs.List.{list_all}
use Rattle.std.specs.declared.cmp.Ordering.TheVariants.{Less}
use Rattle.std.specs.Ordering.{nat_cmp}
use Rattle.std.specs.Cmp.{nat_cmp_total, ranked}
use Rattle.std.specs.FinMap.{get, nat_cmp-IsAntisymmetric}
use Rattle.shop_records.specs.Content.{Content, demand_at}
use Rattle.shop_records.specs.Elements.{IsIn}
use Rattle.shop_records.specs.Lists.{AreLines}
use Rattle.shop_records.specs.WellFormed.{AreDifferent}
use Rattle.shop_records.specs.declared.records.Demand.{Demand}
use Rattle.shop_records.proofs.Basics.{at_in}
use Rattle.shop_rows.specs.Keys.{demand_key}
use Rattle.shop_rows.specs.Lines.{is_within, line_key, AreByLine, HaveLines}
use Rattle.shop_rows.specs.Rows.{map_of, rise, row_at}
use Rattle.shop_rows.proofs.ByLine.{found_in, in_filter, in_found}
use Rattle.shop_rows.proofs.Places.{rising_at, tested}
use Rattle.shop_rows.proofs.Summed.{both}
use Rattle.shop_book.specs.Orders.{is_among, is_placed, order_at}
use Rattle.shop_book.specs.declared.known_orders.KnownOrder.{KnownOrder}
use Rattle.shop_book.specs.Stories.{is_of_order}
use Rattle.shop_book.proofs.Filed.{one_code}
use Rattle.shop_book.proofs.Held.{get-rows}

-- ---- rows among which all of an order lie

pub passes : {X : Type 0} (p : X → Bool) (xs : List X) (x : X) → list_all p xs ≡ true → IsIn x xs → p x ≡ true
passes p [] x all i = absurd i
passes p (y ∷ ys) x all (inl e) = ap p e ∙ (both (p y) (list_all p ys) all).0
passes p (y ∷ ys) x all (inr i) = passes p ys x (both (p y) (list_all p ys) all).1 i

module _ (order : List ℕ) (orders : List KnownOrder) (demands : List Demand) (placed : list_all (is_placed orders) demands ≡ true) where
  own_found : (found : Option KnownOrder) → order_at order orders ≡ found → (row : Demand) → IsIn row demands → row.order ≡ order → is_among found row.number ≡ true
  own_found found is row i own = ap (λ o. is_among o row.number) (sym (ap (λ code. order_at code orders) own ∙ is)) ∙ passes (is_placed orders) demands row placed i

  -- within its span
  pub in_span : (known : KnownOrder) → order_at order orders ≡ Some known → (row : Demand) → IsIn row demands → row.order ≡ order → IsIn row (filter (λ demand. is_within known.span demand.number) demands)
  in_span known is row i own = in_filter (λ (demand : Demand). is_within known.span demand.number) demands row i (own_found (Some known) is row i own)

  -- or nowhere
  pub no_rows_of : order_at order orders ≡ None → (row : Demand) → IsIn row demands → row.order ≡ order → ⊥
  no_rows_of none row i own = true≢false (sym (own_found None none row i own))

-- a test that passes alone what passes another one
filter_twice : {X : Type 0} (p q : X → Bool) (xs : List X) → ((x : X) → IsIn x xs → p x ≡ true → q x ≡ true) → filter p (filter q xs) ≡ filter p xs
filter_twice p q [] more = refl
filter_twice p q (x ∷ xs) more = by (filter_twice p q xs (λ y there. more y (inr there))) (q x) (p x) refl refl
  where
    kept : (b : Bool) → q x ≡ b → filter p (filter q (x ∷ xs)) ≡ filter p (cond b (x ∷ filter q xs) (filter q xs))
    kept b e = ap (λ b. filter p (cond b (x ∷ filter q xs) (filter q xs))) e

    by : filter p (filter q xs) ≡ filter p xs → (b c : Bool) → q x ≡ b → p x ≡ c → filter p (filter q (x ∷ xs)) ≡ filter p (x ∷ xs)
    by rest true c e f = kept true e ∙ (λ i. cond (p x) (x ∷ rest i) (rest i))
    by rest false true e f = absurd (true≢false (sym (more x (inl refl) f) ∙ e))
    by rest false false e f = kept false e ∙ rest ∙ sym (ap (λ b. cond b (x ∷ filter p xs) (filter p xs)) f)

-- a test that none passes
filter_none : {X : Type 0} (p : X → Bool) (xs : List X) → ((x : X) → IsIn x xs → p x ≡ true → ⊥) → filter p xs ≡ []
filter_none p [] none = refl
filter_none p (x ∷ xs) none = by (filter_none p xs (λ y there. none y (inr there))) (p x) refl
  where
    by : filter p xs ≡ [] → (b : Bool) → p x ≡ b → cond (p x) (x ∷ filter p xs) (filter p xs) ≡ []
    by rest true e = absurd (none x (inl refl) e)
    by rest false e = ap (λ b. cond b (x ∷ filter p xs) (filter p xs)) e ∙ rest

module _ (order : List ℕ) (orders : List KnownOrder) (demands : List Demand) (placed : list_all (is_placed orders) demands ≡ true) where
  -- those of an order within its span are all of it
  pub own_in_span : (known : KnownOrder) → order_at order orders ≡ Some known → filter (is_of_order order) (filter (λ demand. is_within known.span demand.number) demands) ≡ filter (is_of_order order) demands
  own_in_span known is =
      filter_twice (is_of_order order) (λ (demand : Demand). is_within known.span demand.number) demands (λ row there own. own_found order orders demands placed (Some known) is row there (one_code row.order order own))

  -- and of one that isn't there are none
  pub own_of_none : order_at order orders ≡ None → filter (is_of_order order) demands ≡ []
  own_of_none none = filter_none (is_of_order order) demands (λ row there own. no_rows_of order orders demands placed none row there (one_code row.order order own))

-- the lines are those of all demands, where these are among them and all of the order are among these
module _ (order : List ℕ) (rows demands : List Demand) (among : (row : Demand) → IsIn row rows → IsIn row demands) where
  pub lines_among : ((row : Demand) → IsIn row demands → row.order ≡ order → IsIn row rows) → (found : Option (List Demand)) → IfSome found (AreByLine order rows) → IfSome found (AreByLine order demands)
  lines_among all None are = are
  lines_among all (Some lines) are = record {
    rising = are.rising;
    there = λ row i. let r = are.there row i in (among row r.0, r.1);
    all = λ row i own. are.all row (all row i own) own;
  }

  pub lines_apart : HaveLines order demands → HaveLines order rows
  lines_apart apart a b i j own its same = apart a b (among a i) (among b j) own its same

-- ---- the lines of an order of a content

module _ (content : Content) (demands : List Demand) (up : rise demand_key nat_cmp demands ≡ true) (held : map_of demand_key nat_cmp demands ≡ content.demands) where
  found : (number : ℕ) → row_at demand_key nat_cmp number demands ≡ demand_at content number
  found number = get-rows demand_key nat_cmp demands number up ∙ ap (λ rows. get rows number) held

  at_own : (row : Demand) → IsIn row demands → demand_at content row.number ≡ Some row
  at_own row i = sym (found row.number) ∙ in_found demand_key nat_cmp nat_cmp_total nat_cmp-IsAntisymmetric demands up row i

  pub are_lines : (order : List ℕ) (lines : List Demand) → AreByLine order demands lines → AreLines content order lines
  are_lines order lines are = record {
    rising = λ i j d lt within.
        ranked (line_key (get_or lines i d)) (line_key (get_or lines j d)) Less (sym (rising_at line_key nat_cmp nat_cmp_total nat_cmp-IsAntisymmetric lines (tested _ are.rising) i j d lt within));
    there = λ k d within. let r = are.there (get_or lines k d) (at_in lines k d within) in (at_own (get_or lines k d) r.0, r.1);
    all = λ number row e own. are.all row (found_in demand_key nat_cmp nat_cmp_total nat_cmp-IsAntisymmetric number demands row (found number ∙ e)) own;
  }

  pub have_lines : AreDifferent content → (order : List ℕ) → HaveLines order demands
  have_lines different order a b i j own its same = different a.number b.number a b (at_own a i) (at_own b j) (own ∙ sym its) same
