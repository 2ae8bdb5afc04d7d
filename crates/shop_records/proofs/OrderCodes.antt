-- The codes of orders, in order, are the keys of each map that has something at the members of their set alone.
use Rattle.std.proofs.Common.{◌≡◌, ℕ, List, [], ◌∷◌, map, refl, sym, ap, ◌∙◌}
use Rattle.std.specs.Prelude.{Option, Some, None, T, is_some}
use Rattle.std.specs.List.{list_any}
use Rattle.std.specs.Ordering.{eq_by_cmp}
use Rattle.std.specs.FinMap.{FinMap, contains_key-keys, entries, entries-from_sorted, from_entries, from_sorted, get, get-from_entries, is_sorted, keys, same_map}
use Rattle.std.specs.FinMap.Entries.{is_some-find}
use Rattle.std.specs.FinSet.{FinSet, contains, contains-items, items}
use Rattle.cut_measure.specs.Codes.{code_cmp}
use Rattle.shop_records.specs.Content.{Content}
use Rattle.shop_records.specs.Lists.{order_codes}
use Rattle.shop_records.proofs.Basics.{codes_same, codes_total}

-- something at each code
abbrev pub marked : List (List ℕ) → List (List ℕ × Unit {0})
marked codes = map (λ code. (code, tt)) codes

pub codes_of_marked : (codes : List (List ℕ)) → map (λ (e : List ℕ × Unit {0}). e.0) (marked codes) ≡ codes
codes_of_marked [] = refl
codes_of_marked (code ∷ codes) = ap (λ cs. code ∷ cs) (codes_of_marked codes)

one_mark : (x y : Option (Unit {0})) → is_some x ≡ is_some y → x ≡ y
one_mark None None same = refl
one_mark None (Some v) same = absurd (cc)
one_mark (Some u) None same = absurd (cc)
one_mark (Some u) (Some v) same = refl

module _ (orders : FinSet code_cmp) where
  there : (code : List ℕ) → is_some (get (from_entries {R = code_cmp} (marked (items orders))) code) ≡ contains orders code
  there code =
      ap is_some (get-from_entries codes_total (marked (items orders)) code) ∙ is_some-find code_cmp code (marked (items orders))
      ∙ ap (list_any (eq_by_cmp code_cmp code)) (codes_of_marked (items orders)) ∙ sym (contains-items orders code)

module _ (content : Content) where
  pub codes_are : (codes : FinMap code_cmp (Unit {0})) → ((code : List ℕ) → contains content.orders code ≡ is_some (get codes code)) → order_codes content ≡ keys codes
  codes_are codes same =
      ap (λ (m : FinMap code_cmp (Unit {0})). keys m)
      (same_map codes_total codes_same (from_entries {R = code_cmp} (marked (items content.orders))) codes (λ code. one_mark _ _ (there content.orders code ∙ same code)))

  -- a list of rising codes with these members
  pub rising_codes_are : (codes : List (List ℕ)) → T (is_sorted code_cmp (marked codes)) → ((code : List ℕ) → contains content.orders code ≡ list_any (eq_by_cmp code_cmp code) codes) → order_codes content ≡ codes
  rising_codes_are codes up same =
      let rows : entries (from_sorted {R = code_cmp} (marked codes)) ≡ marked codes = entries-from_sorted code_cmp (marked codes) up in
      let keys_are : keys (from_sorted {R = code_cmp} (marked codes)) ≡ codes = ap (map (λ (e : List ℕ × Unit {0}). e.0)) rows ∙ codes_of_marked codes in
      codes_are (from_sorted (marked codes)) (λ code. same code ∙ ap (list_any (eq_by_cmp code_cmp code)) (sym keys_are) ∙ sym (contains_key-keys (from_sorted (marked codes)) code)) ∙ keys_are
