-- Maps with the same keys, and the rows of all totals.
use Rattle.std.proofs.Common.{◌≡◌, ℕ, ◌+◌, ◌<◌, ◌≤◌, Bool, true, false, cond, ◌&&◌, List, [], ◌∷◌, ◌++◌, length, map, take, get_or, Option, Some, None, is_some, option_map, T, IfSome, IsNone, Vec, IsTrue, ◌||◌, refl, sym, ap, subst, ◌∙◌, arith}
use Rattle.std.specs.declared.alloc.Global.{Global}
use Rattle.std.specs.Cmp.{tied_itself}
use Rattle.std.specs.Ordering.{eq_by_cmp, is_eq, is_lt}
use Rattle.std.specs.List.{list_any}
use Rattle.std.specs.FinMap.{FinMap, entries, entries_sorted, find, from_sorted, get, get-entries, get-from_sorted, entries-from_sorted, is_sorted, same_map}
use Rattle.std.specs.FinMap.Entries.{below_all, is_some-find}
use Rattle.std.proofs.lemmas.List.{get_or-map, length-map, map_more, take_all, take_more}
use Rattle.sqlite_value.specs.Order.{Row, column}
use Rattle.sqlite_value.specs.declared.value.Value.TheVariants.{Text}
use Rattle.sqlite_trees.proofs.ListLemmas.{all-get_or}
use Rattle.cut_measure.specs.Codes.{code_cmp, is_code}
use Rattle.shop_records.specs.Content.{no_totals}
use Rattle.shop_records.specs.declared.changes.MaterialTotals.{MaterialTotals}
use Rattle.shop_records.specs.declared.records.Totals.{Totals}
use Rattle.shop_tables.specs.Listing.{AreAllTotals, AreCodes, code_row, key_of, listed_row, named}
use Rattle.shop_statements.specs.Shown.{Books}
use Rattle.shop_tables.specs.Invalid.{HasValue}
use Rattle.shop_statements.proofs.Finding.{code_total, code_same}
use Rattle.shop_statements.proofs.Lists.{map-map}
use Rattle.shop_tables.proofs.InvalidRows.{shown_in}

-- ---- the keys of a map

-- maps with the same keys have the same codes
pub same_codes : {X Y : Type 0} (m : FinMap code_cmp X) (n : FinMap code_cmp Y) → map key_of (entries m) ≡ map key_of (entries n) → (code : List ℕ) → is_some (get m code) ≡ is_some (get n code)
same_codes m n same code =
    ap is_some (get-entries m code) ∙ is_some-find code_cmp code (entries m) ∙ ap (list_any (eq_by_cmp code_cmp code)) same
    ∙ sym (ap is_some (get-entries n code) ∙ is_some-find code_cmp code (entries n))

abbrev bare : {X : Type 0} → List (List ℕ × X) → List (List ℕ × Unit {0})
bare es = map (λ e. (e.0, tt)) es

below_bare : {X : Type 0} (code : List ℕ) (es : List (List ℕ × X)) → below_all code_cmp code (bare es) ≡ below_all code_cmp code es
below_bare code [] = refl
below_bare code (e ∷ es) = ap (λ b. is_lt (code_cmp code e.0) && b) (below_bare code es)

sorted_bare : {X : Type 0} (es : List (List ℕ × X)) → is_sorted code_cmp (bare es) ≡ is_sorted code_cmp es
sorted_bare [] = refl
sorted_bare (e ∷ es) = λ i. below_bare e.0 es i && sorted_bare es i

find_bare : {X : Type 0} (code : List ℕ) (es : List (List ℕ × X)) → find code_cmp code (bare es) ≡ option_map (λ _. tt) (find code_cmp code es)
find_bare code [] = refl
find_bare code (e ∷ es) =
    elim (eq_by_cmp code_cmp code e.0) as (λ b. cond b (Some tt) (find code_cmp code (bare es)) ≡ option_map (λ _. tt) (cond b (Some e.1) (find code_cmp code es))) [ true ↦ refl | false ↦ find_bare code es ]

module _ {X : Type 0} (m : FinMap code_cmp X) where
  up : T (is_sorted code_cmp (bare (entries m)))
  up = subst T (sym (sorted_bare (entries m))) (entries_sorted m)

  abbrev codes_of : FinMap code_cmp (Unit {0})
  codes_of = from_sorted (bare (entries m))

  code_at : (code : List ℕ) → get codes_of code ≡ option_map (λ _. tt) (get m code)
  code_at code = get-from_sorted code_cmp (bare (entries m)) code up ∙ find_bare code (entries m) ∙ ap (option_map (λ _. tt)) (sym (get-entries m code))

  back : map key_of (entries codes_of) ≡ map key_of (entries m)
  back = ap (map key_of) (entries-from_sorted code_cmp (bare (entries m)) up) ∙ map-map key_of (λ (e : List ℕ × X). (e.0, tt)) (entries m)

alike : {X Y : Type 0} (a : Option X) (b : Option Y) → is_some a ≡ is_some b → option_map {U = Unit {0}} (λ _. tt) a ≡ option_map (λ _. tt) b
alike None None h = refl
alike None (Some y) h = absurd (cc)
alike (Some x) None h = absurd (cc)
alike (Some x) (Some y) h = refl

-- and maps with the same codes have the same keys
pub same_keys : {X Y : Type 0} (m : FinMap code_cmp X) (n : FinMap code_cmp Y) → ((code : List ℕ) → is_some (get m code) ≡ is_some (get n code)) → map key_of (entries m) ≡ map key_of (entries n)
same_keys m n there =
    let one : codes_of m ≡ codes_of n = same_map code_total code_same (codes_of m) (codes_of n) (λ code. code_at m code ∙ alike (get m code) (get n code) (there code) ∙ sym (code_at n code)) in
    sym (back m) ∙ ap (λ (c : FinMap code_cmp (Unit {0})). map key_of (entries c)) one ∙ back n

-- ---- rows that are read one after another

abbrev none : List ℕ × Totals
none = ([], no_totals)

module _ (codes rows : List Row) (cs : List (List ℕ)) (es : List (List ℕ × Totals)) (are_codes : codes ≡ map code_row cs) (are_rows : rows ≡ map listed_row es) where
  many_codes : length codes ≡ length cs
  many_codes = ap length are_codes ∙ length-map cs code_row

  many_rows : length rows ≡ length es
  many_rows = ap length are_rows ∙ length-map es listed_row

  module _ (i : ℕ) (inside : i < length rows) (same : length codes ≡ length rows) where
    pub row_is : (row : Row) → row ≡ get_or rows i row → row ≡ listed_row (get_or es i none)
    row_is row is = is ∙ ap (λ rs. get_or rs i row) are_rows ∙ get_or-map listed_row es i none row (omega (arith, inside, many_rows))

    code_is : (row : Row) → row ≡ get_or codes i row → row ≡ code_row (get_or cs i [])
    code_is row is = is ∙ ap (λ rs. get_or rs i row) are_codes ∙ get_or-map code_row cs i [] row (omega (arith, inside, many_codes, same))

    -- a row of totals under no code
    pub uncoded : ¬ IsTrue (is_code (get_or es i none).0) → AreCodes cs → ¬ (cs ≡ map key_of es)
    uncoded other all equal =
        let own : get_or cs i [] ≡ (get_or es i none).0 = ap (λ ks. get_or ks i []) equal ∙ get_or-map key_of es i none [] (omega (arith, inside, many_rows)) in
        other (subst (λ code. IsTrue (is_code code)) own (all-get_or (λ code. IsTrue (is_code code)) cs i [] all (omega (arith, inside, many_codes, same))))

    module _ (row : Row) (read : MaterialTotals) (is : row ≡ get_or codes i row) (reads : read ≡ named (get_or es i none)) where
      own : HasValue row 0 (Text read.material) → read.material ≡ get_or cs i []
      own has = let e : Text read.material ≡ Text (get_or cs i []) = sym has.1 ∙ ap (λ r. column r 0) (code_is row is) in cc

      -- the codes were equal
      pub one_more : (list : List MaterialTotals) → HasValue row 0 (Text read.material) → list ≡ map named (take i es) → map key_of (take i es) ≡ take i cs
          → (list ++ read ∷ [] ≡ map named (take (i + 1) es)) × (map key_of (take (i + 1) es) ≡ take (i + 1) cs)
      one_more list here so_far prefix =
          let inner : i < length es = omega (arith, inside, many_rows) in
          let within : i < length cs = omega (arith, inside, many_codes, same) in
          let first : list ++ read ∷ [] ≡ map named (take i es) ++ named (get_or es i none) ∷ [] = λ k. so_far k ++ reads k ∷ [] in
          let key : key_of (get_or es i none) ≡ get_or cs i [] = ap (λ (r : MaterialTotals). r.material) (sym reads) ∙ own here in (
            first ∙ sym (map_more named es i none inner),
            map_more key_of es i none inner ∙ (λ k. prefix k ++ key k ∷ []) ∙ sym (take_more cs i [] within),
          )

      -- the codes weren't
      pub apart : ¬ HasValue row 0 (Text read.material) → ¬ (cs ≡ map key_of es)
      apart other equal =
          let code : get_or cs i [] ≡ read.material = ap (λ ks. get_or ks i []) equal ∙ get_or-map key_of es i none [] (omega (arith, inside, many_rows)) ∙ ap (λ (r : MaterialTotals). r.material) (sym reads) in
          other (shown_in row (code_row read.material) (code_is row is ∙ ap code_row code) 0 (Text read.material) (omega arith) refl)

  pub all_read : (i : ℕ) (list : List MaterialTotals) → length rows ≤ i → length codes ≡ length rows → list ≡ map named (take i es) → map key_of (take i es) ≡ take i cs → (list ≡ map named es) × (cs ≡ map key_of es)
  all_read i list ended same so_far prefix =
      let whole : take i es ≡ es = take_all i es (omega (arith, ended, many_rows)) in (
        so_far ∙ ap (map named) whole,
        sym (take_all i cs (omega (arith, ended, many_codes, same))) ∙ sym prefix ∙ ap (map key_of) whole,
      )

-- the keys of a map are codes where what is found stands under one
pub all_coded : {X : Type 0} (m : FinMap code_cmp X) → ((code : List ℕ) (x : X) → get m code ≡ Some x → IsTrue (is_code code)) → AreCodes (map key_of (entries m))
all_coded {X} m all = go (map key_of (entries m)) (λ code i. under code (get m code) refl (ap is_some (get-entries m code) ∙ is_some-find code_cmp code (entries m) ∙ i))
  where
    under : (code : List ℕ) (found : Option X) → get m code ≡ found → is_some found ≡ true → IsTrue (is_code code)
    under code None is there = absurd (cc)
    under code (Some x) is there = all code x is

    or_more : (b c : Bool) → c ≡ true → (b || c) ≡ true
    or_more true c h = refl
    or_more false c h = h

    go : (codes : List (List ℕ)) → ((code : List ℕ) → list_any (eq_by_cmp code_cmp code) codes ≡ true → IsTrue (is_code code)) → AreCodes codes
    go [] h = tt
    go (code ∷ codes) h = (h code (ap (λ b. b || list_any (eq_by_cmp code_cmp code) codes) (ap is_eq (tied_itself code_total code))), go codes (λ other i. h other (or_more (eq_by_cmp code_cmp other code) _ i)))

-- what was read is what the books have
pub all_totals : (b : Books) → AreCodes (map key_of (entries b.content.materials)) → (read : Option (Vec MaterialTotals Global))
    → IfSome read (λ list. (list.items ≡ map named (entries b.totals)) × (map key_of (entries b.content.materials) ≡ map key_of (entries b.totals))) × (IsNone read → AreCodes (map key_of (entries b.content.materials)) → ¬ (map key_of (entries b.content.materials) ≡ map key_of (entries b.totals)))
    → AreAllTotals b read
all_totals b coded None h = λ there. h.1 refl coded (same_keys b.content.materials b.totals (λ code. sym (there code)))
all_totals b coded (Some list) h = (λ code. sym (same_codes b.content.materials b.totals h.0.1 code), h.0.0)
