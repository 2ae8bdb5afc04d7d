-- Lists of names, one of which changes.
use Rattle.std.proofs.Common.{◌≡◌, ℕ, zero, suc, ◌+◌, ◌<◌, ◌≤◌, Bool, true, false, List, [], ◌∷◌, ◌++◌, length, map, take, get_or, refl, sym, ap, subst, ◌∙◌, add-one, arith, true≢false}
use Rattle.std.specs.Prelude.{HoldsAt, IsTrue, Option, Some, None, cond, ◌&&◌}
use Rattle.std.specs.declared.cmp.Ordering.{Ordering}
use Rattle.std.specs.declared.cmp.Ordering.TheVariants.{Less, Equal, Greater}
use Rattle.std.specs.Ordering.{eq_by_cmp, is_eq, is_lt, ordering_then}
use Rattle.std.specs.Cmp.{tied_itself}
use Rattle.std.specs.Cmp.Lexicographic.{nat_list_cmp_total}
use Rattle.std.specs.FinMap.{find}
use Rattle.std.specs.FinMap.Entries.{below_all, find-put}
use Rattle.std.proofs.Math.ListN.{set}
use Rattle.cut_measure.specs.Codes.{code_cmp}
use Rattle.cut_measure.specs.Names.{Name, name_cmp}
use Rattle.shop_rows.specs.Keys.{codes_exact}
use Rattle.shop_rows.specs.Open.{own_key, open_cmp, open_exact, list_key, listed_names, names_of, has, has_key, spare_in, spare_of, AreInOrder, SetsKey}
use Rattle.shop_rows.specs.Rows.{entries_of, rise, row_at, IsPut, SetsRow}
use Rattle.shop_rows.specs.declared.names.NameList.{NameList}
use Rattle.shop_rows.specs.declared.names.OpenPart.{OpenPart}
use Rattle.shop_rows.proofs.Listed.{tie}
use Rattle.std.proofs.lemmas.List.{map-append}
use Rattle.shop_rows.proofs.Places.{put_found, rise-put, row_found, tested}

far_material : (a b : Ordering) → is_eq a ≡ false → is_eq (ordering_then a b) ≡ false
far_material Less b e = refl
far_material Equal b e = absurd (true≢false e)
far_material Greater b e = refl

-- ---- a list that is put among lists, in place of the one of its material, if there is one

module _ (list : NameList) (old new : List NameList) (is_put : IsPut list_key code_cmp list old new) where
  row_new : (code : List ℕ) → row_at list_key code_cmp code new ≡ cond (eq_by_cmp code_cmp code list.material) (Some list) (row_at list_key code_cmp code old)
  row_new code = ap (find code_cmp code) is_put ∙ find-put code_cmp nat_list_cmp_total code list.material list (entries_of list_key code_cmp old)

  own_code : (code : List ℕ) → eq_by_cmp code_cmp code list.material ≡ true → code ≡ list.material
  own_code code e = codes_exact code list.material (tie _ e)

  pub order_put : AreInOrder old → IsTrue (rise own_key name_cmp list.names.items) → AreInOrder new
  order_put order rising =
      record {
        materials = rise-put list_key code_cmp nat_list_cmp_total list old new is_put order.materials;
        names = λ code.
            subst (λ row. IsTrue (rise own_key name_cmp (listed_names row))) (sym (row_new code))
            (elim (eq_by_cmp code_cmp code list.material) as (λ b. IsTrue (rise own_key name_cmp (listed_names (cond b (Some list) (row_at list_key code_cmp code old))))) [
              | true ↦ rising
              | false ↦ order.names code
            ]);
      }

  module _ (found : Option NameList) (was : row_at list_key code_cmp list.material old ≡ found) where
    names_were : (code : List ℕ) → eq_by_cmp code_cmp code list.material ≡ true → listed_names found ≡ names_of code old
    names_were code e = ap listed_names (sym was) ∙ ap (λ q. names_of q old) (sym (own_code code e))

    pub names_put : list.names.items ≡ listed_names found → (code : List ℕ) → names_of code new ≡ names_of code old
    names_put same code = ap listed_names (row_new code) ∙ by_code (eq_by_cmp code_cmp code list.material) refl
      where
        by_code : (b : Bool) → eq_by_cmp code_cmp code list.material ≡ b → listed_names (cond b (Some list) (row_at list_key code_cmp code old)) ≡ names_of code old
        by_code true e = same ∙ names_were code e
        by_code false e = refl

    pub spare_put : (n : ℕ) → spare_in found ≤ spare_in (Some list) + n → (code : List ℕ) → spare_of code old ≤ spare_of code new + n
    spare_put n more code = subst (λ row. spare_of code old ≤ spare_in row + n) (sym (row_new code)) (by_code (eq_by_cmp code_cmp code list.material) refl)
      where
        by_code : (b : Bool) → eq_by_cmp code_cmp code list.material ≡ b → spare_of code old ≤ spare_in (cond b (Some list) (row_at list_key code_cmp code old)) + n
        by_code true e = subst (λ r. r ≤ spare_in (Some list) + n) (ap spare_in (sym was) ∙ ap (λ q. spare_of q old) (sym (own_code code e))) more
        by_code false e = omega arith

    pub settled_put : (name : Name) (is_there : Bool) → SetsRow own_key name_cmp name is_there (listed_names found) list.names.items
        → SetsKey (record { material = list.material; name = name }) is_there old new
    settled_put name is_there settled other = ap (λ row. has name_cmp other.name (listed_names row)) (row_new other.material) ∙ by_code (eq_by_cmp code_cmp other.material list.material) refl
      where
        key : OpenPart
        key = record { material = list.material; name = name }

        by_code : (b : Bool) → eq_by_cmp code_cmp other.material list.material ≡ b
            → has name_cmp other.name (listed_names (cond b (Some list) (row_at list_key code_cmp other.material old))) ≡ cond (eq_by_cmp open_cmp other key) is_there (has_key other old)
        by_code true e =
            let ties : eq_by_cmp name_cmp other.name name ≡ eq_by_cmp open_cmp other key = ap (λ r. is_eq (ordering_then r (name_cmp other.name name))) (sym (tie _ e)) in
            settled other.name ∙ (λ i. cond (ties i) is_there (has name_cmp other.name (names_were other.material e i)))
        by_code false e = ap (λ b. cond b is_there (has_key other old)) (sym (far_material (code_cmp other.material list.material) (name_cmp other.name name) e))

-- the list of the material has room now
pub spare_there : (list : NameList) (old new : List NameList) → IsPut list_key code_cmp list old new → spare_of list.material new ≡ spare_in (Some list)
spare_there list old new is_put =
    ap spare_in (row_new list old new is_put list.material) ∙ ap (λ r. spare_in (cond (is_eq r) (Some list) (row_at list_key code_cmp list.material old))) (tied_itself nat_list_cmp_total list.material)

-- ---- the list of a material is changed in its place

-- the list of a material stands here
pub record IsPlace (xs : List NameList) (i : ℕ) (x : NameList) (key : List ℕ) : Type 0 where
  pub within : i < length xs
  pub here : x ≡ get_or xs i x
  pub holds : HoldsAt (λ l. code_cmp (list_key l) key ≡ Equal) xs i

-- as a search of the same lists found it
pub is_place : (ls xs : List NameList) (i : ℕ) (x : NameList) (key : List ℕ) → ls ≡ xs → i < length ls → HoldsAt (λ l. code_cmp (list_key l) key ≡ Equal) ls i → x ≡ get_or xs i x → IsPlace xs i x key
is_place ls xs i x key same within holds here =
    record {
      within = subst (λ (l : List NameList). i < length l) same within;
      here = here;
      holds = λ d. subst (λ (l : List NameList). code_cmp (list_key (get_or l i d)) key ≡ Equal) same (holds d);
    }

-- the names stay, and the lists have as much room or more
pub record AreWider (old new : List NameList) : Type 0 where
  pub names : (code : List ℕ) → names_of code new ≡ names_of code old
  pub order : AreInOrder new
  pub more : (code : List ℕ) → spare_of code old ≤ spare_of code new

module _ (xs : List NameList) (order : AreInOrder xs) (i : ℕ) (x : NameList) (key : List ℕ) (place : IsPlace xs i x key) where
  key_at : x.material ≡ key
  key_at = codes_exact x.material key (ap (λ (l : NameList). code_cmp l.material key) place.here ∙ place.holds x)

  found_at : row_at list_key code_cmp key xs ≡ Some x
  found_at = row_found list_key code_cmp nat_list_cmp_total codes_exact xs (tested _ order.materials) i x key place.within place.here place.holds

  pub rising_in : IsTrue (rise own_key name_cmp x.names.items)
  rising_in = subst (λ row. IsTrue (rise own_key name_cmp (listed_names row))) found_at (order.names key)

  pub spare_found : spare_of key xs ≡ spare_in (Some x)
  spare_found = ap spare_in found_at

  module _ (list : NameList) (same : list.material ≡ x.material) where
    own_key_at : list.material ≡ key
    own_key_at = same ∙ key_at

    put_at : IsPut list_key code_cmp list xs (set xs i list)
    put_at = put_found list_key code_cmp nat_list_cmp_total codes_exact xs (tested _ order.materials) i x key place.within place.here place.holds list own_key_at

    was_at : row_at list_key code_cmp list.material xs ≡ Some x
    was_at = ap (λ code. row_at list_key code_cmp code xs) own_key_at ∙ found_at

    pub set_order : IsTrue (rise own_key name_cmp list.names.items) → AreInOrder (set xs i list)
    set_order = order_put list xs (set xs i list) put_at order

    pub set_spare : (n : ℕ) → spare_in (Some x) ≤ spare_in (Some list) + n → (code : List ℕ) → spare_of code xs ≤ spare_of code (set xs i list) + n
    set_spare = spare_put list xs (set xs i list) put_at (Some x) was_at

    pub set_own_spare : spare_of key (set xs i list) ≡ spare_in (Some list)
    set_own_spare = ap (λ code. spare_of code (set xs i list)) (sym own_key_at) ∙ spare_there list xs (set xs i list) put_at

    pub set_wider : list.names.items ≡ x.names.items → spare_in (Some x) ≤ spare_in (Some list) → AreWider xs (set xs i list)
    set_wider names wide = record {
      names = names_put list xs (set xs i list) put_at (Some x) was_at names;
      order = set_order (subst (λ (own : List Name). IsTrue (rise own_key name_cmp own)) (sym names) rising_in);
      more = λ code. let more = set_spare 0 (omega (arith, wide)) code in omega (arith, more);
    }

    pub set_settled : (name : Name) (is_there : Bool) → SetsRow own_key name_cmp name is_there x.names.items list.names.items
        → SetsKey (record { material = key; name = name }) is_there xs (set xs i list)
    set_settled name is_there settled =
        subst (λ (code : List ℕ). SetsKey (record { material = code; name = name }) is_there xs (set xs i list)) own_key_at
        (settled_put list xs (set xs i list) put_at (Some x) was_at name is_there settled)

-- ---- a key of a material without a list

pub unsettled : (key : OpenPart) (lists : List NameList) (is_there : Bool) → row_at list_key code_cmp key.material lists ≡ None → (is_there ≡ true → 1 ≤ spare_of key.material lists) → SetsKey key is_there lists lists
unsettled key lists true none spare = absurd (let one = spare refl in let zero = ap spare_in none in omega (arith, one, zero))
unsettled key lists false none spare = λ other. by_key other (eq_by_cmp open_cmp other key) refl
  where
    by_key : (other : OpenPart) (b : Bool) → eq_by_cmp open_cmp other key ≡ b → has_key other lists ≡ cond b false (has_key other lists)
    by_key other true e = ap (λ (k : OpenPart). has_key k lists) (open_exact other key (tie _ e)) ∙ ap (λ row. has name_cmp key.name (listed_names row)) none
    by_key other false e = refl

-- ---- lists with the same names

abbrev pub shown : NameList → List ℕ × List Name
shown list = (list.material, list.names.items)

pub names_shown : (xs ys : List NameList) → map shown xs ≡ map shown ys → (code : List ℕ) → names_of code xs ≡ names_of code ys
names_shown [] [] e code = refl
names_shown [] (y ∷ ys) e code = cc
names_shown (x ∷ xs) [] e code = cc
names_shown (x ∷ xs) (y ∷ ys) e code =
    let first : shown x ≡ shown y = cc in
    let material : x.material ≡ y.material = ap (λ (p : List ℕ × List Name). p.0) first in
    let names : x.names.items ≡ y.names.items = ap (λ (p : List ℕ × List Name). p.1) first in
    let more : map shown xs ≡ map shown ys = cc in
    by_code (eq_by_cmp code_cmp code x.material) names (names_shown xs ys more code)
    ∙ ap (λ m. listed_names (cond (eq_by_cmp code_cmp code m) (Some y) (row_at list_key code_cmp code ys))) material
  where
    by_code : (b : Bool) → x.names.items ≡ y.names.items → names_of code xs ≡ names_of code ys
        → listed_names (cond b (Some x) (row_at list_key code_cmp code xs)) ≡ listed_names (cond b (Some y) (row_at list_key code_cmp code ys))
    by_code true names more = names
    by_code false names more = more

below_shown : (q : List ℕ) (xs ys : List NameList) → map shown xs ≡ map shown ys → below_all code_cmp q (entries_of list_key code_cmp xs) ≡ below_all code_cmp q (entries_of list_key code_cmp ys)
below_shown q [] [] e = refl
below_shown q [] (y ∷ ys) e = cc
below_shown q (x ∷ xs) [] e = cc
below_shown q (x ∷ xs) (y ∷ ys) e =
    let first : shown x ≡ shown y = cc in
    let material : x.material ≡ y.material = ap (λ (p : List ℕ × List Name). p.0) first in
    let more : map shown xs ≡ map shown ys = cc in
    λ i. is_lt (code_cmp q (material i)) && below_shown q xs ys more i

pub rise_shown : (xs ys : List NameList) → map shown xs ≡ map shown ys → rise list_key code_cmp xs ≡ rise list_key code_cmp ys
rise_shown [] [] e = refl
rise_shown [] (y ∷ ys) e = cc
rise_shown (x ∷ xs) [] e = cc
rise_shown (x ∷ xs) (y ∷ ys) e =
    let first : shown x ≡ shown y = cc in
    let material : x.material ≡ y.material = ap (λ (p : List ℕ × List Name). p.0) first in
    let more : map shown xs ≡ map shown ys = cc in
    (λ i. below_all code_cmp (material i) (entries_of list_key code_cmp xs) && rise list_key code_cmp xs)
    ∙ (λ i. below_shown y.material xs ys more i && rise_shown xs ys more i)

pub order_shown : (xs ys : List NameList) → map shown xs ≡ map shown ys → AreInOrder ys → AreInOrder xs
order_shown xs ys e order =
    record {
      materials = rise_shown xs ys e ∙ order.materials;
      names = λ code. subst (λ names. IsTrue (rise own_key name_cmp names)) (sym (names_shown xs ys e code)) (order.names code);
    }

next_shown : (ys : List NameList) (i : ℕ) (y : NameList) → i < length ys → y ≡ get_or ys i y → map shown (take (suc i) ys) ≡ map shown (take i ys) ++ shown y ∷ []
next_shown [] i y within is = absurd (omega arith)
next_shown (z ∷ ys) zero y within is = ap (λ (q : NameList). shown q ∷ []) (sym is)
next_shown (z ∷ ys) (suc i) y within is = ap (λ l. shown z ∷ l) (next_shown ys i y (omega arith) is)

pub shown_more : (xs ys : List NameList) (i : ℕ) (x y : NameList) → i < length ys → y ≡ get_or ys i y → x.material ≡ y.material → x.names.items ≡ y.names.items → map shown xs ≡ map shown (take i ys)
    → map shown (xs ++ x ∷ []) ≡ map shown (take (i + 1) ys)
shown_more xs ys i x y within is material names so =
    map-append shown xs (x ∷ []) ∙ (λ j. so j ++ (material j, names j) ∷ []) ∙ sym (ap (λ n. map shown (take n ys)) (add-one i) ∙ next_shown ys i y within is)
