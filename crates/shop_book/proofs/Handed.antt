-- Parts that are found by their names and handed out, in order.
use Rattle.std.proofs.Common.{◌≡◌, ◌+◌, ◌<◌, ◌≤◌, ℕ, zero, suc, Bool, true, false, List, [], ◌∷◌, ◌++◌, length, take, drop, get_or, refl, sym, ap, subst, ◌∙◌, add-one, arith}
use Rattle.std.specs.Prelude.{Ok, Option, cond, Some, None, filter, filter_map}
use Rattle.std.specs.FinMap.{from_sorted, values}
use Rattle.cut_measure.specs.Names.{Name, name_cmp}
use Rattle.shop_records.specs.Content.{is_listed}
use Rattle.shop_records.specs.Lists.{is_after}
use Rattle.shop_rows.specs.Keys.{part_key}
use Rattle.shop_rows.specs.Open.{names_of, parts_named, AreInOrder, AreListed}
use Rattle.shop_rows.specs.Rows.{entries_of, rise}
use Rattle.shop_rows.specs.declared.names.NameList.{NameList}
use Rattle.shop_rows.proofs.Named.{first_named_are, named_are}
use Rattle.shop_book.proofs.Held.{values-rows}
use Rattle.std.specs.List.{FoldsTo, cons_option}
use Rattle.std.specs.Option.{option_to_list}
use Rattle.std.proofs.lemmas.List.{append-nil, append_assoc, take_all, take-append-drop}
use Rattle.std.proofs.lemmas.List.Elements.{filter-append, filter_map-append}
use Rattle.shop_records.specs.declared.records.Part.{Part}
use Rattle.shop_records.specs.Visits.{HasSeen, IsVisit}
use Rattle.shop_book.specs.declared.books.BookFault.{BookFault}

next_found : {A X : Type 0} (at : A → Option X) (names : List A) (i : ℕ) (a : A) → i < length names → a ≡ get_or names i a
    → filter_map at (take (suc i) names) ≡ filter_map at (take i names) ++ option_to_list (at a)
next_found at [] i a within is = absurd (omega arith)
next_found {X = X} at (b ∷ names) zero a within is = alone (at b) ∙ ap (λ c. option_to_list (at c)) (sym is)
  where
    alone : (found : Option X) → cons_option found [] ≡ option_to_list found
    alone None = refl
    alone (Some x) = refl
next_found {X = X} at (b ∷ names) (suc i) a within is = before (at b) (next_found at names i a (omega arith) is)
  where
    before : (found : Option X) → filter_map at (take (suc i) names) ≡ filter_map at (take i names) ++ option_to_list (at a)
        → cons_option found (filter_map at (take (suc i) names)) ≡ cons_option found (filter_map at (take i names)) ++ option_to_list (at a)
    before None more = more
    before (Some x) more = ap (λ xs. x ∷ xs) more

-- what is found of the next is among what is found so far
pub so_far : {A X : Type 0} (at : A → Option X) (names : List A) (i : ℕ) (a : A) → i < length names → a ≡ get_or names i a
    → filter_map at (take (i + 1) names) ≡ filter_map at (take i names) ++ option_to_list (at a)
so_far at names i a within is = ap (λ n. filter_map at (take n names)) (add-one i) ∙ next_found at names i a within is

folds_append : {P A : Type 0} (R : P → A → P → Type 0) (xs ys : List A) (p q r : P) → FoldsTo R p xs q → FoldsTo R q ys r → FoldsTo R p (xs ++ ys) r
folds_append R [] ys p q r e h = subst (λ s. FoldsTo R s ys r) (sym e) h
folds_append R (x ∷ xs) ys p q r h k = (h.0, h.1, folds_append R xs ys h.0 q r h.2 k)

-- what one look at a part comes to
pub one_seen : {V : Type 0} (looks : V → Part → Bool → V → Type 0) (part : Part) (on : Bool) (old new : V) → looks old part on new → HasSeen looks (part ∷ []) on old new
one_seen looks part true old new look = (new, look, refl)
one_seen looks part false old new look = ([], part, old, refl, refl, look)

module _ {V A : Type 0} (looks : V → Part → Bool → V → Type 0) (at : A → Option Part) (names : List A) (i : ℕ) (old mid : V) where
  -- what is found of the next is handed out, and the visitor goes on
  pub handed : (new : V) (a : A) → i < length names → a ≡ get_or names i a
      → HasSeen looks (filter_map at (take i names)) true old mid → HasSeen looks (option_to_list (at a)) true mid new → HasSeen looks (filter_map at (take (i + 1) names)) true old new
  handed new a within is seen look =
      subst (λ parts. HasSeen looks parts true old new) (sym (so_far at names i a within is))
      (folds_append (λ v part w. looks v part true w) (filter_map at (take i names)) (option_to_list (at a)) old mid new seen look)

  -- the visitor stops at it
  pub stopped : (new : V) (a : A) → i < length names → a ≡ get_or names i a
      → HasSeen looks (filter_map at (take i names)) true old mid → HasSeen looks (option_to_list (at a)) false mid new → IsVisit looks {Fault = BookFault} (λ what. what (filter_map at names)) old (Ok false) new
  stopped new a within is seen look =
      record {
        parts = filter_map at (take (i + 1) names);
        on = false;
        visitor = (
          filter_map at (take i names) ++ look.0,
          look.1,
          look.2,
          so_far at names i a within is ∙ ap (λ parts. filter_map at (take i names) ++ parts) look.3 ∙ sym (append_assoc (filter_map at (take i names)) look.0 (look.1 ∷ [])),
          folds_append (λ v part w. looks v part true w) (filter_map at (take i names)) look.0 old mid look.2 seen look.4,
          look.5,
        );
        answer = refl;
        begins = (filter_map at (drop (i + 1) names), ap (filter_map at) (sym (take-append-drop (i + 1) names)) ∙ filter_map-append at (take (i + 1) names) (drop (i + 1) names), λ h. cc);
      }

  -- all was seen
  pub ended : length names ≤ i → HasSeen looks (filter_map at (take i names)) true old mid → IsVisit looks {Fault = BookFault} (λ what. what (filter_map at names)) old (Ok true) mid
  ended all seen =
      record {
        parts = filter_map at names;
        on = true;
        visitor = subst (λ xs. HasSeen looks (filter_map at xs) true old mid) (take_all i names all) seen;
        answer = refl;
        begins = ([], sym (append-nil (filter_map at names)), λ _. refl);
      }

-- ---- the parts of a list's names

filter_all : {X : Type 0} (xs : List X) → filter (λ x. true) xs ≡ xs
filter_all [] = refl
filter_all (x ∷ xs) = ap (λ ys. x ∷ ys) (filter_all xs)

module _ (code : List ℕ) (lists : List NameList) (parts : List Part) (order : AreInOrder lists) (rises : rise part_key name_cmp parts ≡ true) (listed : AreListed parts lists) where
  abbrev content_parts : List Part
  content_parts = values (from_sorted {R = name_cmp} (entries_of part_key name_cmp parts))

  -- the first of the parts that stand after a name
  pub first_named : (after : Option Name) (most : ℕ) → parts_named (take most (filter (is_after after) (names_of code lists))) parts ≡ take most (filter (λ part. is_after after part.name) (filter (is_listed code) content_parts))
  first_named after most =
      first_named_are code after lists parts order rises listed most
      ∙ ap (λ (ps : List Part). take most (filter (λ part. is_after after part.name) (filter (is_listed code) ps))) (sym (values-rows part_key name_cmp parts rises))

  -- all of them
  pub all_named : parts_named (filter (is_after None) (names_of code lists)) parts ≡ filter (is_listed code) content_parts
  all_named =
      named_are code None lists parts order rises listed ∙ filter_all (filter (is_listed code) parts) ∙ ap (filter (is_listed code)) (sym (values-rows part_key name_cmp parts rises))

-- ---- the first rows that pass

pub take_prefix : {X : Type 0} (n : ℕ) (xs ys : List X) → n ≡ length xs → take n (xs ++ ys) ≡ xs
take_prefix zero [] ys e = refl
take_prefix zero (x ∷ xs) ys e = absurd (omega arith)
take_prefix (suc n) [] ys e = absurd (omega arith)
take_prefix (suc n) (x ∷ xs) ys e = ap (λ zs. x ∷ zs) (take_prefix n xs ys (omega arith))

-- what passes of what is found so far, and of the rest
pub passed_rest : {A X : Type 0} (at : A → Option X) (test : X → Bool) (names : List A) (i : ℕ)
    → filter test (filter_map at names) ≡ filter test (filter_map at (take i names)) ++ filter test (filter_map at (drop i names))
passed_rest at test names i =
    ap (λ ns. filter test (filter_map at ns)) (sym (take-append-drop i names)) ∙ ap (filter test) (filter_map-append at (take i names) (drop i names))
    ∙ filter-append test (filter_map at (take i names)) (filter_map at (drop i names))

pub passed_more : {A X : Type 0} (at : A → Option X) (test : X → Bool) (names : List A) (i : ℕ) (a : A) → i < length names → a ≡ get_or names i a
    → filter test (filter_map at (take (i + 1) names)) ≡ filter test (filter_map at (take i names)) ++ filter test (option_to_list (at a))
passed_more at test names i a within is = ap (filter test) (so_far at names i a within is) ∙ filter-append test (filter_map at (take i names)) (option_to_list (at a))

-- at most one passes
pub one_passes : {X : Type 0} (test : X → Bool) (found : Option X) → length (filter test (option_to_list found)) ≤ 1
one_passes test None = omega arith
one_passes test (Some x) = elim (test x) as (λ b. length (cond b (x ∷ []) []) ≤ 1) [ true ↦ omega arith | false ↦ omega arith ]
