-- What a query on one table gives of a map.
use Rattle.std.proofs.Common.{◌≡◌, ℕ, pos, Bool, List, [], ◌∷◌, map, drop, filter, Option, Some, None, option_map, Result, IfOk, true, arith, refl, sym, ap, subst, ◌∙◌, IsPermutation}
use Rattle.std.specs.Option.{option_to_list}
use Rattle.std.specs.List.{list_all}
use Rattle.std.specs.declared.cmp.Ordering.{Ordering}
use Rattle.std.specs.Ordering.{eq_by_cmp}
use Rattle.std.specs.Cmp.{IsTotalOrder}
use Rattle.std.specs.FinMap.{FinMap, IsAntisymmetric, entries, get}
use Rattle.std.proofs.lemmas.List.Sorted.{IsPermutation-trans}
use Rattle.sqlite_value.specs.Order.{Row}
use Rattle.sqlite_value.specs.declared.value.Value.TheVariants.{Int}
use Rattle.sqlite.specs.State.{State, HasCleanDisk, Shown}
use Rattle.sqlite.specs.Term.{Term, holds}
use Rattle.sqlite.specs.Query.{output}
use Rattle.sqlite.specs.Program.{overlay}
use Rattle.sqlite.proofs.Callers.{reads_as, one_permutation}
use Rattle.sqlite.proofs.StateLemmas.{survives_then}
use Rattle.shop_statements.specs.Layout.{HasShopTables}
use Rattle.shop_statements.specs.Rows.{AreRows}
use Rattle.shop_statements.specs.Shown.{Books, Shows, Holds, Leaves, GivesRow, IsRowOf}
use Rattle.shop_statements.specs.Selecting.{is_select}
use Rattle.std.proofs.lemmas.Result.{IfOk-weaker}
use Rattle.sqlite.specs.declared.rows.Row.{Row as Answered}
use Rattle.shop_statements.proofs.Steps.{within_itself}
use Rattle.shop_statements.proofs.Terms.{from_table, Reads}
use Rattle.shop_statements.proofs.Texts.{shop, shop_is}
use Rattle.shop_statements.proofs.Selects.{selects, selected}
use Rattle.shop_statements.proofs.Maps.{entry_at_is, listed}
use Rattle.shop_statements.proofs.Keys.{shown_as, none_permutation}
use Rattle.shop_statements.proofs.Kept.{as_was_then, shown_open}

-- the rows of the table that pass, as they are shown
module _ (old new : State) (h : HasShopTables old.now.schema) (text : List ℕ) (params : Row) (tree : ℕ) (tests terms : List Term) (names : List (List ℕ))
    (is : Reads (shop old.now.schema h) text (from_table tree tests terms []) names) (low : overlay old.now.trees [] tree ≡ old.now.trees tree) where
  abbrev pub shows_of : Row → Row
  shows_of r = (output (from_table tree tests terms []) (params ∷ r ∷ [])).1

  abbrev pub passing : Row → Bool
  passing r = list_all (holds (params ∷ r ∷ [])) tests

  pub asked : (rows : List Row) → Shown text params old new rows → IsPermutation (map shows_of (filter passing (old.now.trees tree))) rows
  asked rows shown =
      let a = (reads_as text params old new (shop old.now.schema h) (shop_is old.now.schema h) _ is.command is.plain is.listing rows shown).answer in
      selected tree tests terms [] old.now.trees params low rows (selects tree tests terms [] old.now.trees params low rows a)

module _ {K X : Type 0} {R : K → K → Ordering} (o : IsTotalOrder R) (same : IsAntisymmetric R) (skip : ℕ) (row_of out : K × X → Row) where
  small : (k : K) (found : Option X) (rows : List Row) → IsPermutation (map out (listed X o same k found)) rows → rows ≡ option_to_list (option_map (λ x. out (k, x)) found)
  small k None rows h = none_permutation rows h
  small k (Some x) rows h = one_permutation (out (k, x)) rows h

  -- a query by the key shows the row of the map at the key, or none
  pub finds : (m : FinMap R X) (k : K) (p q : Row → Bool) → ((r : Row) → p r ≡ q (drop skip r)) → ((e : K × X) → q (row_of e) ≡ eq_by_cmp R e.0 k) → (show show' : Row → Row) → ((r : Row) → show r ≡ show' (drop skip r))
      → ((e : K × X) → show' (row_of e) ≡ out e) → (stored rows : List Row) → AreRows skip (map row_of (entries m)) stored → IsPermutation (map show (filter p stored)) rows → rows ≡ option_to_list (option_map (λ x. out (k, x)) (get m k))
  finds m k p q later tests show show' at whole stored rows are given =
      let passed = shown_as skip row_of (λ e. eq_by_cmp R e.0 k) p q later tests show show' out at whole (entries m) stored are in
      small k (get m k) rows (IsPermutation-trans _ _ _ (subst (λ es. IsPermutation (map out es) (map show (filter p stored))) (entry_at_is X o same m k) passed) given)

-- the row that a query gave on held books
pub held_row : (sql : List ℕ) (params : Row) (old new : State) (b : Books) (row o : Option Row) → HasCleanDisk old → Holds old b → GivesRow sql params old new row
    → ((rows : List Row) → Shows old b → Shown sql params old new rows → rows ≡ option_to_list o) → row ≡ o
held_row sql params old new b row o clean was given finds =
    given.only o (finds given.rows (was clean (shown_open sql params old new given.rows given.shown)).shows given.shown)

-- and the books were shown
pub held_shows : (sql : List ℕ) (params : Row) (old new : State) (b : Books) (row : Option Row) → HasCleanDisk old → Holds old b → GivesRow sql params old new row → Shows old b
held_shows sql params old new b row clean was given = (was clean (shown_open sql params old new given.rows given.shown)).shows

-- what is read of the row is the entry
pub read_as : {X : Type 0} (Is : X → Type 0) (columns : X → Row) (o : Option X) (row : Row) (x : X) → IsRowOf Is columns o (Some row) → ((y : X) → Is y → row ≡ columns y → x ≡ y) → Some x ≡ o
read_as Is columns None row x h reads = absurd (let e = h.shown in cc)
read_as Is columns (Some y) row x h reads = ap Some (reads y (h.known y refl) (let e = h.shown in cc))

pub none_as : {X : Type 0} (Is : X → Type 0) (columns : X → Row) (o : Option X) → IsRowOf Is columns o None → None ≡ o
none_as Is columns None h = refl
none_as Is columns (Some y) h = absurd (let e = h.shown in cc)

-- a query's row on held books is that of what the query finds
module _ (sql : List ℕ) (params : Row) (old new : State) (is : is_select sql ≡ true) (left : is_select sql ≡ true → Leaves old new) where
  pub row_given : {X E : Type 0} (Is : X → Type 0) (columns : X → Row) (o : Option X) (b : Books) (r : Result (Option Answered) E) → HasCleanDisk new → Holds old b
      → ((rows : List Row) → Shows old b → Shown sql params old new rows → rows ≡ option_to_list (option_map columns o)) → (Shows old b → (x : X) → o ≡ Some x → Is x)
      → IfOk r (GivesRow sql params old new) → IfOk r (IsRowOf Is columns o)
  row_given Is columns o b r clean was finds known given =
      let before : HasCleanDisk old = let l = (left is).survives.clean in omega (arith, l) in
      IfOk-weaker r _ _ (λ row h. record { shown = held_row sql params old new b row _ before was h finds; known = known (held_shows sql params old new b row before was h) }) given

-- one reading after another
pub leaves_itself : (a : State) → Leaves a a
leaves_itself a = record { stays = λ b was. was; as_was = λ clean up. record { was_open = up; now = λ is. refl; committed = λ is. is }; survives = (within_itself a).survives }

pub leaves_then : (a b c : State) → Leaves a b → Leaves b c → Leaves a c
leaves_then a b c first second = record {
  stays = λ books was. second.stays books (first.stays books was);
  as_was = λ clean up. let last = second.as_was clean up in as_was_then a b c (first.as_was (omega (arith, second.survives.clean)) last.was_open) last;
  survives = survives_then a b c (λ _. ⊥) (λ _. ⊥) (λ _. ⊥) (λ _ db none. none) (λ _ db none. none) first.survives second.survives;
}

pub one_number : (m n : ℕ) → Int (pos m) ≡ Int (pos n) → m ≡ n
one_number m n h = cc

-- what is read of the row's columns has the columns of what was found
pub columns_as : {X : Type 0} (Is : X → Type 0) (columns : X → Row) (o : Option X) (row : Row) (x : X) (back : Row → Row) → IsRowOf Is columns o (Some row) → ((y : X) → back (columns y) ≡ columns y) → back row ≡ columns x → option_map columns (Some x) ≡ option_map columns o
columns_as Is columns None row x back h whole is = absurd (let e = h.shown in cc)
columns_as Is columns (Some y) row x back h whole is = let e : row ≡ columns y = let s = h.shown in cc in ap Some (sym is ∙ ap back e ∙ whole y)

pub columns_none : {X : Type 0} (Is : X → Type 0) (columns : X → Row) (o : Option X) → IsRowOf Is columns o None → option_map columns None ≡ option_map columns o
columns_none Is columns None h = refl
columns_none Is columns (Some y) h = absurd (let e = h.shown in cc)
