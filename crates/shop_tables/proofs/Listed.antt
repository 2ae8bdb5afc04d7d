-- All parts, in order.
use Rattle.std.proofs.Common.{◌≡◌, ℕ, pos, Bool, true, false, List, [], ◌∷◌, ◌++◌, map, drop, Some, refl, sym, ap, ◌∙◌, arith, inl, inr, append-nil, Ok, Err, Result, IfOk}
use Rattle.std.specs.List.{AllByRecursion}
use Rattle.std.specs.Ordering.{int_cmp, nat_cmp, ordering_then}
use Rattle.std.specs.declared.cmp.Ordering.TheVariants.{Equal}
use Rattle.std.specs.FinMap.{entries, entries_sorted, get-entries, values}
use Rattle.std.proofs.lemmas.Int.{ints}
use Rattle.std.proofs.lemmas.Bool.Decides.{nat_tests}
use Rattle.sqlite_value.specs.declared.value.Value.TheVariants.{Int}
use Rattle.sqlite_value.specs.Order.{Row, column, value_cmp}
use Rattle.sqlite_value.proofs.OrderLemmas.{value_cmp-Int, then-Equal}
use Rattle.sqlite.specs.Schema.{Schema}
use Rattle.sqlite.specs.Term.{Term}
use Rattle.sqlite.specs.Query.{Output, output_cmp}
use Rattle.sqlite.specs.Program.{IsProgramAnswer}
use Rattle.sqlite_trees.specs.declared.store.Store.{Ghosts}
use Rattle.sqlite.specs.Held.{Held, state}
use Rattle.sqlite.specs.State.{State, HasCleanDisk, Shown, Begins}
use Rattle.sqlite.proofs.Callers.{reads_as, begins_as}
use Rattle.cut_measure.specs.Names.{Name, name_cmp}
use Rattle.shop_records.specs.Content.{Content, part_at}
use Rattle.shop_records.specs.Elements.{IsIn}
use Rattle.shop_records.specs.Visits.{IsVisit}
use Rattle.shop_records.specs.declared.records.Part.{Part}
use Rattle.shop_records.proofs.Entries.{found_in}
use Rattle.shop_tables.specs.Visiting.{AreReadOf, IsHeldAt, IsBorrowed, gone_through}
use Rattle.shop_statements.specs.declared.faults.TableFault.{TableFault}
use Rattle.shop_tables.specs.declared.visiting.VisitEnd.{VisitEnd}
use Rattle.shop_tables.specs.declared.visiting.VisitEnd.TheVariants as borrowed
use Rattle.shop_statements.specs.Rows.{AreRows, IsKeyed, part_row}
use Rattle.shop_statements.specs.Shown.{Books, Shows, Holds, OnBooks}
use Rattle.shop_tables.specs.Invalid.{IsNoPart}
use Rattle.shop_statements.specs.Values.{IsPartValue}
use Rattle.shop_statements.proofs.Finding.{name_total, name_same}
use Rattle.shop_tables.proofs.Ordered.{filter_true, in_order}
use Rattle.shop_statements.proofs.Terms.{Reads, from_table}
use Rattle.shop_tables.proofs.ListTexts.{parts_of_terms, parts_of_order, all_parts_text, all_parts_is}
use Rattle.shop_statements.proofs.Texts.{shop, shop_is}

-- ---- the order of the rows

abbrev pub whole : Row → Row
whole d = column d 0 ∷ column d 1 ∷ column d 2 ∷ column d 3 ∷ column d 4 ∷ column d 5 ∷ column d 6 ∷ column d 7 ∷ column d 8 ∷ column d 9 ∷ column d 10 ∷ column d 11 ∷ []

abbrev pub part_out : Name × Part → Output
part_out e = (Int (pos e.0.act) ∷ Int (pos e.0.node) ∷ [], part_row e)

pub shown_later : (r : Row) → ◌≡◌ {A = Output} (column r 1 ∷ column r 2 ∷ [], column r 1 ∷ column r 2 ∷ column r 3 ∷ column r 4 ∷ column r 5 ∷ column r 6 ∷ column r 7 ∷ column r 8 ∷ column r 9 ∷ column r 10 ∷ column r 11 ∷ column r 12 ∷ []) (column (drop 1 r) 0 ∷ column (drop 1 r) 1 ∷ [], whole (drop 1 r))
shown_later [] = refl
shown_later (x ∷ d) = refl

as_nat : (m n : ℕ) → int_cmp (pos m) (pos n) ≡ nat_cmp m n
as_nat m n = grind (arith, ints, nat_tests)

pub ranked : (m n : ℕ) → value_cmp (Int (pos m)) (Int (pos n)) ≡ nat_cmp m n
ranked m n = value_cmp-Int (pos m) (pos n) ∙ as_nat m n

pub by_output : (tests : List Term) (a b : Name × Part) → output_cmp (from_table 4 tests parts_of_terms parts_of_order) (part_out a) (part_out b) ≡ name_cmp a.0 b.0
by_output tests a b = (λ i. ordering_then (ranked a.0.act b.0.act i) (ordering_then (ranked a.0.node b.0.node i) Equal)) ∙ ap (ordering_then (nat_cmp a.0.act b.0.act)) (then-Equal (nat_cmp a.0.node b.0.node))

-- ---- from rows to parts

-- the first rows are those of the first parts
first_parts : (es : List (Name × Part)) → AllByRecursion (λ e. e.1.name ≡ e.0) es → (given tail : List Row) (parts : List Part) → given ++ tail ≡ map part_row es → AreReadOf given parts
    → (rest : List Part) × (map (λ e. e.1) es ≡ parts ++ rest) × (tail ≡ [] → rest ≡ [])
first_parts es named [] tail [] is read = (map (λ e. e.1) es, refl, λ none. ended es (sym is ∙ none))
  where
    ended : (fs : List (Name × Part)) → map part_row fs ≡ [] → map (λ e. e.1) fs ≡ []
    ended [] h = refl
    ended (f ∷ fs) h = absurd (cc)
first_parts es named [] tail (p ∷ parts) is read = absurd read
first_parts es named (r ∷ given) tail [] is read = absurd read
first_parts [] named (r ∷ given) tail (p ∷ parts) is read = absurd (cc)
first_parts (e ∷ es) named (r ∷ given) tail (p ∷ parts) is read =
    let head : r ≡ part_row e = cc in
    let more : given ++ tail ≡ map part_row es = cc in
    let own : p ≡ e.1 = read.0.0 e head ∙ (λ i. record e.1 { name = sym named.0 i }) in
    let next = first_parts es named.1 given tail parts more read.1 in
    (next.0, (λ i. sym own i ∷ next.1 i), next.2)

-- what holds of each found part holds of each entry
each_entry : (P : Name → Part → Type 0) (m : Content) → ((name : Name) (part : Part) → part_at m name ≡ Some part → P name part) → AllByRecursion (λ (e : Name × Part). P e.0 e.1) (entries m.parts)
each_entry P m all = go (entries m.parts) (λ e i. all e.0 e.1 (get-entries m.parts e.0 ∙ found_in (entries m.parts) e (entries_sorted m.parts) i))
  where
    go : (es : List (Name × Part)) → ((e : Name × Part) → IsIn e es → P e.0 e.1) → AllByRecursion (λ (e : Name × Part). P e.0 e.1) es
    go [] h = tt
    go (e ∷ es) h = (h e (inl refl), go es (λ f i. h f (inr i)))

all_named : (m : Content) → IsKeyed m → AllByRecursion (λ (e : Name × Part). e.1.name ≡ e.0) (entries m.parts)
all_named m keyed = each_entry (λ name part. part.name ≡ name) m keyed.parts

-- a value under its own name
abbrev IsOwnValue : Name → Part → Type 0
IsOwnValue name part = (part.name ≡ name) × IsPartValue part

-- ---- all parts

row_among : (given : List Row) (row : Row) (rest : List Row) (es : List (Name × Part)) → AllByRecursion (λ e. IsOwnValue e.0 e.1) es → (given ++ row ∷ []) ++ rest ≡ map part_row es → ¬ IsNoPart row
row_among [] row rest [] all is none = absurd (cc)
row_among [] row rest (e ∷ es) all is none =
    let head : row ≡ part_row e = cc in
    none e.1 all.0.1 (head ∙ (λ i. part_row (sym all.0.0 i, e.1)))
row_among (r ∷ given) row rest [] all is none = absurd (cc)
row_among (r ∷ given) row rest (e ∷ es) all is none = row_among given row rest es all.1 (cc) none

some_rows : (given : List Row) (row : Row) → ¬ (given ++ row ∷ [] ≡ [])
some_rows [] row is = absurd (cc)
some_rows (r ∷ given) row is = absurd (cc)

-- under any schema in which the text means this
module _ (old : State) (schema : Schema) (has : old.now.schema ≡ schema) (names : List (List ℕ)) (is : Reads schema all_parts_text (from_table 4 [] parts_of_terms parts_of_order) names)
    (m : Content) (keyed : IsKeyed m) (are : AreRows 1 (map part_row (entries m.parts)) (old.now.trees 4)) where
  every : (rows : List Row) → IsProgramAnswer [] (from_table 4 [] parts_of_terms parts_of_order) old.now.trees [] rows → rows ≡ map part_row (entries m.parts)
  every rows a =
      in_order name_total name_same 4 [] parts_of_terms parts_of_order part_out (by_output []) 1 old.now.trees [] refl part_row (λ _. true) (λ _. true) (λ r. refl) (λ e. refl)
      (λ d. (column d 0 ∷ column d 1 ∷ [], whole d)) shown_later (λ e. refl) rows m.parts are a
      ∙ ap (map part_row) (filter_true (entries m.parts))

  -- all rows were visited
  pub all_there_of : (new : State) (given : List Row) (parts : List Part) → Shown all_parts_text [] old new given → AreReadOf given parts → values m.parts ≡ parts
  all_there_of new given parts shown read =
      let a = (reads_as all_parts_text [] old new schema has _ is.command is.plain is.listing given shown).answer in
      let f = first_parts _ (all_named m keyed) given [] parts (append-nil given ∙ every given a) read in
      f.1 ∙ ap (λ l. parts ++ l) (f.2 refl) ∙ append-nil parts

  -- the first of them were
  pub first_there_of : (given : List Row) (parts : List Part) → Begins all_parts_text [] old given → AreReadOf given parts → (rest : List Part) × (values m.parts ≡ parts ++ rest)
  first_there_of given parts begins read =
      let first = begins_as all_parts_text [] old old schema has _ is.command is.plain is.listing given begins in
      let more = first.1 in
      let f = first_parts _ (all_named m keyed) given more.0 parts (every (given ++ more.0) more.1) read in
      (f.0, f.1)

  -- each of their rows is a part's
  pub none_stranger_of : (given : List Row) (row : Row) → Begins all_parts_text [] old (given ++ row ∷ []) → ¬ IsNoPart row
  none_stranger_of given row begins none =
      let more = (begins_as all_parts_text [] old old schema has _ is.command is.plain is.listing (given ++ row ∷ []) begins).1 in
      row_among given row more.0 (entries m.parts) (each_entry IsOwnValue m (λ name part found. (keyed.parts name part found, keyed.values name part found))) (every ((given ++ row ∷ []) ++ more.0) more.1) none

module _ (old : State) (b : Books) (has : Shows old b) where
  pub all_there : (new : State) (given : List Row) (parts : List Part) → Shown all_parts_text [] old new given → AreReadOf given parts → values b.content.parts ≡ parts
  all_there = all_there_of old (shop old.now.schema has.schema) (shop_is old.now.schema has.schema) _ (all_parts_is old.now.schema has.schema) b.content has.keyed has.stands.parts

  pub first_there : (given : List Row) (parts : List Part) → Begins all_parts_text [] old given → AreReadOf given parts → (rest : List Part) × (values b.content.parts ≡ parts ++ rest)
  first_there = first_there_of old (shop old.now.schema has.schema) (shop_is old.now.schema has.schema) _ (all_parts_is old.now.schema has.schema) b.content has.keyed has.stands.parts

  pub none_stranger : (given : List Row) (row : Row) → Begins all_parts_text [] old (given ++ row ∷ []) → ¬ IsNoPart row
  none_stranger = none_stranger_of old (shop old.now.schema has.schema) (shop_is old.now.schema has.schema) _ (all_parts_is old.now.schema has.schema) b.content has.keyed has.stands.parts

-- ---- what a visitor was handed of them

none_read : (parts : List Part) → AreReadOf [] parts → parts ≡ []
none_read [] h = refl
none_read (p ∷ parts) h = absurd h

-- of a query whose rows are those of a list of parts, where books were held and are seen
module _ {S : Type 0} (g : Ghosts S) (sql : List ℕ) (params : Row) (list : Books → List Part) (Sees : State → Books → Type 0)
    (whole_list : (s t : State) (b : Books) → Sees s b → (given : List Row) (parts : List Part) → Shown sql params s t given → AreReadOf given parts → list b ≡ parts)
    (first_of : (s : State) (b : Books) → Sees s b → (given : List Row) (parts : List Part) → Begins sql params s given → AreReadOf given parts → (rest : List Part) × (list b ≡ parts ++ rest))
    (old new : Held S) (Was : Books → Type 0) (sees : (b : Books) → Was b → (mid : Held S) → IsHeldAt g sql params old mid → Sees (state g mid) b)
    {V : Type 0} (looks : V → Part → Bool → V → Type 0) (before after : V) where
  abbrev Handed : Result VisitEnd TableFault → Type 0
  Handed r = IsBorrowed g sql params old looks new before r after

  abbrev Visited : Result Bool TableFault → Type 0
  Visited reported = IsVisit looks {Fault = TableFault} (λ what. HasCleanDisk (state g new) → (b : Books) → Was b → what (list b)) before reported after

  -- the parts that were handed out begin the list
  begin_listed : (r : Result VisitEnd TableFault) (h : Handed r) → HasCleanDisk (state g new) → (b : Books) → Was b → (rest : List Part) × (list b ≡ h.parts ++ rest)
  begin_listed r h clean b was = elim (h.begins clean) [
    | inl none ↦ (list b, ap (λ l. l ++ list b) (sym (none_read h.parts (rw none at h.read))))
    | inr some ↦ first_of (state g some.0) b (sees b was some.0 some.1) h.given h.parts some.2 h.read
  ]

  pub visits_all : (r : Result VisitEnd TableFault) → r ≡ Ok borrowed.All → Handed r → Visited (Ok true)
  visits_all r is h =
      let it = rw is at h in
      record {
        parts = it.parts;
        on = it.on;
        visitor = it.visitor;
        answer = sym it.reported;
        begins = λ clean b was.
            let whole = it.whole clean refl in
            ([], whole_list (state g whole.0) (state g whole.1) b (sees b was whole.0 whole.2) it.given it.parts whole.3 it.read ∙ sym (append-nil it.parts), λ _. refl);
      }

  pub visits_some : (r : Result VisitEnd TableFault) → r ≡ Ok borrowed.Stopped → Handed r → Visited (Ok false)
  visits_some r is h =
      let it = rw is at h in
      record {
        parts = it.parts;
        on = it.on;
        visitor = it.visitor;
        answer = sym it.reported;
        begins = λ clean b was. let first = begin_listed (Ok borrowed.Stopped) it clean b was in (first.0, first.1, λ on. absurd (cc));
      }

  pub visits_till : (r : Result VisitEnd TableFault) (reported : Result Bool TableFault) → IfOk reported (λ on. ⊥) → Handed r → Visited reported
  visits_till r (Ok on) none h = absurd none
  visits_till r (Err fault) none h = record {
    parts = h.parts;
    on = h.on;
    visitor = h.visitor;
    answer = tt;
    begins = λ clean b was. let first = begin_listed r h clean b was in (first.0, first.1, tt);
  }

  -- as it is said of all parts
  pub visited_by : (r : Result VisitEnd TableFault) → Handed r → Visited (gone_through r)
  visited_by (Ok borrowed.All) h = visits_all (Ok borrowed.All) refl h
  visited_by (Ok borrowed.Stopped) h = visits_some (Ok borrowed.Stopped) refl h
  visited_by (Ok borrowed.Invalid) h = visits_till (Ok borrowed.Invalid) (gone_through (Ok borrowed.Invalid)) tt h
  visited_by (Err e) h = visits_till (Err e) (gone_through (Err e)) tt h

  -- no row that can't be a part's is met
  pub not_invalid_by : (r : Result VisitEnd TableFault) → Handed r → ((s : State) (b : Books) → Sees s b → (given : List Row) (row : Row) → Begins sql params s (given ++ row ∷ []) → ¬ IsNoPart row)
      → HasCleanDisk (state g new) → (b : Books) → Was b → IfOk r (λ how. ¬ (how ≡ borrowed.Invalid))
  not_invalid_by (Err e) h all clean b was = tt
  not_invalid_by (Ok how) h all clean b was = λ is.
      let it = h.invalid clean is in
      elim it.2 [ inl none ↦ some_rows h.given it.0 none | inr some ↦ all (state g some.0) b (sees b was some.0 some.1) h.given it.0 some.2 it.1 ]

-- of held books
module _ {S : Type 0} (g : Ghosts S) (sql : List ℕ) (params : Row) (list : Books → List Part)
    (whole_list : (s t : State) (b : Books) → Shows s b → (given : List Row) (parts : List Part) → Shown sql params s t given → AreReadOf given parts → list b ≡ parts)
    (first_of : (s : State) (b : Books) → Shows s b → (given : List Row) (parts : List Part) → Begins sql params s given → AreReadOf given parts → (rest : List Part) × (list b ≡ parts ++ rest))
    (old new : Held S) {V : Type 0} (looks : V → Part → Bool → V → Type 0) (before after : V) where
  abbrev pub VisitedHeld : Result Bool TableFault → Type 0
  VisitedHeld reported = IsVisit looks {Fault = TableFault} (λ what. OnBooks (state g old) (state g new) (λ b. what (list b))) before reported after

  sees : (b : Books) → Holds (state g old) b → (mid : Held S) → IsHeldAt g sql params old mid → Shows (state g mid) b
  sees b was mid held = (held.stays b was held.clean held.is_open).shows

  pub visited : (r : Result VisitEnd TableFault) → IsBorrowed g sql params old looks new before r after → VisitedHeld (gone_through r)
  visited = visited_by g sql params list Shows whole_list first_of old new (Holds (state g old)) sees looks before after

  pub not_invalid : (r : Result VisitEnd TableFault) → IsBorrowed g sql params old looks new before r after → ((s : State) (b : Books) → Shows s b → (given : List Row) (row : Row) → Begins sql params s (given ++ row ∷ []) → ¬ IsNoPart row)
      → OnBooks (state g old) (state g new) (λ b. IfOk r (λ how. ¬ (how ≡ borrowed.Invalid)))
  not_invalid = not_invalid_by g sql params list Shows whole_list first_of old new (Holds (state g old)) sees looks before after
