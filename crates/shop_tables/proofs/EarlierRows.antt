-- What queries give of tables of version 1.
use Rattle.std.proofs.Common.{◌≡◌, ℕ, pos, true, List, [], ◌∷◌, drop, map, codes, Result, IfOk, Vec, refl, sym, ap, ◌∙◌, arith}
use Rattle.std.specs.List.{AllByRecursion}
use Rattle.std.specs.FinMap.{entries}
use Rattle.std.specs.declared.alloc.Global.{Global}
use Rattle.sqlite_value.specs.declared.value.Value.TheVariants.{Int, Text}
use Rattle.sqlite_value.specs.Order.{Row, column}
use Rattle.sqlite_trees.specs.declared.store.Store.{Ghosts}
use Rattle.sqlite_tied.specs.Compute.{everything}
use Rattle.sqlite.specs.Held.{Held, state}
use Rattle.sqlite.specs.Listing.{understood}
use Rattle.sqlite.specs.Query.{Output}
use Rattle.sqlite.specs.State.{State, HasCleanDisk, Shown}
use Rattle.sqlite.specs.Term.{Term, lit, col}
use Rattle.sqlite.specs.declared.error.Error.{Error}
use Rattle.sqlite.specs.declared.rows.Row.{Row as Answered}
use Rattle.sqlite.proofs.Callers.{reads_as}
use Rattle.shop_records.specs.declared.records.Totals.{Totals}
use Rattle.shop_statements.specs.Earlier.{HasNoneReturned, HoldsEarlier, ShowsEarlier, earlier_row, earlier_schema, HoldsSecond, ShowsSecond}
use Rattle.shop_tables.specs.Stays.{shows_earlier_along, shows_second_along}
use Rattle.shop_tables.specs.Visiting.{IsHeldAt}
use Rattle.shop_tables.specs.Listing.{listed_row}
use Rattle.shop_statements.specs.Selecting.{is_select}
use Rattle.shop_statements.specs.Shown.{Books, IsAsWas, Leaves}
use Rattle.shop_statements.proofs.Finding.{code_same, code_total}
use Rattle.shop_tables.proofs.Ordered.{by_first, filter_true, in_order, rows_seen}
use Rattle.shop_statements.proofs.Terms.{Reads, from_table}
use Rattle.shop_tables.proofs.ListTexts.{by_code, by_rowid, first_of, all_codes_text, all_codes_terms, all_materials_text, all_materials_terms, all_parts_text, parts_of_terms, parts_of_order, demands_from_text, from_tests, open_demands_terms, jobs_from_text, jobs_from_terms, first_orders_text}

-- ---- the books that were held

pub held_along : (old new : State) (b : Books) → HasCleanDisk old → HoldsEarlier old b → IsAsWas old new → ShowsEarlier new b × (new.now ≡ new.committed)
held_along old new b clean was along =
    let before = was clean along.was_open in
    (shows_earlier_along old new b (sym (along.now before.committed)) before.shows, along.committed before.committed)

pub stays_earlier : (old new : State) (b : Books) → Leaves old new → HoldsEarlier old b → HoldsEarlier new b
stays_earlier old new b left was clean up =
    let now = held_along old new b (omega (arith, left.survives.clean)) was (left.as_was clean up) in record { shows = now.0; committed = now.1 }

pub second_along : (old new : State) (b : Books) → HasCleanDisk old → HoldsSecond old b → IsAsWas old new → ShowsSecond new b × (new.now ≡ new.committed)
second_along old new b clean was along =
    let before = was clean along.was_open in
    (shows_second_along old new b (sym (along.now before.committed)) before.shows, along.committed before.committed)

pub stays_second : (old new : State) (b : Books) → Leaves old new → HoldsSecond old b → HoldsSecond new b
stays_second old new b left was clean up =
    let now = second_along old new b (omega (arith, left.survives.clean)) was (left.as_was clean up) in record { shows = now.0; committed = now.1 }

pub sees_earlier : {S : Type 0} (g : Ghosts S) (sql : List ℕ) (params : Row) (old : Held S) (b : Books) → (HasCleanDisk (state g old)) → HoldsEarlier (state g old) b → (mid : Held S) → IsHeldAt g sql params old mid → ShowsEarlier (state g mid) b
sees_earlier g sql params old b clean was mid held = (held_along (state g old) (state g mid) b clean was held.as_was).0

-- ---- the meanings of their texts

pub earlier_codes_is : Reads earlier_schema all_codes_text (from_table 2 [] all_codes_terms by_code) (codes "code" ∷ [])
unfolding understood everything
earlier_codes_is = record { command = refl; listing = refl; plain = (refl, refl) }

pub earlier_parts_is : Reads earlier_schema all_parts_text (from_table 4 [] parts_of_terms parts_of_order)
    (codes "act" ∷ codes "node" ∷ codes "material" ∷ codes "batch" ∷ codes "root_act" ∷ codes "root_node" ∷ codes "x" ∷ codes "y" ∷ codes "w" ∷ codes "h" ∷ codes "state" ∷ codes "detail" ∷ [])
unfolding understood everything
earlier_parts_is = record { command = refl; listing = refl; plain = (refl, refl) }

pub earlier_materials_is : Reads earlier_schema all_materials_text (from_table 2 [] all_materials_terms by_code) (codes "kind" ∷ codes "kerf" ∷ codes "min_long" ∷ codes "min_short" ∷ codes "code" ∷ [])
unfolding understood everything
earlier_materials_is = record { command = refl; listing = refl; plain = (refl, refl) }

pub earlier_demands_from_is : Reads earlier_schema demands_from_text (first_of (col 0 1) (from_table 9 from_tests open_demands_terms by_rowid))
    (codes "ord" ∷ codes "line" ∷ codes "material" ∷ codes "w" ∷ codes "h" ∷ codes "turn" ∷ codes "worth" ∷ codes "wanted" ∷ codes "reserved" ∷ codes "made" ∷ codes "number" ∷ [])
unfolding understood everything
earlier_demands_from_is = record { command = refl; listing = refl; plain = (refl, refl) }

pub earlier_jobs_from_is : Reads earlier_schema jobs_from_text (first_of (col 0 1) (from_table 6 from_tests jobs_from_terms by_rowid)) (codes "part_act" ∷ codes "part_node" ∷ codes "tree" ∷ codes "state" ∷ codes "job" ∷ [])
unfolding understood everything
earlier_jobs_from_is = record { command = refl; listing = refl; plain = (refl, refl) }

pub earlier_first_orders_is : Reads earlier_schema first_orders_text (first_of (col 0 0) (from_table 7 [] all_codes_terms by_code)) (codes "ord" ∷ [])
unfolding understood everything
earlier_first_orders_is = record { command = refl; listing = refl; plain = (refl, refl) }

abbrev pub earlier_totals_text : List ℕ
earlier_totals_text = codes "SELECT received, stock, rack, pieces, kerf, scrap, 0, material FROM totals ORDER BY material"

abbrev earlier_totals_terms : List Term
earlier_totals_terms = col 1 2 ∷ col 1 3 ∷ col 1 4 ∷ col 1 5 ∷ col 1 6 ∷ col 1 7 ∷ lit (Int (pos 0)) ∷ col 1 1 ∷ []

pub earlier_totals_selects : is_select earlier_totals_text ≡ true
unfolding everything
earlier_totals_selects = refl

earlier_totals_is : Reads earlier_schema earlier_totals_text (from_table 15 [] earlier_totals_terms by_code)
    (codes "received" ∷ codes "stock" ∷ codes "rack" ∷ codes "pieces" ∷ codes "kerf" ∷ codes "scrap" ∷ codes "0" ∷ codes "material" ∷ [])
unfolding understood everything
earlier_totals_is = record { command = refl; listing = refl; plain = (refl, refl) }

-- ---- the totals

abbrev zero_listed : List ℕ × Totals → Row
zero_listed e = Int (pos e.1.received) ∷ Int (pos e.1.stock) ∷ Int (pos e.1.rack) ∷ Int (pos e.1.pieces) ∷ Int (pos e.1.kerf) ∷ Int (pos e.1.scrap) ∷ Int (pos 0) ∷ Text e.0 ∷ []

zeros : (es : List (List ℕ × Totals)) → AllByRecursion HasNoneReturned es → map zero_listed es ≡ map listed_row es
zeros [] h = refl
zeros (e ∷ es) h = λ i. (Int (pos e.1.received) ∷ Int (pos e.1.stock) ∷ Int (pos e.1.rack) ∷ Int (pos e.1.pieces) ∷ Int (pos e.1.kerf) ∷ Int (pos e.1.scrap) ∷ Int (pos (sym h.0 i)) ∷ Text e.0 ∷ []) ∷ zeros es h.1 i

pub lists_earlier_totals : (old new : State) (b : Books) → ShowsEarlier old b → (rows : List Row) → Shown earlier_totals_text [] old new rows → rows ≡ map listed_row (entries b.totals)
lists_earlier_totals old new b has rows shown =
    let is = earlier_totals_is in
    let a = (reads_as earlier_totals_text [] old new earlier_schema has.schema _ is.command is.plain is.listing rows shown).answer in
    in_order code_total code_same 15 [] earlier_totals_terms by_code (λ e. (Text e.0 ∷ [], zero_listed e)) (λ e f. by_first e.0 f.0) 1 old.now.trees [] refl earlier_row (λ _. true) (λ _. true) (λ r. refl) (λ e. refl)
    (λ d. (column d 0 ∷ [], column d 1 ∷ column d 2 ∷ column d 3 ∷ column d 4 ∷ column d 5 ∷ column d 6 ∷ Int (pos 0) ∷ column d 0 ∷ [])) later (λ e. refl) rows b.totals has.stands.totals a
    ∙ ap (map zero_listed) (filter_true (entries b.totals)) ∙ zeros (entries b.totals) has.stands.returned
  where
    later : (r : Row) → ◌≡◌ {A = Output} (column r 1 ∷ [], column r 2 ∷ column r 3 ∷ column r 4 ∷ column r 5 ∷ column r 6 ∷ column r 7 ∷ Int (pos 0) ∷ column r 1 ∷ [])
        (column (drop 1 r) 0 ∷ [], column (drop 1 r) 1 ∷ column (drop 1 r) 2 ∷ column (drop 1 r) 3 ∷ column (drop 1 r) 4 ∷ column (drop 1 r) 5 ∷ column (drop 1 r) 6 ∷ Int (pos 0) ∷ column (drop 1 r) 0 ∷ [])
    later [] = refl
    later (x ∷ d) = refl

-- what a query's rows are on held books of version 1
pub held_given_earlier : {E : Type 0} (sql : List ℕ) (params : Row) (old new : State) (is : is_select sql ≡ true) (left : is_select sql ≡ true → Leaves old new) (b : Books) (P : List Row → Type 0) (r : Result (Vec Answered Global) E) → HasCleanDisk new → HoldsEarlier old b
    → ((rows : List Row) → ShowsEarlier old b → Shown sql params old new rows → P rows) → IfOk r (λ rows. Shown sql params old new rows.items) → IfOk r (λ rows. P rows.items)
held_given_earlier sql params old new is left b P r clean was finds given =
    let before : HasCleanDisk old = let l = (left is).survives.clean in omega (arith, l) in
    rows_seen sql params old new (ShowsEarlier old b) P r (λ up. (was before up).shows) finds given

pub rows_given_earlier : (sql : List ℕ) (old new : State) (is : is_select sql ≡ true) (left : is_select sql ≡ true → Leaves old new) (b : Books) (list : List Row) (r : Result (Vec Answered Global) Error) → HasCleanDisk new → HoldsEarlier old b
    → ((rows : List Row) → ShowsEarlier old b → Shown sql [] old new rows → rows ≡ list) → IfOk r (λ rows. Shown sql [] old new rows.items) → IfOk r (λ rows. rows.items ≡ list)
rows_given_earlier sql old new is left b list r = held_given_earlier sql [] old new is left b (λ rows. rows ≡ list) r
