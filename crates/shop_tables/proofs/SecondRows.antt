-- The queries of version 1 and 3 over tables of version 2.
use Rattle.std.proofs.Common.{◌≡◌, ℕ, List, [], ◌∷◌, codes, Result, IfOk, Vec, true, refl, arith}
use Rattle.std.specs.declared.alloc.Global.{Global}
use Rattle.sqlite_tied.specs.Compute.{everything}
use Rattle.sqlite_trees.specs.declared.store.Store.{Ghosts}
use Rattle.sqlite_value.specs.Order.{Row}
use Rattle.sqlite.specs.Held.{Held, state}
use Rattle.sqlite.specs.Listing.{understood}
use Rattle.sqlite.specs.State.{State, HasCleanDisk, Shown}
use Rattle.sqlite.specs.Term.{col}
use Rattle.sqlite.specs.declared.error.Error.{Error}
use Rattle.sqlite.specs.declared.rows.Row.{Row as Answered}
use Rattle.shop_statements.specs.Earlier.{HoldsSecond, ShowsSecond, second_schema}
use Rattle.shop_statements.specs.Selecting.{is_select}
use Rattle.shop_statements.specs.Shown.{Books, Leaves}
use Rattle.shop_statements.proofs.Terms.{Reads, from_table}
use Rattle.shop_tables.specs.Visiting.{IsHeldAt}
use Rattle.shop_tables.proofs.EarlierRows.{second_along}
use Rattle.shop_tables.proofs.ListTexts.{by_code, by_rowid, first_of, all_codes_text, all_codes_terms, all_materials_text, all_materials_terms, all_parts_text, all_totals_text, all_totals_terms, parts_of_terms, parts_of_order, demands_from_text, from_tests, open_demands_terms, jobs_from_text, jobs_from_terms, first_orders_text}
use Rattle.shop_tables.proofs.Ordered.{rows_seen}

pub sees_second : {S : Type 0} (g : Ghosts S) (sql : List ℕ) (params : Row) (old : Held S) (b : Books) → (HasCleanDisk (state g old)) → HoldsSecond (state g old) b → (mid : Held S) → IsHeldAt g sql params old mid → ShowsSecond (state g mid) b
sees_second g sql params old b clean was mid held = (second_along (state g old) (state g mid) b clean was held.as_was).0

-- ---- the meanings of their texts

pub second_codes_is : Reads second_schema all_codes_text (from_table 2 [] all_codes_terms by_code) (codes "code" ∷ [])
unfolding understood everything
second_codes_is = record { command = refl; listing = refl; plain = (refl, refl) }

pub second_parts_is : Reads second_schema all_parts_text (from_table 4 [] parts_of_terms parts_of_order)
    (codes "act" ∷ codes "node" ∷ codes "material" ∷ codes "batch" ∷ codes "root_act" ∷ codes "root_node" ∷ codes "x" ∷ codes "y" ∷ codes "w" ∷ codes "h" ∷ codes "state" ∷ codes "detail" ∷ [])
unfolding understood everything
second_parts_is = record { command = refl; listing = refl; plain = (refl, refl) }

pub second_materials_is : Reads second_schema all_materials_text (from_table 2 [] all_materials_terms by_code) (codes "kind" ∷ codes "kerf" ∷ codes "min_long" ∷ codes "min_short" ∷ codes "code" ∷ [])
unfolding understood everything
second_materials_is = record { command = refl; listing = refl; plain = (refl, refl) }

pub second_demands_from_is : Reads second_schema demands_from_text (first_of (col 0 1) (from_table 9 from_tests open_demands_terms by_rowid))
    (codes "ord" ∷ codes "line" ∷ codes "material" ∷ codes "w" ∷ codes "h" ∷ codes "turn" ∷ codes "worth" ∷ codes "wanted" ∷ codes "reserved" ∷ codes "made" ∷ codes "number" ∷ [])
unfolding understood everything
second_demands_from_is = record { command = refl; listing = refl; plain = (refl, refl) }

pub second_jobs_from_is : Reads second_schema jobs_from_text (first_of (col 0 1) (from_table 6 from_tests jobs_from_terms by_rowid)) (codes "part_act" ∷ codes "part_node" ∷ codes "tree" ∷ codes "state" ∷ codes "job" ∷ [])
unfolding understood everything
second_jobs_from_is = record { command = refl; listing = refl; plain = (refl, refl) }

pub second_first_orders_is : Reads second_schema first_orders_text (first_of (col 0 0) (from_table 7 [] all_codes_terms by_code)) (codes "ord" ∷ [])
unfolding understood everything
second_first_orders_is = record { command = refl; listing = refl; plain = (refl, refl) }

pub second_totals_is : Reads second_schema all_totals_text (from_table 17 [] all_totals_terms by_code)
    (codes "received" ∷ codes "stock" ∷ codes "rack" ∷ codes "pieces" ∷ codes "kerf" ∷ codes "scrap" ∷ codes "returned" ∷ codes "material" ∷ [])
unfolding understood everything
second_totals_is = record { command = refl; listing = refl; plain = (refl, refl) }

-- what a query's rows are on held books of version 2
pub held_given_second : {E : Type 0} (sql : List ℕ) (params : Row) (old new : State) (is : is_select sql ≡ true) (left : is_select sql ≡ true → Leaves old new) (b : Books) (P : List Row → Type 0) (r : Result (Vec Answered Global) E) → HasCleanDisk new → HoldsSecond old b
    → ((rows : List Row) → ShowsSecond old b → Shown sql params old new rows → P rows) → IfOk r (λ rows. Shown sql params old new rows.items) → IfOk r (λ rows. P rows.items)
held_given_second sql params old new is left b P r clean was finds given =
    let before : HasCleanDisk old = let l = (left is).survives.clean in omega (arith, l) in
    rows_seen sql params old new (ShowsSecond old b) P r (λ up. (was before up).shows) finds given

pub rows_given_second : (sql : List ℕ) (old new : State) (is : is_select sql ≡ true) (left : is_select sql ≡ true → Leaves old new) (b : Books) (list : List Row) (r : Result (Vec Answered Global) Error) → HasCleanDisk new → HoldsSecond old b
    → ((rows : List Row) → ShowsSecond old b → Shown sql [] old new rows → rows ≡ list) → IfOk r (λ rows. Shown sql [] old new rows.items) → IfOk r (λ rows. rows.items ≡ list)
rows_given_second sql old new is left b list r = held_given_second sql [] old new is left b (λ rows. rows ≡ list) r
