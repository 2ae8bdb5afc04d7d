-- What the query of orders gives of the books.
use Rattle.std.proofs.Common.{◌≡◌, ℕ, pos, true, List, [], ◌∷◌, map, drop, filter, take, Option, None, refl, sym, ap, ◌∙◌}
use Rattle.std.specs.FinMap.{entries}
use Rattle.std.proofs.lemmas.List.{take-map}
use Rattle.sqlite_value.specs.declared.value.Value.TheVariants.{Int, Text}
use Rattle.sqlite_value.specs.Order.{Row, column}
use Rattle.sqlite.specs.Query.{Output}
use Rattle.sqlite.specs.Schema.{Schema}
use Rattle.sqlite.specs.State.{State, Shown}
use Rattle.sqlite.specs.Term.{col}
use Rattle.sqlite.proofs.Callers.{reads_as}
use Rattle.shop_records.specs.Content.{Content}
use Rattle.shop_records.specs.Lists.{is_code_after, orders_after}
use Rattle.shop_records.proofs.OrderCodes.{codes_are}
use Rattle.shop_statements.specs.Rows.{AreOrders, order_row}
use Rattle.shop_statements.specs.Shown.{Books, Shows}
use Rattle.shop_statements.proofs.Finding.{code_same, code_total}
use Rattle.shop_statements.proofs.Lists.{filter-map, map-map}
use Rattle.shop_statements.proofs.Terms.{Reads, from_table}
use Rattle.shop_statements.proofs.Texts.{shop, shop_is}
use Rattle.shop_tables.specs.Listing.{code_row}
use Rattle.shop_tables.proofs.Firsts.{first_answer}
use Rattle.shop_tables.proofs.ListTexts.{all_codes_terms, by_code, first_of, first_orders_is, first_orders_text}
use Rattle.shop_tables.proofs.Ordered.{by_first, in_order}

-- ---- the codes of orders

one_later : (r : Row) → ◌≡◌ {A = Output} (column r 1 ∷ [], column r 1 ∷ []) (column (drop 1 r) 0 ∷ [], column (drop 1 r) 0 ∷ [])
one_later [] = refl
one_later (x ∷ d) = refl

abbrev code_out : List ℕ × Unit {0} → Output
code_out e = (Text e.0 ∷ [], code_row e.0)

-- under any schema in which the texts mean these queries
module _ (old new : State) (schema : Schema) (has : old.now.schema ≡ schema) (names : List (List ℕ)) (content : Content) (are : AreOrders content.orders (old.now.trees 7)) (most : ℕ) where
  abbrev code_of : List ℕ × Unit {0} → List ℕ
  code_of e = e.0

  -- what is shown of the table's codes is what is listed of the books' orders
  orders_as : (after : Option (List ℕ)) → map (λ e. (code_out e).1) (filter (λ e. is_code_after after e.0) (entries are.codes)) ≡ map code_row (orders_after content after)
  orders_as after =
      sym (map-map code_row code_of (filter (λ e. is_code_after after e.0) (entries are.codes)))
      ∙ ap (map code_row) (sym (filter-map code_of (is_code_after after) (entries are.codes)) ∙ ap (filter (is_code_after after)) (sym (codes_are content are.codes are.there)))

  pub lists_first_orders_of : Reads schema first_orders_text (first_of (col 0 0) (from_table 7 [] all_codes_terms by_code)) names
      → (rows : List Row) → Shown first_orders_text (Int (pos most) ∷ []) old new rows → rows ≡ map code_row (take most (orders_after content None))
  lists_first_orders_of is rows shown =
      let params = Int (pos most) ∷ [] in
      let a = (reads_as first_orders_text params old new schema has _ is.command is.plain is.listing rows shown).answer in
      let first = first_answer 7 [] all_codes_terms by_code (col 0 0) old.now.trees params rows a in
      let all : first.0 ≡ map code_row (orders_after content None) =
      in_order code_total code_same 7 [] all_codes_terms by_code code_out (λ e f. by_first e.0 f.0) 1 old.now.trees params refl order_row (λ _. true) (λ _. true) (λ r. refl) (λ e. refl)
      (λ d. (column d 0 ∷ [], column d 0 ∷ [])) one_later (λ e. refl) first.0 are.codes are.rows first.1
      ∙ orders_as None in
      first.2 ∙ ap (take most) all ∙ take-map code_row most _

module _ (old new : State) (b : Books) (has : Shows old b) (most : ℕ) where
  abbrev over : Schema
  over = shop old.now.schema has.schema

  pub lists_first_orders : (rows : List Row) → Shown first_orders_text (Int (pos most) ∷ []) old new rows → rows ≡ map code_row (take most (orders_after b.content None))
  lists_first_orders = lists_first_orders_of old new over (shop_is old.now.schema has.schema) _ b.content has.stands.orders most (first_orders_is old.now.schema has.schema)
