-- Which names a schema of ours takes, and which version is named.
use Rattle.std.proofs.Common.{◌≡◌, ◌&&◌, ◌||◌, Bool, not, ◌≤◌, ◌∙◌, ℕ, pos, ap, true, false, codes, Some, refl, sym, subst, arith}
use Rattle.sqlite_value.specs.declared.value.Value.TheVariants.{Int}
use Rattle.sqlite_value.specs.Order.{Row}
use Rattle.sqlite.specs.State.{State}
use Rattle.sqlite.specs.Schema.{Schema}
use Rattle.sqlite_schema.specs.Names.{same_name, table_named}
use Rattle.shop_tables.specs.Adopting.{HasVersion, first_are_tables, is_table, last_are_free, names_are_free, names_are_tables, names_are_earlier, names_are_second}
use Rattle.shop_tables.specs.Invalid.{HasValue}
use Rattle.shop_statements.specs.Found.{IsNumberRow}
use Rattle.shop_statements.specs.Earlier.{earlier_schema, second_schema}
use Rattle.shop_statements.specs.Layout.{HasShopTables}
use Rattle.shop_statements.proofs.Texts.{shop, shop_is}
use Rattle.shop_statements.proofs.Versions.{number_read}

abbrev Placed : Schema → Type 0
Placed s = (table_named s (codes "meta") ≡ Some 0) × (table_named s (codes "materials") ≡ Some 1) × (table_named s (codes "parts") ≡ Some 2) × (table_named s (codes "jobs") ≡ Some 3) × (table_named s (codes "orders") ≡ Some 4) × (table_named s (codes "demands") ≡ Some 5) × (table_named s (codes "kept") ≡ Some 6) × (table_named s (codes "imports") ≡ Some 7) × (table_named s (codes "totals") ≡ Some 8) × (table_named s (codes "totals2") ≡ Some 9) × (table_named s (codes "journal") ≡ Some 10) × (table_named s (codes "uses") ≡ Some 11) × (table_named s (codes "notes") ≡ Some 12) × (table_named s (codes "begun") ≡ Some 13) × (table_named s (codes "halts") ≡ Some 14)

spelled : (schema : Schema) (h : HasShopTables schema) → Placed (shop schema h)
unfolding same_name
spelled schema h = (refl, refl, refl, refl, refl, refl, refl, refl, refl, refl, refl, refl, refl, refl, refl)

placed : (schema : Schema) → HasShopTables schema → Placed schema
placed schema h = subst Placed (sym (shop_is schema h)) (spelled schema h)

pub taken : (schema : Schema) → HasShopTables schema → names_are_free schema ≡ false
taken schema h = rw (placed schema h).0 refl

pub stand : (schema : Schema) → HasShopTables schema → names_are_tables schema ≡ true
stand schema h = let f = placed schema h in rw (f.0, f.1, f.2, f.3, f.4, f.5, f.6, f.7, f.8, f.9, f.10, f.11, f.12, f.13, f.14) refl

pub not_earlier : (schema : Schema) → HasShopTables schema → names_are_earlier schema ≡ false
not_earlier schema h = let f = placed schema h in rw (f.0, f.1, f.2, f.3, f.4, f.5, f.6, f.7, f.8, f.9) refl

pub not_second : (schema : Schema) → HasShopTables schema → names_are_second schema ≡ false
not_second schema h = let f = placed schema h in rw (f.0, f.1, f.2, f.3, f.4, f.5, f.6, f.7, f.8, f.9, f.10) refl

-- and those that a schema of version 2 takes

pub second_taken : (schema : Schema) → schema ≡ second_schema → names_are_free schema ≡ false
unfolding same_name
second_taken schema is = ap names_are_free is

pub second_stand : (schema : Schema) → schema ≡ second_schema → names_are_second schema ≡ true
unfolding same_name
second_stand schema is = ap names_are_second is

pub second_not_earlier : (schema : Schema) → schema ≡ second_schema → names_are_earlier schema ≡ false
unfolding same_name
second_not_earlier schema is = ap names_are_earlier is

-- and those that a schema of version 1 takes

pub earlier_taken : (schema : Schema) → schema ≡ earlier_schema → names_are_free schema ≡ false
unfolding same_name
earlier_taken schema is = ap names_are_free is

pub earlier_stand : (schema : Schema) → schema ≡ earlier_schema → names_are_earlier schema ≡ true
unfolding same_name
earlier_stand schema is = ap names_are_earlier is

pub earlier_not_second : (schema : Schema) → schema ≡ earlier_schema → names_are_second schema ≡ false
unfolding same_name
earlier_not_second schema is = ap names_are_second is

-- ---- version 1's names aren't version 2's

not_both : (first table index view last : Bool) → (first && (not (table || index || view) && last)) ≡ true → ((first && table) && last) ≡ false
not_both false table index view last h = refl
not_both true true index view last h = absurd (cc)
not_both true false index view last h = refl

pub earlier_names_alone : (schema : Schema) → names_are_earlier schema ≡ true → names_are_second schema ≡ false
earlier_names_alone schema h = not_both (first_are_tables schema) (is_table schema (codes "totals2")) _ _ (last_are_free schema) h

-- ---- the version that is named

-- a number from the version to the version is the version
pub version_named : (s : State) (row : Row) (wanted : ℕ) → IsNumberRow s (codes "version") row → (n : ℕ) × (wanted ≤ n) × (n ≤ wanted) × HasValue row 0 (Int (pos n)) → HasVersion s wanted
version_named s row wanted it h =
    let same : h.0 ≡ wanted = let low = h.1 in let high = h.2 in omega (arith, low, high) in
    number_read s (codes "version") row (Int (pos wanted)) it (h.3.1 ∙ ap (λ n. Int (pos n)) same)
