-- A text that reads a table of version 3 gives nothing of tables of version 2 or 1.
use Rattle.std.proofs.Common.{◌≡◌, ◌∙◌, ℕ, Bool, true, false, true≢false, List, Result, Ok, Err, refl, sym, ap}
use Rattle.sqlite_value.specs.Order.{Row}
use Rattle.sqlite_tied.specs.Compute.{everything}
use Rattle.sqlite.specs.Listing.{listing_schema, understood}
use Rattle.sqlite.specs.Schema.{Schema}
use Rattle.sqlite.specs.State.{State, Shown}
use Rattle.shop_statements.specs.Earlier.{earlier_schema, second_schema}
use Rattle.shop_tables.proofs.ListTexts.{begun_from_text}

abbrev is_known : {X E : Type 0} → Result X E → Bool
is_known (Ok x) = true
is_known (Err e) = false

none_shown : (sql : List ℕ) (params : Row) (old new : State) (rows : List Row) (schema : Schema) → is_known (understood schema sql) ≡ false → old.now.schema ≡ schema → Shown sql params old new rows → ⊥
unfolding Shown
none_shown sql params old new rows schema unknown has h = true≢false (sym (ap is_known h.1.is) ∙ ap (λ (s : Schema). is_known (understood s sql)) has ∙ unknown)

earlier_unknown : is_known (understood earlier_schema begun_from_text) ≡ false
unfolding understood listing_schema everything
earlier_unknown = refl

second_unknown : is_known (understood second_schema begun_from_text) ≡ false
unfolding understood listing_schema everything
second_unknown = refl

pub no_begun_earlier : (params : Row) (old new : State) (rows : List Row) → old.now.schema ≡ earlier_schema → Shown begun_from_text params old new rows → ⊥
no_begun_earlier params old new rows has = none_shown begun_from_text params old new rows earlier_schema earlier_unknown has

pub no_begun_second : (params : Row) (old new : State) (rows : List Row) → old.now.schema ≡ second_schema → Shown begun_from_text params old new rows → ⊥
no_begun_second params old new rows has = none_shown begun_from_text params old new rows second_schema second_unknown has
