-- No foreign key of the shop acts.
use Rattle.std.proofs.Common.{◌≡◌, ◌≢◌, ℕ, Bool, true, false, not, ◌&&◌, ◌==◌, if◌then◌else◌, List, [], ◌∷◌, length, Option, Some, None, refl, eq-eqb}
use Rattle.std.specs.List.{AllByRecursion, flat_map, filter_map}
use Rattle.sqlite_value.specs.Order.{Row}
use Rattle.sqlite.specs.Table.{Table}
use Rattle.sqlite.specs.Schema.{Schema}
use Rattle.sqlite_rules.specs.Action.{works, Work, deed_for, work_by, work_for, pairs}
use Rattle.sqlite_schema.specs.Rules.{ParentKey, parent_key}
use Rattle.sqlite_schema.specs.declared.schema.Keys.{Keys}
use Rattle.sqlite_schema.specs.declared.schema.Keys.TheVariants.{Enforced}
use Rattle.sqlite_rules.specs.declared.action.Deed.{Deed}
use Rattle.sqlite_schema.specs.declared.schema.Reference.{Reference}
use Rattle.shop_statements.specs.Layout.{HasShopTables, Rests}

none_of : (f : Table → Reference → Option Work) (t : Table) (refs : List Reference) → ((r : Reference) → Rests r → f t r ≡ None) → AllByRecursion Rests refs → filter_map (f t) refs ≡ []
none_of f t [] none rest = refl
none_of f t (r ∷ refs) none rest = rw (none r rest.0) (none_of f t refs none rest.1)

all_none : (f : Table → Reference → Option Work) (ts : List Table) → ((t : Table) (r : Reference) → Rests r → f t r ≡ None) → AllByRecursion (λ t. AllByRecursion Rests t.references) ts → flat_map (λ t. filter_map (f t) t.references) ts ≡ []
all_none f [] none rest = refl
all_none f (t ∷ ts) none rest = rw (none_of f t t.references (none t) rest.0) (all_none f ts none rest.1)

pub none_works : (schema : Schema) → AllByRecursion (λ t. AllByRecursion Rests t.references) schema.tables → (tree : ℕ) (olds news : List Row) → works schema Enforced 0 tree olds news ≡ []
none_works schema rests tree olds news = all_none (λ t r. work_for schema Enforced 0 tree olds news t r) schema.tables acts rests
  where
    by_deed : (child : Table) (ref : Reference) (b : Bool) → Rests ref → (key : Option ParentKey) → work_by 0 tree (pairs olds news) child ref (deed_for Enforced b ref) key ≡ None
    by_deed child ref true rest key = rw rest.0 refl
    by_deed child ref false rest key = rw rest.1 refl

    acts : (t : Table) (r : Reference) → Rests r → work_for schema Enforced 0 tree olds news t r ≡ None
    acts t r rest = by_deed t r (length news == 0) rest (parent_key schema.tables r)

pub no_works : (schema : Schema) → HasShopTables schema → (tree : ℕ) (olds news : List Row) → works schema Enforced 0 tree olds news ≡ []
no_works schema is = none_works schema is.rests

-- where no row is taken out, no foreign key acts at all
pub nothing_works : (schema : Schema) (keys : Keys) (tree : ℕ) (news : List Row) → works schema keys 0 tree [] news ≡ []
nothing_works schema keys tree news = tables schema.tables
  where
    unlost : (b : Bool) (w : Work) → ◌≡◌ {A = Option Work} (if b && false then Some w else None) None
    unlost true w = refl
    unlost false w = refl

    idle : (child : Table) (ref : Reference) (deed : Option Deed) (key : Option ParentKey) → work_by 0 tree [] child ref deed key ≡ None
    idle child ref None key = refl
    idle child ref (Some deed) None = refl
    idle child ref (Some deed) (Some key) = unlost (key.0 == tree) _

    references : (t : Table) (refs : List Reference) → filter_map (work_for schema keys 0 tree [] news t) refs ≡ []
    references t [] = refl
    references t (r ∷ refs) = rw (idle t r (deed_for keys (length news == 0) r) (parent_key schema.tables r)) (references t refs)

    tables : (ts : List Table) → flat_map (λ t. filter_map (work_for schema keys 0 tree [] news t) t.references) ts ≡ []
    tables [] = refl
    tables (t ∷ ts) = rw (references t t.references) (tables ts)

pub not_taken : (b : Bool) → (not b && true) ≡ true → b ≡ false
not_taken true h = absurd (cc)
not_taken false h = refl

pub unlike : (a b : ℕ) → (a == b) ≡ false → a ≢ b
unlike a b h e = absurd (let f = rw e at h in let g : (b == b) ≡ true = eq-eqb b b refl in cc)
