-- What the statements leave alone.
use Rattle.std.proofs.Common.{◌≡◌, ℕ, List, [], ◌∷◌, slice_get, Some, Result, OnOk, refl, sym, ap, subst, ◌∙◌}
use Rattle.std.specs.List.{AllByRecursion}
use Rattle.sqlite_value.specs.Order.{Row}
use Rattle.sqlite.specs.Table.{Table}
use Rattle.sqlite.specs.Schema.{Schema}
use Rattle.sqlite.specs.Term.{Term}
use Rattle.sqlite.specs.Command.TheVariants.{Delete, Insert, Update}
use Rattle.sqlite.specs.Source.TheVariants.{Values}
use Rattle.sqlite.specs.Edit.{Edit}
use Rattle.sqlite.specs.Effect.{Database}
use Rattle.sqlite.specs.Listing.{understood}
use Rattle.sqlite.specs.State.{State, mode_of}
use Rattle.sqlite_schema.specs.declared.program.Program.{Program}
use Rattle.sqlite.proofs.Callers.{runs_as, statement_of}
use Rattle.shop_statements.specs.Layout.{HasShopTables, Loose, loosened}
use Rattle.shop_statements.specs.Beside.{IsNone, SparesRows, IsSameBeside, Spares}
use Rattle.shop_statements.specs.Shown.{HasExecuted, Went}
use Rattle.shop_statements.proofs.Steps.{on_ok_then}
use Rattle.shop_statements.proofs.Terms.{Writes}
use Rattle.shop_statements.proofs.Texts.{shop, shop_is}
use Rattle.shop_statements.proofs.Works.{no_works}
use Rattle.shop_statements.proofs.Writes.{bare, deleted, inserted, updated, IsEdited}

all_of : {X : Type 0} {P : X → Type 0} → ((x : X) → P x) → (xs : List X) → AllByRecursion P xs
all_of h [] = tt
all_of h (x ∷ xs) = (h x, all_of h xs)

all_so : {X : Type 0} {P Q : X → Type 0} → ((x : X) → P x → Q x) → (xs : List X) → AllByRecursion P xs → AllByRecursion Q xs
all_so h [] p = tt
all_so h (x ∷ xs) p = (h x p.0, all_so h xs p.1)

all_both : {X : Type 0} {P Q R : X → Type 0} → ((x : X) → P x → Q x → R x) → (xs : List X) → AllByRecursion P xs → AllByRecursion Q xs → AllByRecursion R xs
all_both h [] p q = tt
all_both h (x ∷ xs) p q = (h x p.0 q.0, all_both h xs p.1 q.1)

-- ---- no step, and two steps

pub beside_itself : (own : List ℕ) (a : Database) → IsSameBeside own a a
beside_itself own a = record { schema = refl; rows = record { tables = all_of (λ t far. refl) a.schema.tables; others = λ t far bare. refl } }

pub beside_then : (own : List ℕ) (a b c : Database) → IsSameBeside own a b → IsSameBeside own b c → IsSameBeside own a c
beside_then own a b c one two =
    let rows : SparesRows own a.schema b.trees c.trees = subst (λ s. SparesRows own s b.trees c.trees) one.schema two.rows in
    record {
      schema = two.schema ∙ one.schema;
      rows = record { tables = all_both (λ t p q far. q far ∙ p far) a.schema.tables one.rows.tables rows.tables; others = λ t far bare. rows.others t far bare ∙ one.rows.others t far bare };
    }

-- less is said where more may change
pub beside_more : (own more : List ℕ) (a b : Database) → ((t : ℕ) → IsNone more t → IsNone own t) → IsSameBeside own a b → IsSameBeside more a b
beside_more own more a b fewer h =
    record { schema = h.schema; rows = record { tables = all_so (λ t p far. p (fewer t.tree far)) a.schema.tables h.rows.tables; others = λ t far bare. h.rows.others t (fewer t far) bare } }

pub spares_itself : (own : List ℕ) (a : State) → Spares own a a
spares_itself own a clean inside is = beside_itself own a.now

pub spares_then : (own : List ℕ) (a b c : State) → Went a b → Went b c → Spares own a b → Spares own b c → Spares own a c
spares_then own a b c went more one two clean inside is =
    let early = more.earlier clean in
    let first = one early inside is in
    beside_then own a.now b.now c.now first (two clean (went.mode early inside) (subst HasShopTables (sym first.schema) is))

pub spares_more : {E : Type 0} (r : Result (Unit {0}) E) (own more : List ℕ) (a b : State) → ((t : ℕ) → IsNone more t → IsNone own t) → OnOk r (Spares own a b) → OnOk r (Spares more a b)
spares_more r own more a b fewer = on_ok_then r (λ h clean inside is. beside_more own more a.now b.now fewer (h clean inside is))

-- ---- a statement

beside : (db after : Database) (edit : Edit) → IsEdited db after edit → IsSameBeside (edit.table.tree ∷ []) db after
beside db after edit e = record {
  schema = e.schema_is;
  rows = record { tables = all_so (λ t p far. p (λ same. far.0 (sym same))) db.schema.tables e.tables; others = λ t far bare. e.others t (λ same. far.0 (sym same)) bare };
}

module _ {E : Type 0} (sql : List ℕ) (params : Row) (old new : State) (r : Result (Unit {0}) E) (at : ℕ) (t : Table) (loose : HasShopTables old.now.schema → Loose)
    (placed : (h : HasShopTables old.now.schema) → slice_get (shop old.now.schema h).tables at ≡ Some (bare (loosened (loose h) t))) where
  there : (h : HasShopTables old.now.schema) → slice_get old.now.schema.tables at ≡ Some (bare (loosened (loose h) t))
  there h = ap (λ (s : Schema). slice_get s.tables at) (shop_is old.now.schema h) ∙ placed h

  pub puts_beside : (terms : List Term) (width : ℕ) → ((h : HasShopTables old.now.schema) → Writes (shop old.now.schema h) sql (Insert at (Values terms width))) → OnOk r (HasExecuted sql params old new) → OnOk r (Spares (t.tree ∷ []) old new)
  puts_beside terms width is = on_ok_then r (λ ran clean inside h.
      let run = ran clean inside in
      let w = runs_as sql params old new (shop old.now.schema h) (shop_is old.now.schema h) _ (is h).command (is h).plain run.0 run.1 in
      beside old.now new.now _ (inserted old.step_limit (mode_of old) params old.now new.now w.tally at (loosened (loose h) t) (there h) (statement_of sql (understood (shop old.now.schema h) sql)) terms width w.changed))

  pub sets_beside : (q : Program) → ((h : HasShopTables old.now.schema) → Writes (shop old.now.schema h) sql (Update at q)) → OnOk r (HasExecuted sql params old new) → OnOk r (Spares (t.tree ∷ []) old new)
  sets_beside q is = on_ok_then r (λ ran clean inside h.
      let run = ran clean inside in
      let w = runs_as sql params old new (shop old.now.schema h) (shop_is old.now.schema h) _ (is h).command (is h).plain run.0 run.1 in
      let u = updated old.step_limit (mode_of old) params old.now new.now w.tally at (loosened (loose h) t) (there h) (statement_of sql (understood (shop old.now.schema h) sql)) q (no_works old.now.schema h t.tree) w.changed in
      beside old.now new.now _ u.2)

  pub clears_beside : (q : Program) → ((h : HasShopTables old.now.schema) → Writes (shop old.now.schema h) sql (Delete at q)) → OnOk r (HasExecuted sql params old new) → OnOk r (Spares (t.tree ∷ []) old new)
  clears_beside q is = on_ok_then r (λ ran clean inside h.
      let run = ran clean inside in
      let w = runs_as sql params old new (shop old.now.schema h) (shop_is old.now.schema h) _ (is h).command (is h).plain run.0 run.1 in
      let u = deleted old.step_limit (mode_of old) params old.now new.now w.tally at (loosened (loose h) t) (there h) (statement_of sql (understood (shop old.now.schema h) sql)) q (no_works old.now.schema h t.tree) w.changed in
      beside old.now new.now _ u.2)
