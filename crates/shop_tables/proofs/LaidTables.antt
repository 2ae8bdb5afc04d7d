-- The transaction that makes the tables, or brings them to version 3.
use Rattle.std.proofs.Common.{◌≡◌, false, IsTrue, sym, ap, subst, ◌∙◌}
use Rattle.sqlite_trees.specs.declared.store.Store.{Ghosts}
use Rattle.sqlite_trees.specs.Tree.{Trees}
use Rattle.sqlite.specs.Effect.{Database}
use Rattle.sqlite.specs.State.{State, HasCleanDisk, IsRolledBack, Survives}
use Rattle.sqlite.specs.State as sql
use Rattle.sqlite.specs.Held.{Held}
use Rattle.sqlite.proofs.StateLemmas.{survives_then}
use Rattle.sqlite.proofs.Callers.{survives_begin}
use Rattle.shop_tables.specs.Adopting.{HoldsMade, IsAsBefore, MakesTables, StandsMade}
use Rattle.shop_statements.specs.Shown.{Books, HasShopSchema, Holds, StandsIn, Within}
use Rattle.shop_tables.proofs.Commits.{old, begun, goes_back, shows_along, stands_in}

stands_made : (IsMade : Database → Database → Type 0) (old made : Database) (db : Trees) → db ≡ made.trees → IsMade old made → StandsMade IsMade old db
stands_made IsMade old made db is it = (made.schema, subst (λ t. IsMade old (record { schema = made.schema; trees = t })) (sym is) it)

module _ {S : Type 0} (g : Ghosts S) (h : Held S) where
  module _ (b : Books) (done last : State) (late : HasCleanDisk last → HasCleanDisk done) (made : MakesTables (begun g h) done b) where
    pub tables_committed : (HasCleanDisk last → sql.Shows done last done.now done.now false) → Holds last b
    tables_committed end clean up =
        let e = end clean in
        record { shows = shows_along done last b (sym e.now_is) (made.shows (late clean)); committed = e.now_is ∙ sym e.committed_is }

    pub tables_schema : (HasCleanDisk last → sql.Shows done last done.now done.now false) → HasShopSchema last
    tables_schema end clean up = ap (λ (d : Database). d.schema) (end clean).now_is ∙ made.schema (late clean)

    -- what a crash may leave after the commit
    pub tables_survive : Within (begun g h) done → Survives done last (λ db. db ≡ done.now.trees) → Survives (old g h) last (λ db. StandsIn db b)
    tables_survive within end = survives_begin g h last (λ db. StandsIn db b)
        (survives_then (begun g h) done last (λ _. ⊥) (λ db. db ≡ done.now.trees) (λ db. StandsIn db b) (λ _ db none. absurd none)
        (λ clean db is. subst (λ t. StandsIn t b) (sym is) (stands_in done b (made.shows (late clean)))) within.survives end)

  module _ (done last : State) (late : HasCleanDisk last → HasCleanDisk done) where
    module _ (IsMade : Database → Database → Type 0) (made : HasCleanDisk done → IsMade (old g h).now done.now) where
      -- the database was made so of the old one, and this is committed
      pub made_committed : (HasCleanDisk done → IsTrue (old g h).is_open) → ((db : Trees) → IsTrue last.is_open → last.may_leave db → db ≡ last.committed.trees) → (HasCleanDisk last → sql.Shows done last done.now done.now false) → HoldsMade IsMade (old g h) last
      made_committed was_open only end = record {
        was_open = λ clean. was_open (late clean);
        seen = λ clean up. let e = end clean in (subst (IsMade (old g h).now) (sym e.now_is) (made (late clean)), e.now_is ∙ sym e.committed_is);
        after = λ clean db left. let e = end clean in stands_made IsMade (old g h).now done.now db (only db e.is_open left ∙ ap (λ (d : Database). d.trees) e.committed_is) (made (late clean));
      }

      -- and what a crash may leave
      pub made_survives : (HasCleanDisk done → IsTrue (old g h).is_open) → Within (begun g h) done → Survives done last (λ db. db ≡ done.now.trees)
          → Survives (old g h) last (λ db. IsTrue (old g h).is_open × StandsMade IsMade (old g h).now db)
      made_survives was_open within end = survives_begin g h last (λ db. IsTrue (old g h).is_open × StandsMade IsMade (old g h).now db)
          (survives_then (begun g h) done last (λ _. ⊥) (λ db. db ≡ done.now.trees) (λ db. IsTrue (old g h).is_open × StandsMade IsMade (old g h).now db) (λ _ db none. absurd none)
          (λ clean db is. (was_open (late clean), stands_made IsMade (old g h).now done.now db is (made (late clean)))) within.survives end)

    -- the transaction is undone: what was there is seen again
    pub goes_back_as : (IsTrue (old g h).is_open → (old g h).now ≡ (old g h).committed) → Within (begun g h) done → (HasCleanDisk last → IsRolledBack done last) → IsAsBefore (old g h) last
    goes_back_as settled within back clean up = let went = goes_back g h done last late within back clean up in (sym (settled went.was_open ∙ went.seen), went.committed, went.was_open)
