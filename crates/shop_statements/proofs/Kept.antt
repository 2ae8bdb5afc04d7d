-- What a reading leaves.
use Rattle.std.proofs.Common.{◌≡◌, ◌⊎◌, inl, inr, ℕ, List, Option, Some, None, Ok, Err, Result, IsTrue, IfOk, IfErr, sym, subst, ◌∙◌}
use Rattle.sqlite.specs.declared.rows.Row.{Row as Answered}
use Rattle.sqlite_value.specs.Order.{Row}
use Rattle.sqlite_resolve.specs.declared.compiled.Compiled.{Compiled}
use Rattle.sqlite_schema.specs.declared.command.Returning.{Returning}
use Rattle.std.specs.declared.alloc.Global.{Global}
use Rattle.sqlite.specs.declared.error.Error.{Error}
use Rattle.std.proofs.Common.{Vec}
use Rattle.sqlite.specs.Effect.{Database}
use Rattle.sqlite.specs.State.{State, HasCleanDisk, IsUnchanged, IsRolledBack, Shown, ShowsRows, FailsToQuery, FailsToShow, IsNotRun, KeepsCommit, Survives, CommitsShowing}
use Rattle.sqlite.specs.Effect.{IsDatabase}
use Rattle.shop_statements.specs.Layout.{HasShopTables}
use Rattle.shop_statements.proofs.Queries.{query_returns, query_commits}
use Rattle.shop_statements.specs.Selecting.{is_select}
use Rattle.std.proofs.Common.{true}
use Rattle.shop_statements.specs.Rows.{Stands}
use Rattle.shop_statements.specs.Shown.{Books, IsSettled, Holds, IsAsWas}

-- the database is as it was, or the transaction is undone
abbrev pub Stays : State → State → Type 0
Stays old new = IsUnchanged old new ⊎ IsRolledBack old new

module _ (old new : State) (m : Books) where
  pub stays_open : Stays old new → IsTrue new.is_open → IsTrue old.is_open
  stays_open (inl same) up = same.0.was_open
  stays_open (inr undone) up = undone.was_open up

  pub settled_stays : Stays old new → IsTrue new.is_open → IsSettled old m → IsSettled new m
  settled_stays (inl same) up was =
      let now : old.now ≡ new.now = sym same.0.now_is in
      let commit : old.committed ≡ new.committed = sym same.0.committed_is in
      record {
        shows = record { schema = subst (λ (d : Database). HasShopTables d.schema) now was.shows.schema; sound = subst IsDatabase now was.shows.sound; stands = subst (λ (d : Database). Stands d.trees m.content m.totals m.uses) now was.shows.stands; keyed = was.shows.keyed };
        committed = sym now ∙ was.committed ∙ commit;
      }
  settled_stays (inr undone) up was =
      let back = undone.undone up in
      let now : old.now ≡ new.now = was.committed ∙ sym back.0 in
      record {
        shows = record { schema = subst (λ (d : Database). HasShopTables d.schema) now was.shows.schema; sound = subst IsDatabase now was.shows.sound; stands = subst (λ (d : Database). Stands d.trees m.content m.totals m.uses) now was.shows.stands; keyed = was.shows.keyed };
        committed = back.0 ∙ sym back.1;
      }

pub stays_as_was : (old new : State) → Stays old new → IsTrue new.is_open → IsAsWas old new
stays_as_was old new (inl same) up = record { was_open = same.0.was_open; now = λ _. same.0.now_is; committed = λ settled. same.0.now_is ∙ settled ∙ sym same.0.committed_is }
stays_as_was old new (inr undone) up = let back = undone.undone up in record { was_open = undone.was_open up; now = λ settled. back.0 ∙ sym settled; committed = λ _. back.0 ∙ sym back.1 }

pub as_was_then : (a b c : State) → IsAsWas a b → IsAsWas b c → IsAsWas a c
as_was_then a b c one two = record {
  was_open = one.was_open;
  now = λ settled. two.now (one.committed settled) ∙ one.now settled;
  committed = λ settled. two.committed (one.committed settled);
}

pub shown_same : (sql : List ℕ) (params : Row) (old new : State) (rows : List Row) → is_select sql ≡ true → Shown sql params old new rows → IsUnchanged old new
unfolding Shown
shown_same sql params old new rows plain h =
    let none = query_returns old.now.schema sql plain h.0 h.1.is in
    (subst (Rattle.sqlite.specs.State.ShowsRows old new sql h.0 (Rattle.sqlite.specs.Clock.timed params h.0.formats h.1.now) rows) none h.2).3

fails_to_show : (old new : State) (sql : List ℕ) (c : Compiled) (params : Row) (e : Error) (returning : Option Returning) → FailsToShow old new sql c params e returning → Stays old new
fails_to_show old new sql c params e None h = inl h.3
fails_to_show old new sql c params e (Some what) (inl refused) = inl refused.1
fails_to_show old new sql c params e (Some what) (inr failed) = inr failed.3

pub fails_stays : (sql : List ℕ) (params : Row) (old new : State) (e : Error) → FailsToQuery sql params old new e → Stays old new
unfolding FailsToQuery IsNotRun
fails_stays sql params old new e (inl (inl refused)) = inl refused.1
fails_stays sql params old new e (inl (inr failed)) = inr failed.3
fails_stays sql params old new e (inr h) = fails_to_show old new sql h.0 _ e _ h.2

shows_open : (old new : State) (sql : List ℕ) (c : Compiled) (params : Row) (rows : List Row) (returning : Option Returning) → ShowsRows old new sql c params rows returning → IsTrue old.is_open
shows_open old new sql c params rows None h = h.3.0.was_open
shows_open old new sql c params rows (Some what) h = h.1.shown.was_open

pub shown_open : (sql : List ℕ) (params : Row) (old new : State) (rows : List Row) → Shown sql params old new rows → IsTrue old.is_open
unfolding Shown
shown_open sql params old new rows h = shows_open old new sql h.0 _ rows _ h.2

-- a query leaves the content, whether it answers or fails
pub query_keeps : (sql : List ℕ) (params : Row) (old new : State) (m : Books) (r : Result (Vec Answered Global) Error) → is_select sql ≡ true → (HasCleanDisk new → HasCleanDisk old)
    → (HasCleanDisk new → IfOk r (λ rows. Shown sql params old new rows.items)) → (HasCleanDisk new → IfErr r (FailsToQuery sql params old new)) → Holds old m → Holds new m
query_keeps sql params old new m (Ok rows) plain earlier ok err was clean up =
    let h = ok clean in
    let before = was (earlier clean) (shown_open sql params old new rows.items h) in
    settled_stays old new m (inl (shown_same sql params old new rows.items plain h)) up before
query_keeps sql params old new m (Err e) plain earlier ok err was clean up =
    let stays = fails_stays sql params old new e (err clean) in
    settled_stays old new m stays up (was (earlier clean) (stays_open old new m stays up))

-- and whatever was settled
pub query_as_was : (sql : List ℕ) (params : Row) (old new : State) (r : Result (Vec Answered Global) Error) → is_select sql ≡ true
    → (HasCleanDisk new → IfOk r (λ rows. Shown sql params old new rows.items)) → (HasCleanDisk new → IfErr r (FailsToQuery sql params old new)) → HasCleanDisk new → IsTrue new.is_open → IsAsWas old new
query_as_was sql params old new (Ok rows) plain ok err clean up = stays_as_was old new (inl (shown_same sql params old new rows.items plain (ok clean))) up
query_as_was sql params old new (Err e) plain ok err clean up = stays_as_was old new (fails_stays sql params old new e (err clean)) up

-- a query leaves what a crash may leave, whatever the schema is, so also on a store that was shut
pub query_survives : (sql : List ℕ) (params : Row) (old new : State) → is_select sql ≡ true → Survives old new (CommitsShowing sql params old) → Survives old new (λ _. ⊥)
query_survives sql params old new is h = record {
  clean = h.clean;
  shield = h.shield;
  counts = h.counts;
  limit = h.limit;
  closes = h.closes;
  crash = λ clean db left. elim (h.crash clean db left) [ inl was ↦ inl was | inr made ↦ absurd (query_commits sql is params old db made) ];
}

pub keeps_commit : (old new : State) → Stays old new → KeepsCommit old new
keeps_commit old new (inl same) = record { was_open = λ _. same.0.was_open; committed = λ _. same.0.committed_is }
keeps_commit old new (inr undone) = record { was_open = undone.was_open; committed = λ up. (undone.undone up).1 }

-- a text that was not run keeps it too
pub not_run_keeps : (old new : State) (sql : List ℕ) (params : Row) (e : Error) → IsNotRun old new sql params e → KeepsCommit old new
unfolding IsNotRun
not_run_keeps old new sql params e (inl refused) = keeps_commit old new (inl refused.1)
not_run_keeps old new sql params e (inr failed) = keeps_commit old new (inr failed.3)
