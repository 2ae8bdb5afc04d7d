-- The end of a transaction in which a change was written.
use Rattle.std.proofs.Common.{◌≡◌, inl, inr, true, false, true≢false, IsTrue, refl, sym, ap, subst, ◌∙◌, arith}
use Rattle.sqlite_trees.specs.declared.store.Store.{Ghosts}
use Rattle.sqlite_trees.specs.Tree.{Trees}
use Rattle.sqlite.specs.Effect.{Database, IsDatabase}
use Rattle.sqlite.specs.State.{State, HasCleanDisk, IsRolledBack, Survives}
use Rattle.sqlite.specs.State as sql
use Rattle.sqlite.specs.Held.{Held, state}
use Rattle.sqlite.specs.Steps.{FailsToCommit}
use Rattle.sqlite.specs.declared.error.Error.{Error}
use Rattle.sqlite.proofs.StateLemmas.{survives_then}
use Rattle.sqlite.proofs.Callers.{survives_begin}
use Rattle.shop_records.specs.Content.{Content, changed}
use Rattle.shop_records.specs.WellFormed.{Fits}
use Rattle.shop_records.specs.declared.changes.Change.{Change}
use Rattle.shop_statements.specs.Beside.{IsSameBeside, SparesRows, Spares}
use Rattle.shop_statements.specs.Layout.{HasShopTables, our_trees}
use Rattle.shop_statements.specs.Rows.{Stands}
use Rattle.shop_statements.specs.Shown.{Books, Shows, Holds, Ran, Makes, Within, StandsIn}
use Rattle.shop_tables.specs.Changing.{HasSums, HasTrail, with_change}
use Rattle.shop_tables.specs.Held.{books, HoldsContent, StandsFor, LeavesOthers}
use Rattle.shop_statements.proofs.Beside.{beside_itself}
use Rattle.shop_records.proofs.LinesKept.{lines_kept}
use Rattle.shop_tables.proofs.Fitting.{sums_kept, trail_kept}

pub stands_in : (s : State) (b : Books) → Shows s b → StandsIn s.now.trees b
stands_in s b h = ((s.now.schema, h.schema, h.sound), h.stands, h.keyed)

pub shows_along : (old new : State) (b : Books) → old.now ≡ new.now → Shows old b → Shows new b
shows_along old new b same h = record {
  schema = subst (λ (d : Database). HasShopTables d.schema) same h.schema;
  sound = subst IsDatabase same h.sound;
  stands = subst (λ (d : Database). Stands d.trees b.content b.totals b.uses) same h.stands;
  keyed = h.keyed;
}

module _ {S : Type 0} (g : Ghosts S) (h : Held S) where
  abbrev pub old : State
  old = state g h

  abbrev pub begun : State
  begun = state g (record h { in_transaction = true })

  module _ (done last : State) (late : HasCleanDisk last → HasCleanDisk done) where
    -- ---- it is undone

    -- what was seen before is seen again
    pub record GoesBack : Type 0 where
      pub clean : HasCleanDisk old
      pub was_open : IsTrue old.is_open
      pub seen : old.committed ≡ last.now
      pub committed : last.now ≡ last.committed

    pub goes_back : Within begun done → (HasCleanDisk last → IsRolledBack done last) → HasCleanDisk last → IsTrue last.is_open → GoesBack
    goes_back within back clean up =
        let undone = back clean in
        let kept = within.kept (late clean) in
        let was_up = undone.was_open up in
        let s = within.survives.clean in
        record { clean = let now = late clean in omega (arith, s, now); was_open = kept.was_open was_up; seen = sym ((undone.undone up).0 ∙ kept.committed was_up); committed = (undone.undone up).0 ∙ sym (undone.undone up).1 }

    undoes : (b : Books) → Holds old b → Within begun done → (HasCleanDisk last → IsRolledBack done last) → Holds last b
    undoes b was within back clean up =
        let went = goes_back within back clean up in
        let start = was went.clean went.was_open in
        record { shows = shows_along old last b (start.committed ∙ went.seen) start.shows; committed = went.committed }

    pub undone : (m : Content) → HoldsContent old m → Within begun done → (HasCleanDisk last → IsRolledBack done last) → HoldsContent last m
    undone m was within back = record { lines = was.lines; totals = was.totals; uses = was.uses; sums = was.sums; trail = was.trail; holds = undoes (books m was.totals was.uses) was.holds within back }

    module _ (ran : Ran begun done) where
      -- a commit that fails has undone it
      pub failed : (e : Error) → (HasCleanDisk last → FailsToCommit done last e) → HasCleanDisk last → IsRolledBack done last
      failed e fails clean = elim (fails clean) [
        | inl store ↦ store.3
        | inr ended ↦ absurd (true≢false (sym (ran.on (late clean) refl).2 ∙ ended.1))
      ]

      -- ---- it is committed

      module _ (m : Content) (change : Change) (was : HoldsContent old m) (fits : Fits m change) (made : Makes begun done (books m was.totals was.uses) (with_change change (books m was.totals was.uses))) where
        abbrev after : Books
        after = with_change change (books m was.totals was.uses)

        sums : HasSums after
        sums = sums_kept (books m was.totals was.uses) change was.sums fits

        trail : HasTrail after
        trail = trail_kept (books m was.totals was.uses) change was.trail fits

        -- what the transaction sees at its end
        pub shows_end : HasCleanDisk done → Shows done after
        shows_end clean =
            let start = (was.holds (ran.earlier clean) (ran.on clean refl).0).shows in
            made clean refl (record { schema = start.schema; sound = start.sound; stands = start.stands; keyed = start.keyed })

        pub stands_end : HasCleanDisk done → StandsFor done.now.trees (changed m change)
        stands_end clean = record { lines = lines_kept m change fits was.lines; totals = after.totals; uses = after.uses; sums = sums; trail = trail; stands = stands_in done after (shows_end clean) }

        pub committed : (HasCleanDisk last → sql.Shows done last done.now done.now false) → HoldsContent last (changed m change)
        committed end = record {
          lines = lines_kept m change fits was.lines;
          totals = after.totals;
          uses = after.uses;
          sums = sums;
          trail = trail;
          holds = λ clean up. let e = end clean in record { shows = shows_along done last after (sym e.now_is) (shows_end (late clean)); committed = e.now_is ∙ sym e.committed_is };
        }

        -- what a crash may leave after the commit
        pub survived : Within begun done → Survives done last (λ db. db ≡ done.now.trees) → Survives old last (λ db. StandsFor db (changed m change))
        survived within end = survives_begin g h last (λ db. StandsFor db (changed m change))
            (survives_then begun done last (λ _. ⊥) (λ db. db ≡ done.now.trees) (λ db. StandsFor db (changed m change)) (λ _ db none. absurd none)
            (λ clean db is. subst (λ t. StandsFor t (changed m change)) (sym is) (stands_end (late clean))) within.survives end)

  -- what a crash may leave of a transaction that is undone
  pub dropped : (done last : State) (P : Trees → Type 0) → Within begun done → Survives done last (λ _. ⊥) → Survives old last P
  dropped done last P within end = survives_begin g h last P
      (survives_then begun done last (λ _. ⊥) (λ _. ⊥) P (λ _ db none. absurd none) (λ _ db none. absurd none) within.survives end)

  -- ---- what is no table of ours

  abbrev pub SparesOld : Trees → Type 0
  SparesOld = SparesRows our_trees old.now.schema old.now.trees

  module _ (only : (db : Trees) → IsTrue old.is_open → old.may_leave db → db ≡ old.committed.trees) (done last : State) (late : HasCleanDisk last → HasCleanDisk done)
      (within : Within begun done) where
    left_spares : Survives old last SparesOld → HasCleanDisk last → IsTrue old.is_open → old.now ≡ old.committed → (db : Trees) → last.may_leave db → SparesOld db
    left_spares s clean up settled db left = elim (s.crash clean db left) [
      | inl before ↦ subst SparesOld (ap (λ (d : Database). d.trees) settled ∙ sym (only db up before)) (beside_itself our_trees old.now).rows
      | inr spared ↦ spared
    ]

    undone_spares : (HasCleanDisk last → IsRolledBack done last) → HasCleanDisk last → IsTrue last.is_open → old.now ≡ old.committed → IsSameBeside our_trees old.now last.now
    undone_spares back clean up settled =
        let it = goes_back done last late within back clean up in
        subst (IsSameBeside our_trees old.now) (settled ∙ it.seen) (beside_itself our_trees old.now)

    pub dropped_others : (HasCleanDisk last → IsRolledBack done last) → Survives done last (λ _. ⊥) → LeavesOthers old last
    dropped_others back end = record { seen = undone_spares back; crash = left_spares (dropped done last SparesOld within end) }

    module _ (is : HasShopTables old.now.schema) (spares : Spares our_trees begun done) (end : Survives done last (λ db. db ≡ done.now.trees)) where
      crash_others : HasCleanDisk last → IsTrue old.is_open → old.now ≡ old.committed → (db : Trees) → last.may_leave db → SparesOld db
      crash_others = left_spares (survives_begin g h last SparesOld
          (survives_then begun done last (λ _. ⊥) (λ db. db ≡ done.now.trees) SparesOld (λ _ db none. absurd none)
          (λ clean db same. subst SparesOld (sym same) (spares (late clean) refl is).rows) within.survives end))

      pub failed_others : (HasCleanDisk last → IsRolledBack done last) → LeavesOthers old last
      failed_others back = record { seen = undone_spares back; crash = crash_others }

      pub committed_others : (HasCleanDisk last → sql.Shows done last done.now done.now false) → LeavesOthers old last
      committed_others ends = record { seen = λ clean up settled. subst (IsSameBeside our_trees old.now) (sym (ends clean).now_is) (spares (late clean) refl is); crash = crash_others }
