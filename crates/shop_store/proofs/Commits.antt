-- What a crash leaves of a settled connection, and of a commit on it, is found again.
use Rattle.std.proofs.Common.{◌≡◌, ◌⊎◌, IsTrue, inl, inr, sym, subst}
use Rattle.std.proofs.Math.Logic.{∥∥₁_map}
use Rattle.sqlite_disk.specs.declared.Disk.{Ghosts as DiskGhosts}
use Rattle.sqlite_store.specs.declared.store.FileStore.{FileStore}
use Rattle.sqlite_store.specs.Laws.{settled_at}
use Rattle.sqlite_wal.proofs.LogLemmas.{SeenMayStay}
use Rattle.sqlite_trees.specs.declared.store.Store.{Ghosts}
use Rattle.sqlite_trees.specs.Tree.{Trees}
use Rattle.sqlite.specs.Effect.{Database}
use Rattle.sqlite.specs.Files.{file_state}
use Rattle.sqlite.specs.Held.{Held, state}
use Rattle.sqlite.specs.State.{State, HasCleanDisk, Survives}
use Rattle.shop_records.specs.Content.{Content}
use Rattle.shop_tables.specs.Held.{books, IsSettledAt, LeavesOnly, StandsFor}
use Rattle.shop_statements.specs.Shown.{StandsIn}
use Rattle.shop_tables.proofs.Commits.{stands_in}
use Rattle.shop_tables.proofs.Reopened.{left_is_found}
use Rattle.shop_store.specs.Crashes.{IsFoundAfter}

-- what is committed stands for the content at which a connection is settled
settled_stands : (s : State) (m : Content) → IsSettledAt s m → (db : Trees) → db ≡ s.committed.trees → StandsFor db m
settled_stands s m was db is =
    let now : StandsIn s.committed.trees (books m was.totals was.uses) = subst (λ (d : Database). StandsIn d.trees (books m was.totals was.uses)) was.settled.committed (stands_in s (books m was.totals was.uses) was.settled.shows) in
    record { lines = was.lines; totals = was.totals; uses = was.uses; sums = was.sums; trail = was.trail; stands = subst (λ t. StandsIn t (books m was.totals was.uses)) (sym is) now }

-- while a connection is open a crash leaves its last commit
pub settled_leaves : {D : Type 0} {g : DiskGhosts D} (at : Held (FileStore D g)) (m : Content) → SeenMayStay g → IsTrue (file_state at).is_open → IsSettledAt (file_state at) m → LeavesOnly (file_state at) m
settled_leaves at m stays up was clean db left = settled_stands (file_state at) m was db (settled_at at.store stays db up left)

-- and still does after readings
pub still_leaves : {S : Type 0} (g : Ghosts S) → ((s : S) (db : Trees) → IsTrue (g.view s).is_open → g.recovers s db → db ≡ (g.view s).committed) → (old new : Held S) (m : Content) → IsTrue (state g old).is_open → IsSettledAt (state g old) m
    → Survives (state g old) (state g new) (λ _. ⊥) → LeavesOnly (state g new) m
still_leaves g only_committed old new m up was survives clean db left = elim (survives.crash clean db left) [
  | inl before ↦ settled_stands (state g old) m was db (only_committed old.store db up before)
  | inr none ↦ absurd none
]

module _ {D : Type 0} {g : DiskGhosts D} (last new : Held (FileStore D g)) (after : IsFoundAfter last new) where
  -- the content that the files stand for is found
  finds_what : (P : Trees → Type 0) → ((db : Trees) → (file_state last).may_leave db → P db) → ∥ ((db : Trees) × P db × ((m : Content) → StandsFor db m → IsSettledAt (file_state new) m)) ∥₁
  finds_what P knows =
      ∥∥₁_map (left_is_found after.taken after.numbered after.sound after.left after.may after.files after.seen new after.opened after.found)
      (λ x. let r : (db : Trees) × P db × ((m : Content) → StandsFor db m → IsSettledAt (file_state new) m) = (x.0, knows x.0 (after.less x.0 x.1), x.2) in r)

  pub left_commit_is_found : (old : Held (FileStore D g)) (m next : Content) → HasCleanDisk (file_state old) → LeavesOnly (file_state old) m
      → ((db : Trees) → (file_state last).may_leave db → (file_state old).may_leave db ⊎ StandsFor db next) → ∥ (IsSettledAt (file_state new) m ⊎ IsSettledAt (file_state new) next) ∥₁
  left_commit_is_found old m next clean only crash =
      ∥∥₁_map (finds_what (λ db. (file_state old).may_leave db ⊎ StandsFor db next) crash) (λ x.
      let r : IsSettledAt (file_state new) m ⊎ IsSettledAt (file_state new) next = elim x.1 [ inl before ↦ inl (x.2 m (only clean x.0 before)) | inr stands ↦ inr (x.2 next stands) ] in r)

  pub kept_commit_is_found : (next : Content) → HasCleanDisk (file_state last) → LeavesOnly (file_state last) next → ∥ IsSettledAt (file_state new) next ∥₁
  kept_commit_is_found next clean only =
      ∥∥₁_map (finds_what (λ db. StandsFor db next) (only clean)) (λ x. let r : IsSettledAt (file_state new) next = x.2 next x.1 in r)
