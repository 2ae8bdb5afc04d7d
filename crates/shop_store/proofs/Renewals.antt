-- What a crash in a renewal leaves is found again, in an older version or in version 3.
use Rattle.std.proofs.Common.{◌≡◌, IsTrue, inl, inr, sym, subst, ◌∙◌}
use Rattle.std.proofs.Math.Logic.{∥∥₁_map}
use Rattle.std.specs.FinMap.{empty}
use Rattle.sqlite_disk.specs.declared.Disk.{Ghosts}
use Rattle.sqlite_disk.specs.declared.Files.{Files}
use Rattle.sqlite_wal.proofs.LogLemmas.{SeenMayStay}
use Rattle.sqlite_store.specs.FileStore as store
use Rattle.sqlite_store.specs.Laws.{settled_at}
use Rattle.sqlite_store.specs.declared.store.FileStore.{FileStore}
use Rattle.sqlite_trees.specs.Tree.{Trees}
use Rattle.sqlite_wal.specs.Recovery.{Image}
use Rattle.sqlite.specs.Files.{file_state, image_of, HoldsDatabase, IsOpened, Finds}
use Rattle.sqlite.specs.Held.{Held, AreDatabases}
use Rattle.sqlite.specs.State.{HasCleanDisk, Survives}
use Rattle.sqlite.proofs.Theorems.{opens_again}
use Rattle.shop_records.specs.Content.{Content}
use Rattle.shop_statements.specs.Earlier.{StandsInEarlier, StandsInSecond}
use Rattle.shop_tables.specs.Held.{books, StandsFor}
use Rattle.shop_statements.specs.Shown.{StandsIn}
use Rattle.shop_tables.proofs.Reopened.{committed_earlier, committed_second, left_settled, left_settled_earlier, left_settled_second}
use Rattle.shop_store.specs.EarlierBooks.{IsSettledEarlierAt, IsSettledEitherAt}

pub left_renewal_is_found : {D : Type 0} {g : Ghosts D} (old after : Held (FileStore D g)) (m : Content) → IsTrue (file_state old).is_open → IsSettledEarlierAt (file_state old) m
    → HasCleanDisk (file_state after) → Survives (file_state old) (file_state after) (λ db. StandsFor db m)
    → (it : FileStore D g) → ((db : Trees) → store.recovers it db → (file_state after).may_leave db) → IsTrue (store.view it).is_numbered → AreDatabases (store.recovers it)
    → (left : Image) → (store.state it).may_leave left → (files : Files D) → image_of g files ≡ left → (new : Held (FileStore D g)) → IsOpened new → Finds files new → SeenMayStay g
    → ∥ IsSettledEitherAt (file_state new) m ∥₁
left_renewal_is_found {D} {g} old after m up was clean survives it less numbered sound left may files seen new opened found stays = ∥∥₁_map (opens_again it numbered sound left may) (λ x.
    let trees : (file_state new).committed.trees ≡ x.0 = found.holds x.0 (subst (λ i. HoldsDatabase i x.0) (sym seen) x.2) in
    let r : IsSettledEitherAt (file_state new) m = elim (survives.crash clean x.0 (less x.0 x.1)) [
      | inl before ↦
          let kept : (file_state new).committed.trees ≡ (file_state old).committed.trees = trees ∙ settled_at old.store stays x.0 up before in
          inr (elim was [
            | inl second ↦ inl (record { lines = second.lines; totals = second.totals; sums = second.sums; settled = left_settled_second new (books m second.totals empty) opened (subst (λ db. StandsInSecond db (books m second.totals empty)) (sym kept) (committed_second (file_state old) (books m second.totals empty) second.settled)) })
            | inr one ↦ inr (record { lines = one.lines; totals = one.totals; sums = one.sums; settled = left_settled_earlier new (books m one.totals empty) opened (subst (λ db. StandsInEarlier db (books m one.totals empty)) (sym kept) (committed_earlier (file_state old) (books m one.totals empty) one.settled)) })
          ])
      | inr stands ↦ inl (record { lines = stands.lines; totals = stands.totals; uses = stands.uses; sums = stands.sums; trail = stands.trail; settled = left_settled new (books m stands.totals stands.uses) opened (subst (λ db. StandsIn db (books m stands.totals stands.uses)) (sym trees) stands.stands) })
    ] in r)
