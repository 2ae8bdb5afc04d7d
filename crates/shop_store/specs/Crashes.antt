-- A connection over files that a crash left.
use Rattle.std.specs.Prelude.{◌≡◌, IsTrue}
use Rattle.sqlite.specs.Files.{file_state, image_of, IsOpened, Finds}
use Rattle.sqlite.specs.Held.{Held, AreDatabases}
use Rattle.sqlite_disk.specs.declared.Disk.{Ghosts}
use Rattle.sqlite_disk.specs.declared.Files.{Files}
use Rattle.sqlite_store.specs.FileStore as store
use Rattle.sqlite_store.specs.declared.store.FileStore.{FileStore}
use Rattle.sqlite_trees.specs.Tree.{Trees}
use Rattle.sqlite_wal.specs.Recovery.{Image}

-- The store of the last connection was taken back, a crash left an image of it, and the new connection opened on files with
-- that image.
pub record IsFoundAfter {D : Type 0} {g : Ghosts D} (last new : Held (FileStore D g)) : Type 0 where
  pub taken : FileStore D g
  pub less : (db : Trees) → store.recovers taken db → (file_state last).may_leave db
  pub numbered : IsTrue (store.view taken).is_numbered
  pub sound : AreDatabases (store.recovers taken)
  pub left : Image
  pub may : (store.state taken).may_leave left
  pub files : Files D
  pub seen : image_of g files ≡ left
  pub opened : IsOpened new
  pub found : Finds files new
