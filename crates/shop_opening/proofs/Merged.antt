-- What a close leaves shows each content that the connection held.
use Rattle.std.proofs.Common.{◌≡◌, IsTrue, [], inl, subst}
use Rattle.std.proofs.Math.Logic.{∥∥₁_map}
use Rattle.sqlite_disk.specs.declared.Disk.{Ghosts}
use Rattle.sqlite_disk.specs.declared.Files.{Files}
use Rattle.sqlite_store.specs.declared.store.FileStore.{FileStore}
use Rattle.sqlite_wal.specs.Recovery.{Image}
use Rattle.sqlite.specs.Closing.{IsCopied}
use Rattle.sqlite.specs.Effect.{Database}
use Rattle.sqlite.specs.Files.{file_state, image_of, HoldsDatabase}
use Rattle.sqlite.specs.Held.{Held}
use Rattle.sqlite.specs.State.{State, HasCleanDisk}
use Rattle.shop_records.specs.Content.{Content}
use Rattle.shop_statements.specs.Shown.{StandsIn}
use Rattle.shop_tables.specs.Held.{books, HoldsContent, StandsFor}
use Rattle.shop_tables.proofs.Commits.{stands_in}
use Rattle.shop_opening.specs.Openings.{IsMerged, ShowsContent}

-- the last commit of a connection that holds a content stands for it
committed_stands : (s : State) (m : Content) → HasCleanDisk s → IsTrue s.is_open → HoldsContent s m → StandsFor s.committed.trees m
committed_stands s m clean up was =
    let settled = was.holds clean up in
    record {
      lines = was.lines;
      totals = was.totals;
      uses = was.uses;
      sums = was.sums;
      trail = was.trail;
      stands = subst (λ (d : Database). StandsIn d.trees (books m was.totals was.uses)) settled.committed (stands_in s (books m was.totals was.uses) settled.shows);
    }

module _ {D : Type 0} {g : Ghosts D} (conn : Held (FileStore D g)) (files : Files D) (copied : IsCopied conn files) where
  shown : (m : Content) → HoldsContent (file_state conn) m → (image : Image) → ∥ HoldsDatabase image (file_state conn).committed.trees ∥₁ → ∥ ShowsContent image m ∥₁
  shown m was image held =
      ∥∥₁_map held (λ h. let r : ShowsContent image m = inl ((file_state conn).committed.trees, h, inl (committed_stands (file_state conn) m copied.was_clean copied.was_open was)) in r)

  pub merged : IsMerged conn files
  merged = record {
    alone = λ m was. shown m was (record (image_of g files) { log = [] }) copied.seen.alone;
    crash = λ m was image left. shown m was (record image { log = [] }) (copied.left image left).alone;
  }
