-- Files that held no database are opened as an empty one.
use Rattle.std.proofs.Common.{◌≡◌, ◌≤◌, ◌<◌, ◌∙◌, ℕ, true, false, List, [], length, take, slice_index, get_or-take, ap, min, Some, Option, unwrap_or, sym, inl, inr, arith}
use Rattle.std.proofs.Math.Logic.{∥∥₁_elim}
use Rattle.std.proofs.lemmas.List.{length-take}
use Rattle.sqlite_wal.specs.Recovery.{Image}
use Rattle.sqlite_wal.proofs.AppendLemmas.{some_value}
use Rattle.sqlite_wal.proofs.CreateLemmas.{begun_is_not_blank}
use Rattle.sqlite_pages.specs.PageMap.{PageMap}
use Rattle.sqlite_pool.specs.File.{IsSoundFile, header_in}
use Rattle.sqlite_pool.specs.Header.{first_page}
use Rattle.sqlite_pool.specs.Stored.{Adopts, sealed, stored_size, used_size}
use Rattle.sqlite_pool.specs.StoredLaws.{trimmed_some}
use Rattle.sqlite_pool.proofs.ProbeLemmas.{first_byte}
use Rattle.sqlite_trees.specs.Tree.{Trees}
use Rattle.sqlite_trees.specs.Objects.{catalog_tree}
use Rattle.sqlite_catalog.proofs.ReadLemmas.{lists_once}
use Rattle.sqlite_disk.specs.declared.Disk.{Ghosts}
use Rattle.sqlite_store.specs.declared.store.FileStore.{FileStore}
use Rattle.sqlite.proofs.ListingLemmas.{empty_is_sound}
use Rattle.sqlite.specs.Effect.{Database}
use Rattle.sqlite.specs.Files.{file_state, AreFoundIn, IsEmpty, IsNothing, IsOpened}
use Rattle.sqlite.specs.Held.{Held}

-- files from which a well-formed file is read are not nothing
read_is_something : (size : ℕ) (image : Image) (pages : PageMap) → Adopts size image pages → IsSoundFile size pages → ¬ IsNothing image
read_is_something size image pages found sound nothing =
    let (page, is) = some_value (found.stored 1) found.whole.first in
    let used : pages 1 ≡ Some (take size page) = ap (λ (p : PageMap). p 1) (sym found.shows) ∙ trimmed_some size _ 1 page is in
    let head : header_in pages ≡ take 100 (take size page) = ap (λ (o : Option (List ℕ)). take 100 (unwrap_or o [])) used in
    let sixteen : length (take 16 (header_in pages)) ≡ 16 = ap length sound.header.0.magic in
    let a = length-take 16 (header_in pages) in
    let b : length (header_in pages) ≡ min 100 (length (take size page)) = ap length head ∙ length-take 100 (take size page) in
    let c = length-take size page in
    let large : 16 ≤ size = omega (arith, sixteen, a, b, c) in
    let magic : slice_index page 0 ≡ 83 =
    sym (get_or-take size page 0 0 (omega (arith, large))) ∙ sym (get_or-take 100 (take size page) 0 0 (omega arith)) ∙ sym (ap (λ (l : List ℕ). slice_index l 0) head)
    ∙ sym (get_or-take 16 (header_in pages) 0 0 (omega arith)) ∙ ap (λ (l : List ℕ). slice_index l 0) sound.header.0.magic in
    let never = λ (other : ℕ) (some : 0 < other). let gate = first_byte other some in
    begun_is_not_blank (sealed (first_page other)) page (stored_size size) image found.stored found.found is (found.whole.sized 1 page is) (omega (arith, large)) (magic ∙ sym gate) (λ none. let bad = sym gate ∙ none in omega arith) in
    elim nothing [ inl plain ↦ never (used_size 4096 false) (omega arith) plain | inr summed ↦ never (used_size 4096 true) (omega arith) summed ]

-- what is found in files that were nothing is empty
pub nothing_is_empty : (image : Image) (db : Trees) → IsNothing image → AreFoundIn image db → IsEmpty db
nothing_is_empty image db nothing (inl read) =
    absurd (∥∥₁_elim read.4 (λ x y. absurd x) (λ ours. read_is_something read.0 image read.1 read.3 ours.file.sound nothing))
nothing_is_empty image db nothing (inr found) = found.1

-- an empty database has the empty schema
pub empty_schema : {D : Type 0} {g : Ghosts D} (new : Held (FileStore D g)) → IsOpened new → IsEmpty (file_state new).committed.trees → new.schema ≡ record { tables = []; indexes = []; views = [] }
empty_schema new opened empty =
    let live = (opened.1 opened.0.is_open).0 in
    let trees : (file_state new).now.trees ≡ (file_state new).committed.trees = ap (λ (d : Database). d.trees) opened.0.clean in
    let none : (file_state new).now.trees catalog_tree ≡ [] = ap (λ (t : Trees). t catalog_tree) trees ∙ empty.1 in
    lists_once _ (file_state new).now.schema (record { tables = []; indexes = []; views = [] }) live.lists (empty_is_sound (file_state new).now.trees none).lists
