-- What was committed is found again, with the schema that its trees list.
use Rattle.std.proofs.Common.{◌≡◌, IsTrue, sym, ap, subst, ◌∙◌}
use Rattle.std.proofs.Math.Logic.{∥∥₁_map}
use Rattle.sqlite_disk.specs.declared.Disk.{Ghosts}
use Rattle.sqlite_disk.specs.declared.Files.{Files}
use Rattle.sqlite_wal.specs.Reads.{AreClean}
use Rattle.sqlite_store.specs.declared.store.FileStore.{FileStore}
use Rattle.sqlite_catalog.proofs.ReadLemmas.{lists_once}
use Rattle.sqlite_catalog.specs.Listing.{IsSound, Lists}
use Rattle.sqlite_trees.specs.Objects.{catalog_tree}
use Rattle.sqlite.specs.Tree.{Trees}
use Rattle.sqlite.specs.Effect.{Database, IsDatabase}
use Rattle.sqlite.specs.State.{State, HasCleanDisk}
use Rattle.sqlite.specs.Held.{Held, AreDatabases}
use Rattle.sqlite.specs.Files.{file_state, image_of, HoldsDatabase, IsOpened, Finds}
use Rattle.sqlite.specs.Closing.{IsCopied}
use Rattle.sqlite.proofs.Callers.{finds_again}
use Rattle.sqlite.proofs.Theorems.{opens_again}
use Rattle.sqlite_store.specs.FileStore.{view, recovers}
use Rattle.sqlite_store.specs.FileStore as store
use Rattle.sqlite_wal.specs.Recovery.{Image}
use Rattle.shop_records.specs.Content.{Content}
use Rattle.shop_statements.specs.Earlier.{IsSettledEarlier, StandsEarlier, StandsInEarlier, earlier_schema, IsSettledSecond, StandsInSecond, StandsSecond, second_schema}
use Rattle.shop_statements.specs.Layout.{HasShopTables}
use Rattle.shop_statements.specs.Rows.{Stands}
use Rattle.shop_statements.specs.Shown.{Books, IsSettled, Holds, StandsIn}
use Rattle.shop_tables.specs.Held.{books, IsSettledAt, StandsFor}

-- trees list one schema at most
pub one_schema : (a b : Database) → IsDatabase a → IsDatabase b → b.trees ≡ a.trees → b.schema ≡ a.schema
one_schema a b p q same = lists_once _ b.schema a.schema q.lists (subst (λ (t : Trees). Lists (t catalog_tree) a.schema) (sym same) p.lists)

pub found_settled : {D : Type 0} {g : Ghosts D} (old new : Held (FileStore D g)) (files : Files D) (b : Books) → (AreClean g files.log files.db → IsCopied old files)
    → (HasCleanDisk (file_state new) → IsOpened new) → (HasCleanDisk (file_state new) → Finds files new) → Holds (file_state old) b → HasCleanDisk (file_state new) → IsSettled (file_state new) b
found_settled old new files b copied opened found was clean =
    let f = found clean in
    let c = copied f.honest in
    let start = was c.was_clean c.was_open in
    let o = opened clean in
    let live = (o.1 o.0.is_open).0 in
    let trees : (file_state new).now.trees ≡ (file_state old).now.trees = ap (λ (d : Database). d.trees) o.0.clean ∙ finds_again old new files copied f ∙ ap (λ (d : Database). d.trees) (sym start.committed) in
    let schema : (file_state new).now.schema ≡ (file_state old).now.schema = one_schema (file_state old).now (file_state new).now start.shows.sound live trees in
    record {
      shows = record { schema = subst HasShopTables (sym schema) start.shows.schema; sound = live; stands = subst (λ (t : Trees). Stands t b.content b.totals b.uses) (sym trees) start.shows.stands; keyed = start.shows.keyed };
      committed = o.0.clean;
    }

-- What a crash left is found too: an open of it sees the content for which its trees stand.
pub left_settled : {D : Type 0} {g : Ghosts D} (new : Held (FileStore D g)) (b : Books) → IsOpened new → StandsIn (file_state new).committed.trees b → IsSettled (file_state new) b
left_settled new b opened left =
    let live = (opened.1 opened.0.is_open).0 in
    let trees : (file_state new).now.trees ≡ (file_state new).committed.trees = ap (λ (d : Database). d.trees) opened.0.clean in
    let listed : Database = record { schema = left.0.0; trees = (file_state new).committed.trees } in
    let schema : (file_state new).now.schema ≡ left.0.0 = one_schema listed (file_state new).now left.0.2 live trees in
    record {
      shows = record { schema = subst HasShopTables (sym schema) left.0.1; sound = live; stands = subst (λ (t : Trees). Stands t b.content b.totals b.uses) (sym trees) left.1; keyed = left.2 };
      committed = opened.0.clean;
    }

-- The same of tables of version 1.
pub left_settled_earlier : {D : Type 0} {g : Ghosts D} (new : Held (FileStore D g)) (b : Books) → IsOpened new → StandsInEarlier (file_state new).committed.trees b → IsSettledEarlier (file_state new) b
left_settled_earlier new b opened left =
    let live = (opened.1 opened.0.is_open).0 in
    let trees : (file_state new).now.trees ≡ (file_state new).committed.trees = ap (λ (d : Database). d.trees) opened.0.clean in
    let listed : Database = record { schema = earlier_schema; trees = (file_state new).committed.trees } in
    record {
      shows = record { schema = one_schema listed (file_state new).now left.0 live trees; sound = live; stands = subst (λ (t : Trees). StandsEarlier t b.content b.totals) (sym trees) left.1; keyed = left.2; uses = left.3 };
      committed = opened.0.clean;
    }

-- The last commit of tables of version 1 stands for the books that they show.
pub committed_earlier : (s : State) (b : Books) → IsSettledEarlier s b → StandsInEarlier s.committed.trees b
committed_earlier s b was =
    subst (λ (d : Database). StandsInEarlier d.trees b) was.committed (subst (λ schema. IsSound schema s.now.trees) was.shows.schema was.shows.sound, was.shows.stands, was.shows.keyed, was.shows.uses)

-- The same of tables of version 2.
pub left_settled_second : {D : Type 0} {g : Ghosts D} (new : Held (FileStore D g)) (b : Books) → IsOpened new → StandsInSecond (file_state new).committed.trees b → IsSettledSecond (file_state new) b
left_settled_second new b opened left =
    let live = (opened.1 opened.0.is_open).0 in
    let trees : (file_state new).now.trees ≡ (file_state new).committed.trees = ap (λ (d : Database). d.trees) opened.0.clean in
    let listed : Database = record { schema = second_schema; trees = (file_state new).committed.trees } in
    record {
      shows = record { schema = one_schema listed (file_state new).now left.0 live trees; sound = live; stands = subst (λ (t : Trees). StandsSecond t b.content b.totals) (sym trees) left.1; keyed = left.2; uses = left.3 };
      committed = opened.0.clean;
    }

-- The last commit of tables of version 2 stands for the books that they show.
pub committed_second : (s : State) (b : Books) → IsSettledSecond s b → StandsInSecond s.committed.trees b
committed_second s b was =
    subst (λ (d : Database). StandsInSecond d.trees b) was.committed (subst (λ schema. IsSound schema s.now.trees) was.shows.schema was.shows.sound, was.shows.stands, was.shows.keyed, was.shows.uses)

-- An open finds one of the databases that a crash could leave, and is settled at the content for which it stands.
pub left_is_found : {D : Type 0} {g : Ghosts D} (it : FileStore D g) → IsTrue (view it).is_numbered → AreDatabases (recovers it) → (left : Image) → (store.state it).may_leave left
    → (files : Files D) → image_of g files ≡ left → (new : Held (FileStore D g)) → IsOpened new → Finds files new
    → ∥ ((db : Trees) × recovers it db × ((m : Content) → StandsFor db m → IsSettledAt (file_state new) m)) ∥₁
left_is_found {D} {g} it numbered sound left may files seen new opened found = ∥∥₁_map (opens_again it numbered sound left may) (λ x.
    let trees : (file_state new).committed.trees ≡ x.0 = found.holds x.0 (subst (λ i. HoldsDatabase i x.0) (sym seen) x.2) in
    let r : (db : Trees) × recovers it db × ((m : Content) → StandsFor db m → IsSettledAt (file_state new) m) = (
      x.0,
      x.1,
      λ m stands. record { lines = stands.lines; totals = stands.totals; uses = stands.uses; sums = stands.sums; trail = stands.trail; settled = left_settled new (books m stands.totals stands.uses) opened (subst (λ db. StandsIn db (books m stands.totals stands.uses)) (sym trees) stands.stands) },
    ) in r)
