-- What a connection that opened on files holds before and after its tables are taken over.
use Rattle.std.proofs.Common.{◌≡◌, ◌⊎◌, IsTrue, Option, Some, None, inl, inr, refl, sym, subst}
use Rattle.std.specs.Prelude.{IfSome}
use Rattle.std.specs.FinMap.{FinMap, empty}
use Rattle.sqlite_disk.specs.declared.Disk.{Ghosts}
use Rattle.sqlite_store.specs.declared.store.FileStore.{FileStore}
use Rattle.sqlite_store.specs.Laws.{settled_at}
use Rattle.sqlite_trees.specs.Tree.{Trees}
use Rattle.sqlite_wal.proofs.LogLemmas.{SeenMayStay}
use Rattle.sqlite_wal.specs.Recovery.{Image}
use Rattle.sqlite.specs.Files.{file_state, HoldsDatabase, IsEmpty, IsOpened}
use Rattle.sqlite.specs.Held.{Held}
use Rattle.sqlite.specs.Start.{FindsIn}
use Rattle.sqlite.specs.State.{HasCleanDisk, Survives}
use Rattle.cut_measure.specs.Codes.{code_cmp}
use Rattle.shop_records.specs.Content.{Content, fresh}
use Rattle.shop_records.specs.WellFormed.{HasLines}
use Rattle.shop_records.specs.declared.records.Totals.{Totals}
use Rattle.shop_records.proofs.LinesKept.{fresh_lines}
use Rattle.shop_statements.specs.Earlier.{StandsInEarlier, StandsInSecond}
use Rattle.shop_statements.specs.Layout.{no_schema}
use Rattle.shop_statements.specs.Rows.{use_cmp}
use Rattle.shop_statements.specs.Shown.{StandsIn}
use Rattle.shop_tables.specs.Changing.{HasSums, HasTrail}
use Rattle.shop_tables.specs.Held.{books, HoldsContent, IsSettledAt, LeavesOnly, StandsFor}
use Rattle.shop_tables.proofs.Fitting.{no_trail}
use Rattle.shop_tables.proofs.FreshBooks.{fresh_sums, fresh_trail}
use Rattle.shop_tables.proofs.Reopened.{committed_earlier, committed_second, left_settled, left_settled_earlier, left_settled_second}
use Rattle.shop_store.specs.EarlierBooks.{IsSettledEarlierAt, IsSettledFirstAt, IsSettledSecondAt}
use Rattle.shop_store.proofs.Adopting.{holds_when}
use Rattle.shop_opening.specs.Openings.{LeavesShown, ShowsContent, ShowsIn, StandsForEarlier, StandsForOlder}
use Rattle.shop_opening.proofs.Nothing.{empty_schema, nothing_is_empty}

-- what is known of something that may be there
pub some_then : {X : Type 0} {P Q : X → Type 0} (o : Option X) → IfSome o P → ((x : X) → P x → Q x) → IfSome o Q
some_then None h f = tt
some_then (Some x) h f = f x h

module _ {D : Type 0} {g : Ghosts D} (conn : Held (FileStore D g)) (image : Image) (opened : IsOpened conn) (found : FindsIn image (file_state conn)) where
  module _ (db : Trees) (held : HoldsDatabase image db) (m : Content) where
    settled : StandsFor db m → IsSettledAt (file_state conn) m
    settled s = record {
      lines = s.lines;
      totals = s.totals;
      uses = s.uses;
      sums = s.sums;
      trail = s.trail;
      settled = left_settled conn (books m s.totals s.uses) opened (subst (λ t. StandsIn t (books m s.totals s.uses)) (sym (found.holds db held)) s.stands);
    }

    settled_second : StandsForOlder StandsInSecond db m → IsSettledSecondAt (file_state conn) m
    settled_second s = record {
      lines = s.lines;
      totals = s.totals;
      sums = s.sums;
      settled = left_settled_second conn (books m s.totals empty) opened (subst (λ t. StandsInSecond t (books m s.totals empty)) (sym (found.holds db held)) s.stands);
    }

    settled_first : StandsForOlder StandsInEarlier db m → IsSettledFirstAt (file_state conn) m
    settled_first s = record {
      lines = s.lines;
      totals = s.totals;
      sums = s.sums;
      settled = left_settled_earlier conn (books m s.totals empty) opened (subst (λ t. StandsInEarlier t (books m s.totals empty)) (sym (found.holds db held)) s.stands);
    }

    settled_earlier : StandsForEarlier db m → IsSettledEarlierAt (file_state conn) m
    settled_earlier (inl s) = inl (settled_second s)
    settled_earlier (inr s) = inr (settled_first s)

    emptied : IsEmpty db → IsEmpty (file_state conn).committed.trees
    emptied none = subst IsEmpty (sym (found.holds db held)) none

  -- the connection is settled at the content, in version 3 or in version 2 or 1, or has no tables, and the content is the first
  abbrev pub IsFoundAt : Content → Type 0
  IsFoundAt m =
      IsSettledAt (file_state conn) m
      ⊎ (IsSettledEarlierAt (file_state conn) m ⊎ ((m ≡ fresh) × IsEmpty (file_state conn).committed.trees × (conn.schema ≡ no_schema)))

  vacant : (m : Content) → m ≡ fresh → IsEmpty (file_state conn).committed.trees → IsFoundAt m
  vacant m is trees = inr (inr (is, trees, empty_schema conn opened trees))

  in_database : (db : Trees) → HoldsDatabase image db → (m : Content) → ShowsIn db m → IsFoundAt m
  in_database db held m (inl s) = inl (settled db held m s)
  in_database db held m (inr (inl s)) = inr (inl (settled_earlier db held m s))
  in_database db held m (inr (inr both)) = vacant m both.1 (emptied db held m both.0)

  pub found_at : (m : Content) → ShowsContent image m → IsFoundAt m
  found_at m (inl d) = in_database d.0 d.1 m d.2
  found_at m (inr both) = vacant m both.1 (nothing_is_empty image (file_state conn).committed.trees both.0 found.reads)

-- the orders of the content have their lines, and there are sums of its parts, and orders of jobs, that go with it
record HasTotals (m : Content) : Type 0 where
  lines : HasLines m
  totals : FinMap code_cmp Totals
  uses : FinMap use_cmp (Unit {0})
  sums : HasSums (books m totals uses)
  trail : HasTrail (books m totals uses)

fresh_totals : (m : Content) → m ≡ fresh → HasTotals m
fresh_totals m is = subst HasTotals (sym is) (record { lines = fresh_lines; totals = empty; uses = empty; sums = fresh_sums; trail = fresh_trail })

older_totals : (m : Content) (totals : FinMap code_cmp Totals) → HasLines m → HasSums (books m totals empty) → m.entries ≡ empty → HasTotals m
older_totals m totals lines sums none = record { lines = lines; totals = totals; uses = empty; sums = sums; trail = no_trail (books m totals empty) none refl }

totals_in : (db : Trees) (m : Content) → ShowsIn db m → HasTotals m
totals_in db m (inl s) = record { lines = s.lines; totals = s.totals; uses = s.uses; sums = s.sums; trail = s.trail }
totals_in db m (inr (inl (inl s))) = older_totals m s.totals s.lines s.sums s.stands.1.none
totals_in db m (inr (inl (inr s))) = older_totals m s.totals s.lines s.sums s.stands.1.none
totals_in db m (inr (inr both)) = fresh_totals m both.1

totals_of : (image : Image) (m : Content) → ShowsContent image m → HasTotals m
totals_of image m (inl d) = totals_in d.0 m d.2
totals_of image m (inr both) = fresh_totals m both.1

-- ---- the tables were taken over, or not

module _ {D : Type 0} {g : Ghosts D} (conn after : Held (FileStore D g)) (image : Image) (opened : HasCleanDisk (file_state conn) → IsOpened conn) (found : HasCleanDisk (file_state conn) → FindsIn image (file_state conn)) (before : HasCleanDisk (file_state after) → HasCleanDisk (file_state conn)) (m : Content) (shown : ShowsContent image m) where
  found_after : (clean : HasCleanDisk (file_state after)) → IsFoundAt conn image (opened (before clean)) (found (before clean)) m
  found_after clean = found_at conn image (opened (before clean)) (found (before clean)) m shown

  up : HasCleanDisk (file_state after) → IsTrue (file_state conn).is_open
  up clean = (opened (before clean)).0.is_open

  pub holds_found : ((n : Content) → IsSettledAt (file_state conn) n → HoldsContent (file_state after) n) → ((n : Content) → IsSettledEarlierAt (file_state conn) n → HoldsContent (file_state after) n)
      → (conn.schema ≡ no_schema → HoldsContent (file_state after) fresh) → HoldsContent (file_state after) m
  holds_found held renewed made =
      let t = totals_of image m shown in
      holds_when (file_state after) m t.lines t.totals t.uses t.sums t.trail (λ clean _. elim (found_after clean) [
        | inl was ↦ held m was
        | inr other ↦ elim other [ inl was ↦ renewed m was | inr none ↦ subst (HoldsContent (file_state after)) (sym none.0) (made none.2) ]
      ])

  -- so is what was loaded beside the tables
  pub loaded_found : (Loaded : Content → Type 0) → ((n : Content) → IsSettledAt (file_state conn) n → Loaded n) → ((n : Content) → IsSettledEarlierAt (file_state conn) n → Loaded n)
      → (conn.schema ≡ no_schema → Loaded fresh) → HasCleanDisk (file_state after) → Loaded m
  loaded_found Loaded held renewed made clean = elim (found_after clean) [
    | inl was ↦ held m was
    | inr other ↦ elim other [ inl was ↦ renewed m was | inr none ↦ subst Loaded (sym none.0) (made none.2) ]
  ]

  pub leaves_found : ((n : Content) → IsSettledAt (file_state conn) n → IsTrue (file_state conn).is_open → LeavesOnly (file_state after) n) → ((n : Content) → IsSettledEarlierAt (file_state conn) n → LeavesOnly (file_state after) n)
      → (conn.schema ≡ no_schema → LeavesOnly (file_state after) fresh) → LeavesOnly (file_state after) m
  leaves_found held renewed made clean db left = elim (found_after clean) [
    | inl was ↦ held m was (up clean) clean db left
    | inr other ↦ elim other [ inl was ↦ renewed m was clean db left | inr none ↦ subst (StandsFor db) (sym none.0) (made none.2 clean db left) ]
  ]

  -- the last commit of tables of version 2 or 1 stands for the content
  still_earlier : (db : Trees) → db ≡ (file_state conn).committed.trees → IsSettledEarlierAt (file_state conn) m → StandsForEarlier db m
  still_earlier db is (inl was) = inl (record {
    lines = was.lines;
    totals = was.totals;
    sums = was.sums;
    stands = subst (λ t. StandsInSecond t (books m was.totals empty)) (sym is) (committed_second (file_state conn) (books m was.totals empty) was.settled);
  })
  still_earlier db is (inr was) = inr (record {
    lines = was.lines;
    totals = was.totals;
    sums = was.sums;
    stands = subst (λ t. StandsInEarlier t (books m was.totals empty)) (sym is) (committed_earlier (file_state conn) (books m was.totals empty) was.settled);
  })

  pub leaves_shown : SeenMayStay g → ((n : Content) → IsSettledAt (file_state conn) n → IsTrue (file_state conn).is_open → LeavesOnly (file_state after) n)
      → ((n : Content) → IsSettledEarlierAt (file_state conn) n → Survives (file_state conn) (file_state after) (λ db. StandsFor db n))
      → (conn.schema ≡ no_schema → Survives (file_state conn) (file_state after) (λ db. StandsFor db fresh)) → LeavesShown (file_state after) m
  leaves_shown stays held renewed made clean db left =
      let last = λ (may : (file_state conn).may_leave db). settled_at conn.store stays db (up clean) may in
      elim (found_after clean) [
        | inl was ↦ inl (held m was (up clean) clean db left)
        | inr other ↦ elim other [
          | inl was ↦ elim ((renewed m was).crash clean db left) [
            | inl may ↦ inr (inl (still_earlier db (last may) was))
            | inr stands ↦ inl stands
          ]
          | inr none ↦ elim ((made none.2).crash clean db left) [
            | inl may ↦ inr (inr (subst IsEmpty (sym (last may)) none.1, none.0))
            | inr stands ↦ inl (subst (StandsFor db) (sym none.0) stands)
          ]
        ]
      ]

  pub never_found : HasCleanDisk (file_state after) → ((n : Content) → ¬ IsSettledAt (file_state conn) n) → ((n : Content) → ¬ IsSettledEarlierAt (file_state conn) n) → ¬ (conn.schema ≡ no_schema) → ⊥
  never_found clean held renewed made =
      elim (found_after clean) [ inl was ↦ held m was | inr other ↦ elim other [ inl was ↦ renewed m was | inr none ↦ made none.2 ] ]
