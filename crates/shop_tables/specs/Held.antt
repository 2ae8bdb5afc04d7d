-- When a connection, or what a crash left of it, stands for a content.
use Rattle.std.specs.Prelude.{◌≡◌, IsTrue}
use Rattle.std.specs.FinMap.{FinMap}
use Rattle.sqlite_trees.specs.Tree.{Trees}
use Rattle.sqlite.specs.State.{State, HasCleanDisk}
use Rattle.cut_measure.specs.Codes.{code_cmp}
use Rattle.shop_records.specs.Content.{Content}
use Rattle.shop_records.specs.WellFormed.{HasLines}
use Rattle.shop_records.specs.declared.records.Totals.{Totals}
use Rattle.shop_statements.specs.Beside.{IsSameBeside, SparesRows}
use Rattle.shop_statements.specs.Layout.{our_trees}
use Rattle.shop_statements.specs.Rows.{use_cmp}
use Rattle.shop_statements.specs.Shown.{Books, IsSettled, Holds, StandsIn}
use Rattle.shop_tables.specs.Changing.{HasSums, HasTrail}

-- the books of a content, rows of totals, and orders of jobs
abbrev pub books : Content → FinMap code_cmp Totals → FinMap use_cmp (Unit {0}) → Books
books m totals uses = record { content = m; totals = totals; uses = uses }

-- The connection holds the content, whose orders have their lines and whose entries have no gap, as totals the sums of its
-- parts, and orders of jobs that are there.
pub record HoldsContent (s : State) (m : Content) : Type 0 where
  pub lines : HasLines m
  pub totals : FinMap code_cmp Totals
  pub uses : FinMap use_cmp (Unit {0})
  pub sums : HasSums (books m totals uses)
  pub trail : HasTrail (books m totals uses)
  pub holds : Holds s (books m totals uses)

-- The connection sees the content, so, with the sums of its parts as totals, and the last commit is what it sees.
pub record IsSettledAt (s : State) (m : Content) : Type 0 where
  pub lines : HasLines m
  pub totals : FinMap code_cmp Totals
  pub uses : FinMap use_cmp (Unit {0})
  pub sums : HasSums (books m totals uses)
  pub trail : HasTrail (books m totals uses)
  pub settled : IsSettled s (books m totals uses)

-- The trees stand for the content, so, and for the sums of its parts as totals.
pub record StandsFor (db : Trees) (m : Content) : Type 0 where
  pub lines : HasLines m
  pub totals : FinMap code_cmp Totals
  pub uses : FinMap use_cmp (Unit {0})
  pub sums : HasSums (books m totals uses)
  pub trail : HasTrail (books m totals uses)
  pub stands : StandsIn db (books m totals uses)

-- an open after a crash finds the content
abbrev pub LeavesOnly : State → Content → Type 0
LeavesOnly s m = HasCleanDisk s → (db : Trees) → s.may_leave db → StandsFor db m

-- Where the connection saw its last commit, it sees the same but for the rows of our tables, and so does an open after a crash.
pub record LeavesOthers (old new : State) : Type 0 where
  pub seen : HasCleanDisk new → IsTrue new.is_open → old.now ≡ old.committed → IsSameBeside our_trees old.now new.now
  pub crash : HasCleanDisk new → IsTrue old.is_open → old.now ≡ old.committed → (db : Trees) → new.may_leave db → SparesRows our_trees old.now.schema old.now.trees db
