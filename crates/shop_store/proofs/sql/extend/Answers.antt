use Rattle.std.specs.Prelude.{not}
use Rattle.std.specs.FinMap.{empty}
use Rattle.std.proofs.Common.{◌∙◌, subst, ap}
use Rattle.sqlite.specs.Held.{state}
use Rattle.shop_tables.specs.Changing.{HasSums}
use Rattle.shop_tables.specs.Held.{books}
use Rattle.shop_book.specs.Ledgers.{bare}
use Rattle.shop_store.specs.Loading.{IsLoaded}
use Rattle.shop_statements.specs.Earlier.{HoldsSecond}
use Rattle.shop_tables.specs.Renewing.{IsExtended}
use Rattle.shop_tables.proofs.EarlierRows.{stays_second}
use Rattle.shop_store.proofs.EarlierContents.{made_of, no_trail, renewed_survives, stays_older}
use Rattle.shop_store.proofs.RenewedBeside.{crash_then, left_as_before, left_survives, renewed_then, sees_still, undone_then}
use Rattle.shop_store.proofs.sql.extend.Goals as goal

-- ---- a row is none, the totals weren't the sums, or it wasn't known

pub returns-in-Ok-OtherSums-clause-as_before : goal.returns-in-Ok-OtherSums-clause-as_before
returns-in-Ok-OtherSums-clause-as_before g c m was = stays_older HoldsSecond stays_second (state g.S.Store c.args.conn.now) (state g.S.Store c.load_second_ledger.new.conn) m c.load_second_ledger.ensures.leaves was

pub returns-in-Ok-NoRow-clause-as_before : goal.returns-in-Ok-NoRow-clause-as_before
returns-in-Ok-NoRow-clause-as_before g c m was = stays_older HoldsSecond stays_second (state g.S.Store c.args.conn.now) (state g.S.Store c.load_second_ledger.new.conn) m c.load_second_ledger.ensures.leaves was

pub returns-in-Ok-OtherSums-clause-neither : goal.returns-in-Ok-OtherSums-clause-neither
returns-in-Ok-OtherSums-clause-neither g c is clean m was = subst (IsLoaded (HasSums (books m was.totals empty)) (bare m)) c.in-Ok-OtherSums.field-0-is (c.in-Ok-OtherSums.ensures.loaded clean (books m was.totals empty) was.holds) was.sums

pub returns-in-Ok-NoRow-clause-neither : goal.returns-in-Ok-NoRow-clause-neither
returns-in-Ok-NoRow-clause-neither g c is clean m was = absurd (subst (IsLoaded (HasSums (books m was.totals empty)) (bare m)) c.in-Ok-NoRow.field-0-is (c.in-Ok-NoRow.ensures.loaded clean (books m was.totals empty) was.holds))

pub returns-in-Err-clause-as_before : goal.returns-in-Err-clause-as_before
returns-in-Err-clause-as_before g c m was = stays_older HoldsSecond stays_second (state g.S.Store c.args.conn.now) (state g.S.Store c.load_second_ledger.new.conn) m c.load_second_ledger.ensures.leaves was

-- ---- the transaction ended

pub returns-in-Ok-clause-extended : goal.returns-in-Ok-clause-extended
returns-in-Ok-clause-extended g c m was =
    let w = stays_older HoldsSecond stays_second (state g.S.Store c.args.conn.now) (state g.S.Store c.load_second_ledger.new.conn) m c.load_second_ledger.ensures.leaves was in
    made_of HoldsSecond (state g.S.Store c.load_second_ledger.new.conn) (state g.S.Store c.extend_shop.new.conn) m w (c.in-Ok.ensures.extended (books m w.totals empty) w.holds)

pub returns-in-Ok-clause-crash : goal.returns-in-Ok-clause-crash
returns-in-Ok-clause-crash g c m was = renewed_survives HoldsSecond stays_second (state g.S.Store c.args.conn.now) (state g.S.Store c.load_second_ledger.new.conn) (state g.S.Store c.extend_shop.new.conn) c.load_second_ledger.ensures.leaves m was c.in-Ok.ensures.crash

pub returns-in-Ok-clause-after : goal.returns-in-Ok-clause-after
returns-in-Ok-clause-after g c m was =
    let w = stays_older HoldsSecond stays_second (state g.S.Store c.args.conn.now) (state g.S.Store c.load_second_ledger.new.conn) m c.load_second_ledger.ensures.leaves was in
    λ clean db left. record { lines = w.lines; totals = w.totals; uses = empty; sums = w.sums; trail = no_trail m w.totals w.none; stands = c.in-Ok.ensures.after (books m w.totals empty) w.holds clean db left }

pub returns-in-Ok-clause-schema : goal.returns-in-Ok-clause-schema
returns-in-Ok-clause-schema g c m was =
    let w = stays_older HoldsSecond stays_second (state g.S.Store c.args.conn.now) (state g.S.Store c.load_second_ledger.new.conn) m c.load_second_ledger.ensures.leaves was in
    c.in-Ok.ensures.schema (books m w.totals empty) w.holds

pub returns-in-Err-extend_shop-clause-as_before : goal.returns-in-Err-extend_shop-clause-as_before
returns-in-Err-extend_shop-clause-as_before g c m was =
    let w = stays_older HoldsSecond stays_second (state g.S.Store c.args.conn.now) (state g.S.Store c.load_second_ledger.new.conn) m c.load_second_ledger.ensures.leaves was in
    record { lines = w.lines; none = w.none; totals = w.totals; sums = w.sums; holds = c.in-Err-extend_shop.ensures.as_before (books m w.totals empty) w.holds }

pub returns-in-Err-extend_shop-clause-crash : goal.returns-in-Err-extend_shop-clause-crash
returns-in-Err-extend_shop-clause-crash g c m was =
    renewed_survives HoldsSecond stays_second (state g.S.Store c.args.conn.now) (state g.S.Store c.load_second_ledger.new.conn) (state g.S.Store c.extend_shop.new.conn) c.load_second_ledger.ensures.leaves m was c.in-Err-extend_shop.ensures.crash

-- ---- beside tables of others

pub returns-in-Ok-OtherSums-clause-undone : goal.returns-in-Ok-OtherSums-clause-undone
returns-in-Ok-OtherSums-clause-undone g c = left_as_before (state g.S.Store c.args.conn.now) (state g.S.Store c.load_second_ledger.new.conn) c.load_second_ledger.ensures.leaves (c.is_autocommit-outside.ensures.settled (c.is_autocommit-outside.ensures.value ∙ ap not c.requires))

pub returns-in-Ok-NoRow-clause-undone : goal.returns-in-Ok-NoRow-clause-undone
returns-in-Ok-NoRow-clause-undone g c = left_as_before (state g.S.Store c.args.conn.now) (state g.S.Store c.load_second_ledger.new.conn) c.load_second_ledger.ensures.leaves (c.is_autocommit-outside.ensures.settled (c.is_autocommit-outside.ensures.value ∙ ap not c.requires))

pub returns-in-Ok-OtherSums-clause-beside_crash : goal.returns-in-Ok-OtherSums-clause-beside_crash
returns-in-Ok-OtherSums-clause-beside_crash g c sees = left_survives (state g.S.Store c.args.conn.now) (state g.S.Store c.load_second_ledger.new.conn) c.load_second_ledger.ensures.leaves (c.is_autocommit-outside.ensures.settled (c.is_autocommit-outside.ensures.value ∙ ap not c.requires)) IsExtended

pub returns-in-Ok-NoRow-clause-beside_crash : goal.returns-in-Ok-NoRow-clause-beside_crash
returns-in-Ok-NoRow-clause-beside_crash g c sees = left_survives (state g.S.Store c.args.conn.now) (state g.S.Store c.load_second_ledger.new.conn) c.load_second_ledger.ensures.leaves (c.is_autocommit-outside.ensures.settled (c.is_autocommit-outside.ensures.value ∙ ap not c.requires)) IsExtended

pub returns-in-Err-clause-undone : goal.returns-in-Err-clause-undone
returns-in-Err-clause-undone g c = left_as_before (state g.S.Store c.args.conn.now) (state g.S.Store c.load_second_ledger.new.conn) c.load_second_ledger.ensures.leaves (c.is_autocommit-outside.ensures.settled (c.is_autocommit-outside.ensures.value ∙ ap not c.requires))

pub returns-in-Err-clause-beside_crash : goal.returns-in-Err-clause-beside_crash
returns-in-Err-clause-beside_crash g c sees = left_survives (state g.S.Store c.args.conn.now) (state g.S.Store c.load_second_ledger.new.conn) c.load_second_ledger.ensures.leaves (c.is_autocommit-outside.ensures.settled (c.is_autocommit-outside.ensures.value ∙ ap not c.requires)) IsExtended

pub returns-in-Ok-clause-beside : goal.returns-in-Ok-clause-beside
returns-in-Ok-clause-beside g c sees = renewed_then (state g.S.Store c.args.conn.now) (state g.S.Store c.load_second_ledger.new.conn) c.load_second_ledger.ensures.leaves (c.is_autocommit-outside.ensures.settled (c.is_autocommit-outside.ensures.value ∙ ap not c.requires)) IsExtended (state g.S.Store c.extend_shop.new.conn) c.in-Ok.ensures.earlier (c.in-Ok.ensures.beside (sees_still (state g.S.Store c.args.conn.now) (state g.S.Store c.load_second_ledger.new.conn) c.load_second_ledger.ensures.leaves (c.is_autocommit-outside.ensures.settled (c.is_autocommit-outside.ensures.value ∙ ap not c.requires)) sees))

pub returns-in-Ok-clause-beside_crash : goal.returns-in-Ok-clause-beside_crash
returns-in-Ok-clause-beside_crash g c sees = crash_then (state g.S.Store c.args.conn.now) (state g.S.Store c.load_second_ledger.new.conn) c.load_second_ledger.ensures.leaves (c.is_autocommit-outside.ensures.settled (c.is_autocommit-outside.ensures.value ∙ ap not c.requires)) IsExtended (state g.S.Store c.extend_shop.new.conn) (c.in-Ok.ensures.beside_crash (sees_still (state g.S.Store c.args.conn.now) (state g.S.Store c.load_second_ledger.new.conn) c.load_second_ledger.ensures.leaves (c.is_autocommit-outside.ensures.settled (c.is_autocommit-outside.ensures.value ∙ ap not c.requires)) sees))

pub returns-in-Err-extend_shop-clause-undone : goal.returns-in-Err-extend_shop-clause-undone
returns-in-Err-extend_shop-clause-undone g c = undone_then (state g.S.Store c.args.conn.now) (state g.S.Store c.load_second_ledger.new.conn) c.load_second_ledger.ensures.leaves (c.is_autocommit-outside.ensures.settled (c.is_autocommit-outside.ensures.value ∙ ap not c.requires)) (state g.S.Store c.extend_shop.new.conn) c.in-Err-extend_shop.ensures.earlier c.in-Err-extend_shop.ensures.undone

pub returns-in-Err-extend_shop-clause-beside_crash : goal.returns-in-Err-extend_shop-clause-beside_crash
returns-in-Err-extend_shop-clause-beside_crash g c sees = crash_then (state g.S.Store c.args.conn.now) (state g.S.Store c.load_second_ledger.new.conn) c.load_second_ledger.ensures.leaves (c.is_autocommit-outside.ensures.settled (c.is_autocommit-outside.ensures.value ∙ ap not c.requires)) IsExtended (state g.S.Store c.extend_shop.new.conn) (c.in-Err-extend_shop.ensures.beside_crash (sees_still (state g.S.Store c.args.conn.now) (state g.S.Store c.load_second_ledger.new.conn) c.load_second_ledger.ensures.leaves (c.is_autocommit-outside.ensures.settled (c.is_autocommit-outside.ensures.value ∙ ap not c.requires)) sees))

pub returns-in-Ok-clause-loaded : goal.returns-in-Ok-clause-loaded
returns-in-Ok-clause-loaded g c m was clean =
    (subst (IsLoaded (HasSums (books m was.totals empty)) (bare m)) c.in-Ok-Ledger.field-0-is (c.in-Ok-Ledger.ensures.loaded (c.in-Ok.ensures.earlier clean) (books m was.totals empty) was.holds)).1
