use Rattle.std.proofs.Common.{Err, Ok, inl, inr, refl, ap, sym, subst, ◌∙◌, arith}
use Rattle.std.specs.FinMap.{empty}
use Rattle.shop_tables.specs.Renewing.{IsBroughtOn, IsExtended}
use Rattle.sqlite.proofs.StateLemmas.{survives_then}
use Rattle.sqlite.specs.State.{Survives}
use Rattle.sqlite.specs.Held.{state}
use Rattle.shop_records.specs.Content.{fresh}
use Rattle.shop_tables.specs.Held.{books, HoldsContent, LeavesOnly, StandsFor}
use Rattle.shop_statements.specs.Shown.{HasShopSchema, Leaves}
use Rattle.shop_tables.specs.Adopting.{HoldsBeside, StandsBeside}
use Rattle.shop_tables.proofs.Taken.{earlier_taken, taken}
use Rattle.shop_book.specs.Ledgers.{content_in}
use Rattle.shop_store.proofs.Commits.{still_leaves}
use Rattle.sqlite.specs.State.{HasCleanDisk}
use Rattle.shop_statements.proofs.Reading.{leaves_then}
use Rattle.shop_store.proofs.Adopting.{holds_fresh, survives_fresh, leaves_fresh, holds_settled, wrong_version}
use Rattle.shop_store.proofs.Checked.{either_way, if_back, if_book}
use Rattle.shop_store.proofs.EarlierContents.{held_first, held_older, held_second, leaves_older, leaves_survives, older}
use Rattle.shop_store.specs.Storing.{IsRemembered}
use Rattle.shop_store.proofs.RenewedBeside.{crash_then, left_survives, renewed_then, sees_still, undone_then}
use Rattle.shop_store.proofs.sql.SqlBook+S.adopt.Goals as goal

-- ---- tables were made

pub returns-in-Ok-Made-clause-fresh : goal.returns-in-Ok-Made-clause-fresh
returns-in-Ok-Made-clause-fresh g c has = subst (λ h. HoldsContent (state g.S.Store h) fresh) (sym c.over.ensures.conn) (holds_fresh (state g.S.Store c.adopt_tables.new.conn) (c.in-Ok-Made.ensures.fresh has))

pub returns-in-Ok-Made-clause-crash : goal.returns-in-Ok-Made-clause-crash
returns-in-Ok-Made-clause-crash g c has =
    subst (λ h. Survives (state g.S.Store c.args.conn) (state g.S.Store h) (λ db. StandsFor db fresh)) (sym c.over.ensures.conn)
    (survives_fresh (state g.S.Store c.args.conn) (state g.S.Store c.adopt_tables.new.conn) (c.in-Ok-Made.ensures.crash has))

pub returns-in-Ok-Made-clause-after : goal.returns-in-Ok-Made-clause-after
returns-in-Ok-Made-clause-after g c has = subst (λ h. LeavesOnly (state g.S.Store h) fresh) (sym c.over.ensures.conn) (leaves_fresh (state g.S.Store c.adopt_tables.new.conn) (c.in-Ok-Made.ensures.after has))

pub returns-in-Ok-Made-clause-held : goal.returns-in-Ok-Made-clause-held
returns-in-Ok-Made-clause-held g c m was = absurd (c.in-Ok-Made.ensures.made (ap Ok c.in-Ok-Made.field-0-is) (books m was.totals was.uses) was.settled)

pub returns-in-Ok-Made-clause-sums : goal.returns-in-Ok-Made-clause-sums
returns-in-Ok-Made-clause-sums g c clean b was = absurd (c.in-Ok-Made.ensures.made (ap Ok c.in-Ok-Made.field-0-is) b was)

pub returns-in-Ok-Made-clause-loaded : goal.returns-in-Ok-Made-clause-loaded
returns-in-Ok-Made-clause-loaded g c m was = absurd (c.in-Ok-Made.ensures.made (ap Ok c.in-Ok-Made.field-0-is) (books m was.totals was.uses) was.settled)

pub returns-in-Ok-Made-clause-renewed_loaded : goal.returns-in-Ok-Made-clause-renewed_loaded
returns-in-Ok-Made-clause-renewed_loaded g c m was = absurd (older (state g.S.Store c.args.conn) m was (λ h. let e = c.in-Ok-Made.ensures.two_only h in let f = c.in-Ok-Made.field-0-is in cc) (λ h. let e = c.in-Ok-Made.ensures.one_only h in let f = c.in-Ok-Made.field-0-is in cc))

pub returns-in-Ok-Made-clause-fresh_loaded : goal.returns-in-Ok-Made-clause-fresh_loaded
returns-in-Ok-Made-clause-fresh_loaded g c free = ap content_in c.over.ensures.ledger ∙ c.new.ensures

-- ---- tables were found

pub returns-in-Ok-Found-clause-earlier : goal.returns-in-Ok-Found-clause-earlier
returns-in-Ok-Found-clause-earlier g c =
    let before = c.in-Ok-Found.ensures.earlier in
    either_way (λ book. book.storage.conn) _ (λ h leaves clean. before (let l = leaves.survives.clean in omega (arith, l, clean))) c.checked.result c.checked.ensures.leaves

pub returns-in-Ok-Found-clause-fresh : goal.returns-in-Ok-Found-clause-fresh
returns-in-Ok-Found-clause-fresh g c has = absurd ((c.in-Ok-Found.ensures.found (ap Ok c.in-Ok-Found.field-0-is)).0 has)

pub returns-in-Ok-Found-clause-vacant : goal.returns-in-Ok-Found-clause-vacant
returns-in-Ok-Found-clause-vacant g c has = absurd ((c.in-Ok-Found.ensures.found (ap Ok c.in-Ok-Found.field-0-is)).0 has)

pub returns-in-Ok-Found-clause-crash : goal.returns-in-Ok-Found-clause-crash
returns-in-Ok-Found-clause-crash g c has = absurd ((c.in-Ok-Found.ensures.found (ap Ok c.in-Ok-Found.field-0-is)).0 has)

pub returns-in-Ok-Found-clause-after : goal.returns-in-Ok-Found-clause-after
returns-in-Ok-Found-clause-after g c has = absurd ((c.in-Ok-Found.ensures.found (ap Ok c.in-Ok-Found.field-0-is)).0 has)

pub returns-in-Ok-Found-clause-held : goal.returns-in-Ok-Found-clause-held
returns-in-Ok-Found-clause-held g c m was =
    either_way (λ book. book.storage.conn) _ (λ h leaves. holds_settled (state g.S.Store c.args.conn) (state g.S.Store h) m was (λ b settled. leaves.stays b (c.in-Ok-Found.ensures.held b settled))) c.checked.result c.checked.ensures.leaves

pub returns-in-Ok-Found-clause-sums : goal.returns-in-Ok-Found-clause-sums
returns-in-Ok-Found-clause-sums g c =
    if_book (λ book. book.storage.conn) _ (λ book leaves sums clean b was. let held = c.in-Ok-Found.ensures.held b was in (sums clean b held, leaves.stays b held)) c.checked.result c.checked.ensures.leaves c.checked.ensures.sums

pub returns-in-Ok-Found-clause-still : goal.returns-in-Ok-Found-clause-still
returns-in-Ok-Found-clause-still g c it =
    either_way (λ book. book.storage.conn) _ (λ h leaves. survives_then (state g.S.Store c.args.conn) (state g.S.Store c.adopt_tables.new.conn) (state g.S.Store h) (λ _. ⊥) (λ _. ⊥) (λ _. ⊥) (λ _ db none. none) (λ _ db none. none) (c.in-Ok-Found.ensures.still it) leaves.survives)
    c.checked.result c.checked.ensures.leaves

pub returns-in-Ok-Found-clause-foreign : goal.returns-in-Ok-Found-clause-foreign
returns-in-Ok-Found-clause-foreign g c = if_back (λ book. book.storage.conn) _ (λ back leaves outside is. (c.in-Ok-Found.ensures.found (ap Ok c.in-Ok-Found.field-0-is)).0) c.checked.result c.checked.ensures.leaves c.checked.ensures.mode

pub returns-in-Ok-Found-clause-unwritten : goal.returns-in-Ok-Found-clause-unwritten
returns-in-Ok-Found-clause-unwritten g c =
    if_back (λ book. book.storage.conn) _ (λ back leaves outside is. leaves_then _ _ _ (c.in-Ok-Found.ensures.found (ap Ok c.in-Ok-Found.field-0-is)).1 leaves) c.checked.result c.checked.ensures.leaves c.checked.ensures.mode

pub returns-in-Ok-Found-clause-neither : goal.returns-in-Ok-Found-clause-neither
returns-in-Ok-Found-clause-neither g c =
    if_back (λ book. book.storage.conn) _ (λ back leaves neither is clean m was. neither is clean (books m was.totals was.uses) (c.in-Ok-Found.ensures.held (books m was.totals was.uses) was.settled) was.sums was.trail) c.checked.result c.checked.ensures.leaves
    c.checked.ensures.neither

pub returns-in-Ok-Found-clause-loaded : goal.returns-in-Ok-Found-clause-loaded
returns-in-Ok-Found-clause-loaded g c m was =
    if_book (λ book. book.storage.conn) _ (λ book leaves loaded clean. loaded clean (books m was.totals was.uses) (c.in-Ok-Found.ensures.held (books m was.totals was.uses) was.settled) was.lines) c.checked.result c.checked.ensures.leaves c.checked.ensures.loaded

pub returns-in-Ok-Found-clause-renewed_loaded : goal.returns-in-Ok-Found-clause-renewed_loaded
returns-in-Ok-Found-clause-renewed_loaded g c m was = absurd (older (state g.S.Store c.args.conn) m was (λ h. let e = c.in-Ok-Found.ensures.two_only h in let f = c.in-Ok-Found.field-0-is in cc) (λ h. let e = c.in-Ok-Found.ensures.one_only h in let f = c.in-Ok-Found.field-0-is in cc))

pub returns-in-Ok-Found-clause-fresh_loaded : goal.returns-in-Ok-Found-clause-fresh_loaded
returns-in-Ok-Found-clause-fresh_loaded g c free = absurd (let e = (c.in-Ok-Found.ensures.free free).0 in let f = c.in-Ok-Found.field-0-is in cc)

-- ---- they weren't taken over

pub returns-in-Err-clause-crash : goal.returns-in-Err-clause-crash
returns-in-Err-clause-crash g c has = survives_fresh (state g.S.Store c.args.conn) (state g.S.Store c.adopt_tables.new.conn) (c.in-Err.ensures.crash has)

pub returns-in-Err-clause-held : goal.returns-in-Err-clause-held
returns-in-Err-clause-held g c m was = holds_settled (state g.S.Store c.args.conn) (state g.S.Store c.adopt_tables.new.conn) m was c.in-Err.ensures.held

pub returns-in-Err-clause-neither : goal.returns-in-Err-clause-neither
returns-in-Err-clause-neither g c is clean m was = c.in-Err.ensures.neither (ap Err (wrong_version _ (sym c.fault_of_adopt.ensures ∙ is))) clean (books m was.totals was.uses) was.settled

-- ---- tables of version 1 were there

pub returns-in-Ok-Earlier-clause-fresh : goal.returns-in-Ok-Earlier-clause-fresh
returns-in-Ok-Earlier-clause-fresh g c has = absurd ((c.in-Ok-Earlier.ensures.one (ap Ok c.in-Ok-Earlier.field-0-is)).0 has)

pub returns-in-Ok-Earlier-clause-vacant : goal.returns-in-Ok-Earlier-clause-vacant
returns-in-Ok-Earlier-clause-vacant g c has = absurd ((c.in-Ok-Earlier.ensures.one (ap Ok c.in-Ok-Earlier.field-0-is)).0 has)

pub returns-in-Ok-Earlier-clause-crash : goal.returns-in-Ok-Earlier-clause-crash
returns-in-Ok-Earlier-clause-crash g c has = absurd ((c.in-Ok-Earlier.ensures.one (ap Ok c.in-Ok-Earlier.field-0-is)).0 has)

pub returns-in-Ok-Earlier-clause-after : goal.returns-in-Ok-Earlier-clause-after
returns-in-Ok-Earlier-clause-after g c has = absurd ((c.in-Ok-Earlier.ensures.one (ap Ok c.in-Ok-Earlier.field-0-is)).0 has)

pub returns-in-Ok-Earlier-clause-earlier : goal.returns-in-Ok-Earlier-clause-earlier
returns-in-Ok-Earlier-clause-earlier g c = either_way (λ book. book.storage.conn) _ (λ h early clean. c.in-Ok-Earlier.ensures.earlier (early clean)) c.renewed.result c.renewed.ensures.earlier

pub returns-in-Ok-Earlier-clause-held : goal.returns-in-Ok-Earlier-clause-held
returns-in-Ok-Earlier-clause-held g c m was = absurd ((c.in-Ok-Earlier.ensures.one (ap Ok c.in-Ok-Earlier.field-0-is)).1 was.settled.shows.schema)

pub returns-in-Ok-Earlier-clause-sums : goal.returns-in-Ok-Earlier-clause-sums
returns-in-Ok-Earlier-clause-sums g c = if_book (λ book. book.storage.conn) _ (λ book early none clean b was. absurd ((c.in-Ok-Earlier.ensures.one (ap Ok c.in-Ok-Earlier.field-0-is)).1 was.shows.schema)) c.renewed.result c.renewed.ensures.earlier c.renewed.ensures.failures

pub returns-in-Ok-Earlier-clause-still : goal.returns-in-Ok-Earlier-clause-still
returns-in-Ok-Earlier-clause-still g c it = absurd ((c.in-Ok-Earlier.ensures.one (ap Ok c.in-Ok-Earlier.field-0-is)).1 it)

pub returns-in-Ok-Earlier-clause-foreign : goal.returns-in-Ok-Earlier-clause-foreign
returns-in-Ok-Earlier-clause-foreign g c = if_back (λ book. book.storage.conn) _ (λ back early outside is. (c.in-Ok-Earlier.ensures.one (ap Ok c.in-Ok-Earlier.field-0-is)).0) c.renewed.result c.renewed.ensures.earlier c.renewed.ensures.mode

pub returns-in-Ok-Earlier-clause-unwritten : goal.returns-in-Ok-Earlier-clause-unwritten
returns-in-Ok-Earlier-clause-unwritten g c = if_back (λ book. book.storage.conn) _ (λ back early leaves is. leaves_then _ _ _ (c.in-Ok-Earlier.ensures.one (ap Ok c.in-Ok-Earlier.field-0-is)).2 (leaves is)) c.renewed.result c.renewed.ensures.earlier c.renewed.ensures.unwritten

pub returns-in-Ok-Earlier-clause-neither : goal.returns-in-Ok-Earlier-clause-neither
returns-in-Ok-Earlier-clause-neither g c = if_back (λ book. book.storage.conn) _ (λ back early outside is clean m was. absurd ((c.in-Ok-Earlier.ensures.one (ap Ok c.in-Ok-Earlier.field-0-is)).1 was.settled.shows.schema)) c.renewed.result c.renewed.ensures.earlier c.renewed.ensures.mode

pub returns-in-Ok-Earlier-clause-renewed : goal.returns-in-Ok-Earlier-clause-renewed
returns-in-Ok-Earlier-clause-renewed g c m was = c.renewed.ensures.renewed m (held_first (state g.S.Store c.args.conn) (state g.S.Store c.adopt_tables.new.conn) m (c.in-Ok-Earlier.ensures.one (ap Ok c.in-Ok-Earlier.field-0-is)).2 (λ h. let e = c.in-Ok-Earlier.ensures.two_only h in let f = c.in-Ok-Earlier.field-0-is in cc) was)

pub returns-in-Ok-Earlier-clause-as_before : goal.returns-in-Ok-Earlier-clause-as_before
returns-in-Ok-Earlier-clause-as_before g c m was = if_back (λ book. book.storage.conn) _ (λ back early held. inr held) c.renewed.result c.renewed.ensures.earlier (c.renewed.ensures.as_before m (held_first (state g.S.Store c.args.conn) (state g.S.Store c.adopt_tables.new.conn) m (c.in-Ok-Earlier.ensures.one (ap Ok c.in-Ok-Earlier.field-0-is)).2 (λ h. let e = c.in-Ok-Earlier.ensures.two_only h in let f = c.in-Ok-Earlier.field-0-is in cc) was))

pub returns-in-Ok-Earlier-clause-renewed_crash : goal.returns-in-Ok-Earlier-clause-renewed_crash
returns-in-Ok-Earlier-clause-renewed_crash g c m was = either_way (λ book. book.storage.conn) _ (λ h crash. survives_then (state g.S.Store c.args.conn) (state g.S.Store c.adopt_tables.new.conn) (state g.S.Store h) (λ _. ⊥) (λ db. StandsFor db m) (λ db. StandsFor db m) (λ _ db none. absurd none) (λ _ db stands. stands) (c.in-Ok-Earlier.ensures.one (ap Ok c.in-Ok-Earlier.field-0-is)).2.survives crash) c.renewed.result (c.renewed.ensures.crash m (held_first (state g.S.Store c.args.conn) (state g.S.Store c.adopt_tables.new.conn) m (c.in-Ok-Earlier.ensures.one (ap Ok c.in-Ok-Earlier.field-0-is)).2 (λ h. let e = c.in-Ok-Earlier.ensures.two_only h in let f = c.in-Ok-Earlier.field-0-is in cc) was))

pub returns-in-Ok-Earlier-clause-renewed_after : goal.returns-in-Ok-Earlier-clause-renewed_after
returns-in-Ok-Earlier-clause-renewed_after g c m was = c.renewed.ensures.after m (held_first (state g.S.Store c.args.conn) (state g.S.Store c.adopt_tables.new.conn) m (c.in-Ok-Earlier.ensures.one (ap Ok c.in-Ok-Earlier.field-0-is)).2 (λ h. let e = c.in-Ok-Earlier.ensures.two_only h in let f = c.in-Ok-Earlier.field-0-is in cc) was)

pub returns-in-Ok-Earlier-clause-not_earlier : goal.returns-in-Ok-Earlier-clause-not_earlier
returns-in-Ok-Earlier-clause-not_earlier g c = if_back (λ book. book.storage.conn) _ (λ back early neither is clean m was. neither is clean m (held_first (state g.S.Store c.args.conn) (state g.S.Store c.adopt_tables.new.conn) m (c.in-Ok-Earlier.ensures.one (ap Ok c.in-Ok-Earlier.field-0-is)).2 (λ h. let e = c.in-Ok-Earlier.ensures.two_only h in let f = c.in-Ok-Earlier.field-0-is in cc) was)) c.renewed.result c.renewed.ensures.earlier c.renewed.ensures.neither

pub returns-in-Ok-Earlier-clause-loaded : goal.returns-in-Ok-Earlier-clause-loaded
returns-in-Ok-Earlier-clause-loaded g c m was = absurd ((c.in-Ok-Earlier.ensures.one (ap Ok c.in-Ok-Earlier.field-0-is)).1 was.settled.shows.schema)

pub returns-in-Ok-Earlier-clause-renewed_loaded : goal.returns-in-Ok-Earlier-clause-renewed_loaded
returns-in-Ok-Earlier-clause-renewed_loaded g c m was = c.renewed.ensures.loaded m (held_first (state g.S.Store c.args.conn) (state g.S.Store c.adopt_tables.new.conn) m (c.in-Ok-Earlier.ensures.one (ap Ok c.in-Ok-Earlier.field-0-is)).2 (λ h. let e = c.in-Ok-Earlier.ensures.two_only h in let f = c.in-Ok-Earlier.field-0-is in cc) was)

pub returns-in-Ok-Earlier-clause-fresh_loaded : goal.returns-in-Ok-Earlier-clause-fresh_loaded
returns-in-Ok-Earlier-clause-fresh_loaded g c free = absurd (let e = (c.in-Ok-Earlier.ensures.free free).0 in let f = c.in-Ok-Earlier.field-0-is in cc)

-- ---- and nowhere else

pub returns-in-Ok-Made-clause-renewed : goal.returns-in-Ok-Made-clause-renewed
returns-in-Ok-Made-clause-renewed g c m was = absurd (older (state g.S.Store c.args.conn) m was (λ h. let e = c.in-Ok-Made.ensures.two_only h in let f = c.in-Ok-Made.field-0-is in cc) (λ h. let e = c.in-Ok-Made.ensures.one_only h in let f = c.in-Ok-Made.field-0-is in cc))

pub returns-in-Ok-Made-clause-renewed_crash : goal.returns-in-Ok-Made-clause-renewed_crash
returns-in-Ok-Made-clause-renewed_crash g c m was = absurd (older (state g.S.Store c.args.conn) m was (λ h. let e = c.in-Ok-Made.ensures.two_only h in let f = c.in-Ok-Made.field-0-is in cc) (λ h. let e = c.in-Ok-Made.ensures.one_only h in let f = c.in-Ok-Made.field-0-is in cc))

pub returns-in-Ok-Made-clause-renewed_after : goal.returns-in-Ok-Made-clause-renewed_after
returns-in-Ok-Made-clause-renewed_after g c m was = absurd (older (state g.S.Store c.args.conn) m was (λ h. let e = c.in-Ok-Made.ensures.two_only h in let f = c.in-Ok-Made.field-0-is in cc) (λ h. let e = c.in-Ok-Made.ensures.one_only h in let f = c.in-Ok-Made.field-0-is in cc))

pub returns-in-Ok-Found-clause-renewed : goal.returns-in-Ok-Found-clause-renewed
returns-in-Ok-Found-clause-renewed g c m was = absurd (older (state g.S.Store c.args.conn) m was (λ h. let e = c.in-Ok-Found.ensures.two_only h in let f = c.in-Ok-Found.field-0-is in cc) (λ h. let e = c.in-Ok-Found.ensures.one_only h in let f = c.in-Ok-Found.field-0-is in cc))

pub returns-in-Ok-Found-clause-as_before : goal.returns-in-Ok-Found-clause-as_before
returns-in-Ok-Found-clause-as_before g c m was = absurd (older (state g.S.Store c.args.conn) m was (λ h. let e = c.in-Ok-Found.ensures.two_only h in let f = c.in-Ok-Found.field-0-is in cc) (λ h. let e = c.in-Ok-Found.ensures.one_only h in let f = c.in-Ok-Found.field-0-is in cc))

pub returns-in-Ok-Found-clause-renewed_crash : goal.returns-in-Ok-Found-clause-renewed_crash
returns-in-Ok-Found-clause-renewed_crash g c m was = absurd (older (state g.S.Store c.args.conn) m was (λ h. let e = c.in-Ok-Found.ensures.two_only h in let f = c.in-Ok-Found.field-0-is in cc) (λ h. let e = c.in-Ok-Found.ensures.one_only h in let f = c.in-Ok-Found.field-0-is in cc))

pub returns-in-Ok-Found-clause-renewed_after : goal.returns-in-Ok-Found-clause-renewed_after
returns-in-Ok-Found-clause-renewed_after g c m was = absurd (older (state g.S.Store c.args.conn) m was (λ h. let e = c.in-Ok-Found.ensures.two_only h in let f = c.in-Ok-Found.field-0-is in cc) (λ h. let e = c.in-Ok-Found.ensures.one_only h in let f = c.in-Ok-Found.field-0-is in cc))

pub returns-in-Ok-Found-clause-not_earlier : goal.returns-in-Ok-Found-clause-not_earlier
returns-in-Ok-Found-clause-not_earlier g c = if_back (λ book. book.storage.conn) _ (λ back leaves outside is clean m was. absurd (older (state g.S.Store c.args.conn) m was (λ h. let e = c.in-Ok-Found.ensures.two_only h in let f = c.in-Ok-Found.field-0-is in cc) (λ h. let e = c.in-Ok-Found.ensures.one_only h in let f = c.in-Ok-Found.field-0-is in cc))) c.checked.result c.checked.ensures.leaves c.checked.ensures.mode

pub returns-in-Err-clause-as_before : goal.returns-in-Err-clause-as_before
returns-in-Err-clause-as_before g c m was = held_older (state g.S.Store c.args.conn) (state g.S.Store c.adopt_tables.new.conn) m (leaves_older (state g.S.Store c.args.conn) (state g.S.Store c.adopt_tables.new.conn) m c.in-Err.ensures.two_leaves c.in-Err.ensures.one_leaves was) was

pub returns-in-Err-clause-renewed_crash : goal.returns-in-Err-clause-renewed_crash
returns-in-Err-clause-renewed_crash g c m was = leaves_survives (state g.S.Store c.args.conn) (state g.S.Store c.adopt_tables.new.conn) m (leaves_older (state g.S.Store c.args.conn) (state g.S.Store c.adopt_tables.new.conn) m c.in-Err.ensures.two_leaves c.in-Err.ensures.one_leaves was)

pub returns-in-Err-clause-not_earlier : goal.returns-in-Err-clause-not_earlier
returns-in-Err-clause-not_earlier g c is clean m was =
    let wrong = ap Err (wrong_version _ (sym c.fault_of_adopt.ensures ∙ is)) in
    elim was [ inl second ↦ c.in-Err.ensures.two_neither wrong clean (books m second.totals empty) second.settled | inr one ↦ c.in-Err.ensures.one_neither wrong clean (books m one.totals empty) one.settled ]

-- ---- whether it is of a version, and what is left

pub returns-in-Ok-Made-clause-schema : goal.returns-in-Ok-Made-clause-schema
returns-in-Ok-Made-clause-schema g c has = subst (λ h. HasShopSchema (state g.S.Store h)) (sym c.over.ensures.conn) (c.in-Ok-Made.ensures.schema has)

pub returns-in-Ok-Made-clause-held_after : goal.returns-in-Ok-Made-clause-held_after
returns-in-Ok-Made-clause-held_after g c m was up = absurd (c.in-Ok-Made.ensures.made (ap Ok c.in-Ok-Made.field-0-is) (books m was.totals was.uses) was.settled)

pub returns-in-Ok-Made-clause-renewed_schema : goal.returns-in-Ok-Made-clause-renewed_schema
returns-in-Ok-Made-clause-renewed_schema g c m was = absurd (older (state g.S.Store c.args.conn) m was (λ h. let e = c.in-Ok-Made.ensures.two_only h in let f = c.in-Ok-Made.field-0-is in cc) (λ h. let e = c.in-Ok-Made.ensures.one_only h in let f = c.in-Ok-Made.field-0-is in cc))

pub returns-in-Ok-Made-clause-version : goal.returns-in-Ok-Made-clause-version
returns-in-Ok-Made-clause-version g c it clean = c.in-Ok-Made.ensures.named it (subst (λ h. HasCleanDisk (state g.S.Store h)) c.over.ensures.conn clean)

pub returns-in-Ok-Made-clause-earlier_version : goal.returns-in-Ok-Made-clause-earlier_version
returns-in-Ok-Made-clause-earlier_version g c it clean = c.in-Ok-Made.ensures.one_named it (subst (λ h. HasCleanDisk (state g.S.Store h)) c.over.ensures.conn clean)

pub returns-in-Ok-Made-clause-read_only : goal.returns-in-Ok-Made-clause-read_only
returns-in-Ok-Made-clause-read_only g c it = subst (λ h. Leaves (state g.S.Store c.args.conn) (state g.S.Store h)) (sym c.over.ensures.conn) (c.in-Ok-Made.ensures.taken (taken c.args.conn.schema it))

pub returns-in-Ok-Made-clause-earlier_read_only : goal.returns-in-Ok-Made-clause-earlier_read_only
returns-in-Ok-Made-clause-earlier_read_only g c it none clean = subst (λ h. Leaves (state g.S.Store c.args.conn) (state g.S.Store h)) (sym c.over.ensures.conn) (c.in-Ok-Made.ensures.taken (earlier_taken c.args.conn.schema it))

pub returns-in-Ok-Found-clause-schema : goal.returns-in-Ok-Found-clause-schema
returns-in-Ok-Found-clause-schema g c has = absurd ((c.in-Ok-Found.ensures.found (ap Ok c.in-Ok-Found.field-0-is)).0 has)

pub returns-in-Ok-Found-clause-held_after : goal.returns-in-Ok-Found-clause-held_after
returns-in-Ok-Found-clause-held_after g c m was up = either_way (λ book. book.storage.conn) _ (λ h leaves. still_leaves g.S.Store g.met.S.Store.settled c.args.conn h m up was (survives_then (state g.S.Store c.args.conn) (state g.S.Store c.adopt_tables.new.conn) (state g.S.Store h) (λ _. ⊥) (λ _. ⊥) (λ _. ⊥) (λ _ db none. none) (λ _ db none. none) (c.in-Ok-Found.ensures.still was.settled.shows.schema) leaves.survives)) c.checked.result c.checked.ensures.leaves

pub returns-in-Ok-Found-clause-renewed_schema : goal.returns-in-Ok-Found-clause-renewed_schema
returns-in-Ok-Found-clause-renewed_schema g c m was = absurd (older (state g.S.Store c.args.conn) m was (λ h. let e = c.in-Ok-Found.ensures.two_only h in let f = c.in-Ok-Found.field-0-is in cc) (λ h. let e = c.in-Ok-Found.ensures.one_only h in let f = c.in-Ok-Found.field-0-is in cc))

pub returns-in-Ok-Found-clause-version : goal.returns-in-Ok-Found-clause-version
returns-in-Ok-Found-clause-version g c it = if_book (λ book. book.storage.conn) _ (λ book leaves none clean. c.in-Ok-Found.ensures.named it (let l = leaves.survives.clean in omega (arith, l, clean))) c.checked.result c.checked.ensures.leaves c.checked.ensures.failures

pub returns-in-Ok-Found-clause-earlier_version : goal.returns-in-Ok-Found-clause-earlier_version
returns-in-Ok-Found-clause-earlier_version g c it = if_book (λ book. book.storage.conn) _ (λ book leaves none clean. c.in-Ok-Found.ensures.one_named it (let l = leaves.survives.clean in omega (arith, l, clean))) c.checked.result c.checked.ensures.leaves c.checked.ensures.failures

pub returns-in-Ok-Found-clause-read_only : goal.returns-in-Ok-Found-clause-read_only
returns-in-Ok-Found-clause-read_only g c it = either_way (λ book. book.storage.conn) _ (λ h leaves. leaves_then _ _ _ (c.in-Ok-Found.ensures.taken (taken c.args.conn.schema it)) leaves) c.checked.result c.checked.ensures.leaves

pub returns-in-Ok-Found-clause-earlier_read_only : goal.returns-in-Ok-Found-clause-earlier_read_only
returns-in-Ok-Found-clause-earlier_read_only g c it none = either_way (λ book. book.storage.conn) _ (λ h leaves clean. leaves_then _ _ _ (c.in-Ok-Found.ensures.taken (earlier_taken c.args.conn.schema it)) leaves) c.checked.result c.checked.ensures.leaves

pub returns-in-Ok-Found-clause-free : goal.returns-in-Ok-Found-clause-free
returns-in-Ok-Found-clause-free g c free = absurd (let e = (c.in-Ok-Found.ensures.free free).0 in let f = c.in-Ok-Found.field-0-is in cc)

pub returns-in-Ok-Earlier-clause-schema : goal.returns-in-Ok-Earlier-clause-schema
returns-in-Ok-Earlier-clause-schema g c has = absurd ((c.in-Ok-Earlier.ensures.one (ap Ok c.in-Ok-Earlier.field-0-is)).0 has)

pub returns-in-Ok-Earlier-clause-held_after : goal.returns-in-Ok-Earlier-clause-held_after
returns-in-Ok-Earlier-clause-held_after g c m was up = absurd ((c.in-Ok-Earlier.ensures.one (ap Ok c.in-Ok-Earlier.field-0-is)).1 was.settled.shows.schema)

pub returns-in-Ok-Earlier-clause-renewed_schema : goal.returns-in-Ok-Earlier-clause-renewed_schema
returns-in-Ok-Earlier-clause-renewed_schema g c m was = c.renewed.ensures.schema m (held_first (state g.S.Store c.args.conn) (state g.S.Store c.adopt_tables.new.conn) m (c.in-Ok-Earlier.ensures.one (ap Ok c.in-Ok-Earlier.field-0-is)).2 (λ h. let e = c.in-Ok-Earlier.ensures.two_only h in let f = c.in-Ok-Earlier.field-0-is in cc) was)

pub returns-in-Ok-Earlier-clause-version : goal.returns-in-Ok-Earlier-clause-version
returns-in-Ok-Earlier-clause-version g c it = absurd ((c.in-Ok-Earlier.ensures.one (ap Ok c.in-Ok-Earlier.field-0-is)).1 it)

pub returns-in-Ok-Earlier-clause-earlier_version : goal.returns-in-Ok-Earlier-clause-earlier_version
returns-in-Ok-Earlier-clause-earlier_version g c it = if_book (λ book. book.storage.conn) _ (λ book early none clean. c.in-Ok-Earlier.ensures.one_named it (early clean)) c.renewed.result c.renewed.ensures.earlier c.renewed.ensures.failures

pub returns-in-Ok-Earlier-clause-read_only : goal.returns-in-Ok-Earlier-clause-read_only
returns-in-Ok-Earlier-clause-read_only g c it = absurd ((c.in-Ok-Earlier.ensures.one (ap Ok c.in-Ok-Earlier.field-0-is)).1 it)

pub returns-in-Ok-Earlier-clause-earlier_read_only : goal.returns-in-Ok-Earlier-clause-earlier_read_only
returns-in-Ok-Earlier-clause-earlier_read_only g c it none = either_way (λ book. book.storage.conn) _ (λ h early clean. absurd (none (c.in-Ok-Earlier.ensures.one_named it (early clean)))) c.renewed.result c.renewed.ensures.earlier

pub returns-in-Ok-Earlier-clause-free : goal.returns-in-Ok-Earlier-clause-free
returns-in-Ok-Earlier-clause-free g c free = absurd (let e = (c.in-Ok-Earlier.ensures.free free).0 in let f = c.in-Ok-Earlier.field-0-is in cc)

pub returns-in-Err-clause-held_after : goal.returns-in-Err-clause-held_after
returns-in-Err-clause-held_after g c m was up = still_leaves g.S.Store g.met.S.Store.settled c.args.conn c.adopt_tables.new.conn m up was (c.in-Err.ensures.still was.settled.shows.schema)

pub returns-in-Err-clause-read_only : goal.returns-in-Err-clause-read_only
returns-in-Err-clause-read_only g c it = c.in-Err.ensures.taken (taken c.args.conn.schema it)

pub returns-in-Err-clause-earlier_read_only : goal.returns-in-Err-clause-earlier_read_only
returns-in-Err-clause-earlier_read_only g c it none clean = c.in-Err.ensures.taken (earlier_taken c.args.conn.schema it)

pub returns-in-Err-clause-free : goal.returns-in-Err-clause-free
returns-in-Err-clause-free g c free is = (c.in-Err.ensures.free free).1 (ap Err (wrong_version _ (sym c.fault_of_adopt.ensures ∙ is)))

-- ---- version 1's totals have no row

pub returns-in-Ok-Made-clause-no_old_totals : goal.returns-in-Ok-Made-clause-no_old_totals
returns-in-Ok-Made-clause-no_old_totals g c it clean = c.in-Ok-Made.ensures.no_old_totals it (subst (λ h. HasCleanDisk (state g.S.Store h)) c.over.ensures.conn clean)

pub returns-in-Ok-Found-clause-no_old_totals : goal.returns-in-Ok-Found-clause-no_old_totals
returns-in-Ok-Found-clause-no_old_totals g c it = if_book (λ book. book.storage.conn) _ (λ book leaves none clean. c.in-Ok-Found.ensures.no_old_totals it (let l = leaves.survives.clean in omega (arith, l, clean))) c.checked.result c.checked.ensures.leaves c.checked.ensures.failures

pub returns-in-Ok-Earlier-clause-no_old_totals : goal.returns-in-Ok-Earlier-clause-no_old_totals
returns-in-Ok-Earlier-clause-no_old_totals g c it = absurd ((c.in-Ok-Earlier.ensures.one (ap Ok c.in-Ok-Earlier.field-0-is)).1 it)

-- ---- beside tables of others

pub returns-in-Ok-Made-clause-beside : goal.returns-in-Ok-Made-clause-beside
returns-in-Ok-Made-clause-beside g c free counts = subst (λ h. HoldsBeside (state g.S.Store c.args.conn) (state g.S.Store h)) (sym c.over.ensures.conn) (c.in-Ok-Made.ensures.beside free counts)

pub returns-in-Ok-Made-clause-beside_crash : goal.returns-in-Ok-Made-clause-beside_crash
returns-in-Ok-Made-clause-beside_crash g c free counts =
    subst (λ h. Survives (state g.S.Store c.args.conn) (state g.S.Store h) (StandsBeside (state g.S.Store c.args.conn).now)) (sym c.over.ensures.conn) (c.in-Ok-Made.ensures.beside_crash counts)

pub returns-in-Ok-Found-clause-beside : goal.returns-in-Ok-Found-clause-beside
returns-in-Ok-Found-clause-beside g c free counts = absurd (let e = (c.in-Ok-Found.ensures.free free).0 in let f = c.in-Ok-Found.field-0-is in cc)

pub returns-in-Ok-Found-clause-beside_undone : goal.returns-in-Ok-Found-clause-beside_undone
returns-in-Ok-Found-clause-beside_undone g c free = absurd (let e = (c.in-Ok-Found.ensures.free free).0 in let f = c.in-Ok-Found.field-0-is in cc)

pub returns-in-Ok-Found-clause-beside_crash : goal.returns-in-Ok-Found-clause-beside_crash
returns-in-Ok-Found-clause-beside_crash g c free counts = absurd (let e = (c.in-Ok-Found.ensures.free free).0 in let f = c.in-Ok-Found.field-0-is in cc)

pub returns-in-Ok-Earlier-clause-beside : goal.returns-in-Ok-Earlier-clause-beside
returns-in-Ok-Earlier-clause-beside g c free counts = absurd (let e = (c.in-Ok-Earlier.ensures.free free).0 in let f = c.in-Ok-Earlier.field-0-is in cc)

pub returns-in-Ok-Earlier-clause-beside_undone : goal.returns-in-Ok-Earlier-clause-beside_undone
returns-in-Ok-Earlier-clause-beside_undone g c free = absurd (let e = (c.in-Ok-Earlier.ensures.free free).0 in let f = c.in-Ok-Earlier.field-0-is in cc)

pub returns-in-Ok-Earlier-clause-beside_crash : goal.returns-in-Ok-Earlier-clause-beside_crash
returns-in-Ok-Earlier-clause-beside_crash g c free counts = absurd (let e = (c.in-Ok-Earlier.ensures.free free).0 in let f = c.in-Ok-Earlier.field-0-is in cc)

pub returns-in-Err-clause-beside_crash : goal.returns-in-Err-clause-beside_crash
returns-in-Err-clause-beside_crash g c free counts = c.in-Err.ensures.beside_crash counts

-- ---- version 1 beside tables of others

pub returns-in-Ok-Made-clause-renewed_beside : goal.returns-in-Ok-Made-clause-renewed_beside
returns-in-Ok-Made-clause-renewed_beside g c names sees = absurd (let e = (c.in-Ok-Made.ensures.earlier_names names).0 in let f = c.in-Ok-Made.field-0-is in cc)

pub returns-in-Ok-Made-clause-earlier_undone : goal.returns-in-Ok-Made-clause-earlier_undone
returns-in-Ok-Made-clause-earlier_undone g c names = absurd (let e = (c.in-Ok-Made.ensures.earlier_names names).0 in let f = c.in-Ok-Made.field-0-is in cc)

pub returns-in-Ok-Made-clause-renewed_beside_crash : goal.returns-in-Ok-Made-clause-renewed_beside_crash
returns-in-Ok-Made-clause-renewed_beside_crash g c names sees = absurd (let e = (c.in-Ok-Made.ensures.earlier_names names).0 in let f = c.in-Ok-Made.field-0-is in cc)

pub returns-in-Ok-Found-clause-renewed_beside : goal.returns-in-Ok-Found-clause-renewed_beside
returns-in-Ok-Found-clause-renewed_beside g c names sees = absurd (let e = (c.in-Ok-Found.ensures.earlier_names names).0 in let f = c.in-Ok-Found.field-0-is in cc)

pub returns-in-Ok-Found-clause-earlier_undone : goal.returns-in-Ok-Found-clause-earlier_undone
returns-in-Ok-Found-clause-earlier_undone g c names = absurd (let e = (c.in-Ok-Found.ensures.earlier_names names).0 in let f = c.in-Ok-Found.field-0-is in cc)

pub returns-in-Ok-Found-clause-renewed_beside_crash : goal.returns-in-Ok-Found-clause-renewed_beside_crash
returns-in-Ok-Found-clause-renewed_beside_crash g c names sees = absurd (let e = (c.in-Ok-Found.ensures.earlier_names names).0 in let f = c.in-Ok-Found.field-0-is in cc)

pub returns-in-Ok-Earlier-clause-renewed_beside : goal.returns-in-Ok-Earlier-clause-renewed_beside
returns-in-Ok-Earlier-clause-renewed_beside g c names sees =
    let leaves = (c.in-Ok-Earlier.ensures.earlier_names names).1 in
    if_book (λ book. book.storage.conn) _ (λ book early held. renewed_then (state g.S.Store c.args.conn) (state g.S.Store c.adopt_tables.new.conn) leaves c.in-Ok-Earlier.ensures.settled IsBroughtOn (state g.S.Store book.storage.conn) early held) c.renewed.result c.renewed.ensures.earlier
    (c.renewed.ensures.beside (sees_still (state g.S.Store c.args.conn) (state g.S.Store c.adopt_tables.new.conn) leaves c.in-Ok-Earlier.ensures.settled sees))

pub returns-in-Ok-Earlier-clause-earlier_undone : goal.returns-in-Ok-Earlier-clause-earlier_undone
returns-in-Ok-Earlier-clause-earlier_undone g c names =
    let leaves = (c.in-Ok-Earlier.ensures.earlier_names names).1 in
    if_back (λ book. book.storage.conn) _ (λ back early undone. undone_then (state g.S.Store c.args.conn) (state g.S.Store c.adopt_tables.new.conn) leaves c.in-Ok-Earlier.ensures.settled (state g.S.Store back.1) early undone) c.renewed.result c.renewed.ensures.earlier c.renewed.ensures.undone

pub returns-in-Ok-Earlier-clause-renewed_beside_crash : goal.returns-in-Ok-Earlier-clause-renewed_beside_crash
returns-in-Ok-Earlier-clause-renewed_beside_crash g c names sees =
    let leaves = (c.in-Ok-Earlier.ensures.earlier_names names).1 in
    either_way (λ book. book.storage.conn) _ (λ h s. crash_then (state g.S.Store c.args.conn) (state g.S.Store c.adopt_tables.new.conn) leaves c.in-Ok-Earlier.ensures.settled IsBroughtOn (state g.S.Store h) s) c.renewed.result (c.renewed.ensures.beside_crash (sees_still (state g.S.Store c.args.conn) (state g.S.Store c.adopt_tables.new.conn) leaves c.in-Ok-Earlier.ensures.settled sees))

pub returns-in-Err-clause-renewed_beside_crash : goal.returns-in-Err-clause-renewed_beside_crash
returns-in-Err-clause-renewed_beside_crash g c names sees = left_survives (state g.S.Store c.args.conn) (state g.S.Store c.adopt_tables.new.conn) (c.in-Err.ensures.earlier_names names).1 c.in-Err.ensures.settled IsBroughtOn

-- ---- whether it is of version 2

pub returns-in-Ok-Made-clause-second_version : goal.returns-in-Ok-Made-clause-second_version
returns-in-Ok-Made-clause-second_version g c it clean = c.in-Ok-Made.ensures.two_named it (subst (λ h. HasCleanDisk (state g.S.Store h)) c.over.ensures.conn clean)

pub returns-in-Ok-Made-clause-second_old_totals : goal.returns-in-Ok-Made-clause-second_old_totals
returns-in-Ok-Made-clause-second_old_totals g c it clean = c.in-Ok-Made.ensures.two_old_totals it (subst (λ h. HasCleanDisk (state g.S.Store h)) c.over.ensures.conn clean)

pub returns-in-Ok-Found-clause-second_version : goal.returns-in-Ok-Found-clause-second_version
returns-in-Ok-Found-clause-second_version g c it = if_book (λ book. book.storage.conn) _ (λ book leaves none clean. c.in-Ok-Found.ensures.two_named it (let l = leaves.survives.clean in omega (arith, l, clean))) c.checked.result c.checked.ensures.leaves c.checked.ensures.failures

pub returns-in-Ok-Found-clause-second_old_totals : goal.returns-in-Ok-Found-clause-second_old_totals
returns-in-Ok-Found-clause-second_old_totals g c it = if_book (λ book. book.storage.conn) _ (λ book leaves none clean. c.in-Ok-Found.ensures.two_old_totals it (let l = leaves.survives.clean in omega (arith, l, clean))) c.checked.result c.checked.ensures.leaves c.checked.ensures.failures

pub returns-in-Ok-Earlier-clause-second_version : goal.returns-in-Ok-Earlier-clause-second_version
returns-in-Ok-Earlier-clause-second_version g c it = if_book (λ book. book.storage.conn) _ (λ book early none clean. c.in-Ok-Earlier.ensures.two_named it (early clean)) c.renewed.result c.renewed.ensures.earlier c.renewed.ensures.failures

pub returns-in-Ok-Earlier-clause-second_old_totals : goal.returns-in-Ok-Earlier-clause-second_old_totals
returns-in-Ok-Earlier-clause-second_old_totals g c it = if_book (λ book. book.storage.conn) _ (λ book early none clean. c.in-Ok-Earlier.ensures.two_old_totals it (early clean)) c.renewed.result c.renewed.ensures.earlier c.renewed.ensures.failures

pub returns-in-Ok-Made-clause-second_read_only : goal.returns-in-Ok-Made-clause-second_read_only
returns-in-Ok-Made-clause-second_read_only g c it none clean = subst (λ h. Leaves (state g.S.Store c.args.conn) (state g.S.Store h)) (sym c.over.ensures.conn) (c.in-Ok-Made.ensures.two_leaves it)

pub returns-in-Ok-Found-clause-second_read_only : goal.returns-in-Ok-Found-clause-second_read_only
returns-in-Ok-Found-clause-second_read_only g c it none = either_way (λ book. book.storage.conn) _ (λ h leaves clean. leaves_then _ _ _ (c.in-Ok-Found.ensures.two_leaves it) leaves) c.checked.result c.checked.ensures.leaves

pub returns-in-Ok-Earlier-clause-second_read_only : goal.returns-in-Ok-Earlier-clause-second_read_only
returns-in-Ok-Earlier-clause-second_read_only g c it none = absurd (let e = c.in-Ok-Earlier.ensures.two_only it in let f = c.in-Ok-Earlier.field-0-is in cc)

pub returns-in-Err-clause-second_read_only : goal.returns-in-Err-clause-second_read_only
returns-in-Err-clause-second_read_only g c it none clean = c.in-Err.ensures.two_leaves it

-- ---- the last entry

pub returns-in-Ok-Made-clause-last : goal.returns-in-Ok-Made-clause-last
returns-in-Ok-Made-clause-last g c m was = absurd (c.in-Ok-Made.ensures.made (ap Ok c.in-Ok-Made.field-0-is) (books m was.totals was.uses) was.settled)

pub returns-in-Ok-Made-clause-renewed_last : goal.returns-in-Ok-Made-clause-renewed_last
returns-in-Ok-Made-clause-renewed_last g c m was = absurd (older (state g.S.Store c.args.conn) m was (λ h. let e = c.in-Ok-Made.ensures.two_only h in let f = c.in-Ok-Made.field-0-is in cc) (λ h. let e = c.in-Ok-Made.ensures.one_only h in let f = c.in-Ok-Made.field-0-is in cc))

pub returns-in-Ok-Made-clause-fresh_last : goal.returns-in-Ok-Made-clause-fresh_last
returns-in-Ok-Made-clause-fresh_last g c free = subst (IsRemembered fresh) (sym c.over.ensures.remembered) (c.no_entries.ensures fresh refl)

pub returns-in-Ok-Found-clause-last : goal.returns-in-Ok-Found-clause-last
returns-in-Ok-Found-clause-last g c m was =
    if_book (λ book. book.storage.conn) _ (λ book leaves last clean. last clean (books m was.totals was.uses) (c.in-Ok-Found.ensures.held (books m was.totals was.uses) was.settled) was.trail) c.checked.result c.checked.ensures.leaves c.checked.ensures.last

pub returns-in-Ok-Found-clause-renewed_last : goal.returns-in-Ok-Found-clause-renewed_last
returns-in-Ok-Found-clause-renewed_last g c m was = absurd (older (state g.S.Store c.args.conn) m was (λ h. let e = c.in-Ok-Found.ensures.two_only h in let f = c.in-Ok-Found.field-0-is in cc) (λ h. let e = c.in-Ok-Found.ensures.one_only h in let f = c.in-Ok-Found.field-0-is in cc))

pub returns-in-Ok-Found-clause-fresh_last : goal.returns-in-Ok-Found-clause-fresh_last
returns-in-Ok-Found-clause-fresh_last g c free = absurd (let e = (c.in-Ok-Found.ensures.free free).0 in let f = c.in-Ok-Found.field-0-is in cc)

pub returns-in-Ok-Earlier-clause-last : goal.returns-in-Ok-Earlier-clause-last
returns-in-Ok-Earlier-clause-last g c m was = absurd ((c.in-Ok-Earlier.ensures.one (ap Ok c.in-Ok-Earlier.field-0-is)).1 was.settled.shows.schema)

pub returns-in-Ok-Earlier-clause-renewed_last : goal.returns-in-Ok-Earlier-clause-renewed_last
returns-in-Ok-Earlier-clause-renewed_last g c m was = c.renewed.ensures.last m (held_first (state g.S.Store c.args.conn) (state g.S.Store c.adopt_tables.new.conn) m (c.in-Ok-Earlier.ensures.one (ap Ok c.in-Ok-Earlier.field-0-is)).2 (λ h. let e = c.in-Ok-Earlier.ensures.two_only h in let f = c.in-Ok-Earlier.field-0-is in cc) was)

pub returns-in-Ok-Earlier-clause-fresh_last : goal.returns-in-Ok-Earlier-clause-fresh_last
returns-in-Ok-Earlier-clause-fresh_last g c free = absurd (let e = (c.in-Ok-Earlier.ensures.free free).0 in let f = c.in-Ok-Earlier.field-0-is in cc)

-- ---- version 2 beside tables of others

pub returns-in-Ok-Made-clause-extended_beside : goal.returns-in-Ok-Made-clause-extended_beside
returns-in-Ok-Made-clause-extended_beside g c names sees = absurd (let e = (c.in-Ok-Made.ensures.second_names names).0 in let f = c.in-Ok-Made.field-0-is in cc)

pub returns-in-Ok-Made-clause-second_undone : goal.returns-in-Ok-Made-clause-second_undone
returns-in-Ok-Made-clause-second_undone g c names = absurd (let e = (c.in-Ok-Made.ensures.second_names names).0 in let f = c.in-Ok-Made.field-0-is in cc)

pub returns-in-Ok-Made-clause-extended_beside_crash : goal.returns-in-Ok-Made-clause-extended_beside_crash
returns-in-Ok-Made-clause-extended_beside_crash g c names sees = absurd (let e = (c.in-Ok-Made.ensures.second_names names).0 in let f = c.in-Ok-Made.field-0-is in cc)

pub returns-in-Ok-Found-clause-extended_beside : goal.returns-in-Ok-Found-clause-extended_beside
returns-in-Ok-Found-clause-extended_beside g c names sees = absurd (let e = (c.in-Ok-Found.ensures.second_names names).0 in let f = c.in-Ok-Found.field-0-is in cc)

pub returns-in-Ok-Found-clause-second_undone : goal.returns-in-Ok-Found-clause-second_undone
returns-in-Ok-Found-clause-second_undone g c names = absurd (let e = (c.in-Ok-Found.ensures.second_names names).0 in let f = c.in-Ok-Found.field-0-is in cc)

pub returns-in-Ok-Found-clause-extended_beside_crash : goal.returns-in-Ok-Found-clause-extended_beside_crash
returns-in-Ok-Found-clause-extended_beside_crash g c names sees = absurd (let e = (c.in-Ok-Found.ensures.second_names names).0 in let f = c.in-Ok-Found.field-0-is in cc)

pub returns-in-Ok-Earlier-clause-extended_beside : goal.returns-in-Ok-Earlier-clause-extended_beside
returns-in-Ok-Earlier-clause-extended_beside g c names sees = absurd (let e = (c.in-Ok-Earlier.ensures.second_names names).0 in let f = c.in-Ok-Earlier.field-0-is in cc)

pub returns-in-Ok-Earlier-clause-second_undone : goal.returns-in-Ok-Earlier-clause-second_undone
returns-in-Ok-Earlier-clause-second_undone g c names = absurd (let e = (c.in-Ok-Earlier.ensures.second_names names).0 in let f = c.in-Ok-Earlier.field-0-is in cc)

pub returns-in-Ok-Earlier-clause-extended_beside_crash : goal.returns-in-Ok-Earlier-clause-extended_beside_crash
returns-in-Ok-Earlier-clause-extended_beside_crash g c names sees = absurd (let e = (c.in-Ok-Earlier.ensures.second_names names).0 in let f = c.in-Ok-Earlier.field-0-is in cc)

pub returns-in-Err-clause-extended_beside_crash : goal.returns-in-Err-clause-extended_beside_crash
returns-in-Err-clause-extended_beside_crash g c names sees = left_survives (state g.S.Store c.args.conn) (state g.S.Store c.adopt_tables.new.conn) (c.in-Err.ensures.second_names names).1 c.in-Err.ensures.settled IsExtended

-- ---- tables of version 2 were there

pub returns-in-Ok-Second-clause-fresh : goal.returns-in-Ok-Second-clause-fresh
returns-in-Ok-Second-clause-fresh g c has = absurd ((c.in-Ok-Second.ensures.two (ap Ok c.in-Ok-Second.field-0-is)).0 has)

pub returns-in-Ok-Second-clause-vacant : goal.returns-in-Ok-Second-clause-vacant
returns-in-Ok-Second-clause-vacant g c has = absurd ((c.in-Ok-Second.ensures.two (ap Ok c.in-Ok-Second.field-0-is)).0 has)

pub returns-in-Ok-Second-clause-crash : goal.returns-in-Ok-Second-clause-crash
returns-in-Ok-Second-clause-crash g c has = absurd ((c.in-Ok-Second.ensures.two (ap Ok c.in-Ok-Second.field-0-is)).0 has)

pub returns-in-Ok-Second-clause-after : goal.returns-in-Ok-Second-clause-after
returns-in-Ok-Second-clause-after g c has = absurd ((c.in-Ok-Second.ensures.two (ap Ok c.in-Ok-Second.field-0-is)).0 has)

pub returns-in-Ok-Second-clause-earlier : goal.returns-in-Ok-Second-clause-earlier
returns-in-Ok-Second-clause-earlier g c = either_way (λ book. book.storage.conn) _ (λ h early clean. c.in-Ok-Second.ensures.earlier (early clean)) c.extended.result c.extended.ensures.earlier

pub returns-in-Ok-Second-clause-held : goal.returns-in-Ok-Second-clause-held
returns-in-Ok-Second-clause-held g c m was = absurd ((c.in-Ok-Second.ensures.two (ap Ok c.in-Ok-Second.field-0-is)).1 was.settled.shows.schema)

pub returns-in-Ok-Second-clause-sums : goal.returns-in-Ok-Second-clause-sums
returns-in-Ok-Second-clause-sums g c = if_book (λ book. book.storage.conn) _ (λ book early none clean b was. absurd ((c.in-Ok-Second.ensures.two (ap Ok c.in-Ok-Second.field-0-is)).1 was.shows.schema)) c.extended.result c.extended.ensures.earlier c.extended.ensures.failures

pub returns-in-Ok-Second-clause-still : goal.returns-in-Ok-Second-clause-still
returns-in-Ok-Second-clause-still g c it = absurd ((c.in-Ok-Second.ensures.two (ap Ok c.in-Ok-Second.field-0-is)).1 it)

pub returns-in-Ok-Second-clause-foreign : goal.returns-in-Ok-Second-clause-foreign
returns-in-Ok-Second-clause-foreign g c = if_back (λ book. book.storage.conn) _ (λ back early outside is. (c.in-Ok-Second.ensures.two (ap Ok c.in-Ok-Second.field-0-is)).0) c.extended.result c.extended.ensures.earlier c.extended.ensures.mode

pub returns-in-Ok-Second-clause-unwritten : goal.returns-in-Ok-Second-clause-unwritten
returns-in-Ok-Second-clause-unwritten g c = if_back (λ book. book.storage.conn) _ (λ back early leaves is. leaves_then _ _ _ (c.in-Ok-Second.ensures.two (ap Ok c.in-Ok-Second.field-0-is)).2 (leaves is)) c.extended.result c.extended.ensures.earlier c.extended.ensures.unwritten

pub returns-in-Ok-Second-clause-neither : goal.returns-in-Ok-Second-clause-neither
returns-in-Ok-Second-clause-neither g c = if_back (λ book. book.storage.conn) _ (λ back early outside is clean m was. absurd ((c.in-Ok-Second.ensures.two (ap Ok c.in-Ok-Second.field-0-is)).1 was.settled.shows.schema)) c.extended.result c.extended.ensures.earlier c.extended.ensures.mode

pub returns-in-Ok-Second-clause-renewed : goal.returns-in-Ok-Second-clause-renewed
returns-in-Ok-Second-clause-renewed g c m was = c.extended.ensures.extended m (held_second (state g.S.Store c.args.conn) (state g.S.Store c.adopt_tables.new.conn) m (c.in-Ok-Second.ensures.two (ap Ok c.in-Ok-Second.field-0-is)).2 (λ h. let e = c.in-Ok-Second.ensures.one_only h in let f = c.in-Ok-Second.field-0-is in cc) was)

pub returns-in-Ok-Second-clause-as_before : goal.returns-in-Ok-Second-clause-as_before
returns-in-Ok-Second-clause-as_before g c m was = if_back (λ book. book.storage.conn) _ (λ back early held. inl held) c.extended.result c.extended.ensures.earlier (c.extended.ensures.as_before m (held_second (state g.S.Store c.args.conn) (state g.S.Store c.adopt_tables.new.conn) m (c.in-Ok-Second.ensures.two (ap Ok c.in-Ok-Second.field-0-is)).2 (λ h. let e = c.in-Ok-Second.ensures.one_only h in let f = c.in-Ok-Second.field-0-is in cc) was))

pub returns-in-Ok-Second-clause-renewed_crash : goal.returns-in-Ok-Second-clause-renewed_crash
returns-in-Ok-Second-clause-renewed_crash g c m was = either_way (λ book. book.storage.conn) _ (λ h crash. survives_then (state g.S.Store c.args.conn) (state g.S.Store c.adopt_tables.new.conn) (state g.S.Store h) (λ _. ⊥) (λ db. StandsFor db m) (λ db. StandsFor db m) (λ _ db none. absurd none) (λ _ db stands. stands) (c.in-Ok-Second.ensures.two (ap Ok c.in-Ok-Second.field-0-is)).2.survives crash) c.extended.result (c.extended.ensures.crash m (held_second (state g.S.Store c.args.conn) (state g.S.Store c.adopt_tables.new.conn) m (c.in-Ok-Second.ensures.two (ap Ok c.in-Ok-Second.field-0-is)).2 (λ h. let e = c.in-Ok-Second.ensures.one_only h in let f = c.in-Ok-Second.field-0-is in cc) was))

pub returns-in-Ok-Second-clause-renewed_after : goal.returns-in-Ok-Second-clause-renewed_after
returns-in-Ok-Second-clause-renewed_after g c m was = c.extended.ensures.after m (held_second (state g.S.Store c.args.conn) (state g.S.Store c.adopt_tables.new.conn) m (c.in-Ok-Second.ensures.two (ap Ok c.in-Ok-Second.field-0-is)).2 (λ h. let e = c.in-Ok-Second.ensures.one_only h in let f = c.in-Ok-Second.field-0-is in cc) was)

pub returns-in-Ok-Second-clause-not_earlier : goal.returns-in-Ok-Second-clause-not_earlier
returns-in-Ok-Second-clause-not_earlier g c = if_back (λ book. book.storage.conn) _ (λ back early neither is clean m was. neither is clean m (held_second (state g.S.Store c.args.conn) (state g.S.Store c.adopt_tables.new.conn) m (c.in-Ok-Second.ensures.two (ap Ok c.in-Ok-Second.field-0-is)).2 (λ h. let e = c.in-Ok-Second.ensures.one_only h in let f = c.in-Ok-Second.field-0-is in cc) was)) c.extended.result c.extended.ensures.earlier c.extended.ensures.neither

pub returns-in-Ok-Second-clause-loaded : goal.returns-in-Ok-Second-clause-loaded
returns-in-Ok-Second-clause-loaded g c m was = absurd ((c.in-Ok-Second.ensures.two (ap Ok c.in-Ok-Second.field-0-is)).1 was.settled.shows.schema)

pub returns-in-Ok-Second-clause-renewed_loaded : goal.returns-in-Ok-Second-clause-renewed_loaded
returns-in-Ok-Second-clause-renewed_loaded g c m was = c.extended.ensures.loaded m (held_second (state g.S.Store c.args.conn) (state g.S.Store c.adopt_tables.new.conn) m (c.in-Ok-Second.ensures.two (ap Ok c.in-Ok-Second.field-0-is)).2 (λ h. let e = c.in-Ok-Second.ensures.one_only h in let f = c.in-Ok-Second.field-0-is in cc) was)

pub returns-in-Ok-Second-clause-fresh_loaded : goal.returns-in-Ok-Second-clause-fresh_loaded
returns-in-Ok-Second-clause-fresh_loaded g c free = absurd (let e = (c.in-Ok-Second.ensures.free free).0 in let f = c.in-Ok-Second.field-0-is in cc)

pub returns-in-Ok-Second-clause-schema : goal.returns-in-Ok-Second-clause-schema
returns-in-Ok-Second-clause-schema g c has = absurd ((c.in-Ok-Second.ensures.two (ap Ok c.in-Ok-Second.field-0-is)).0 has)

pub returns-in-Ok-Second-clause-held_after : goal.returns-in-Ok-Second-clause-held_after
returns-in-Ok-Second-clause-held_after g c m was up = absurd ((c.in-Ok-Second.ensures.two (ap Ok c.in-Ok-Second.field-0-is)).1 was.settled.shows.schema)

pub returns-in-Ok-Second-clause-renewed_schema : goal.returns-in-Ok-Second-clause-renewed_schema
returns-in-Ok-Second-clause-renewed_schema g c m was = c.extended.ensures.schema m (held_second (state g.S.Store c.args.conn) (state g.S.Store c.adopt_tables.new.conn) m (c.in-Ok-Second.ensures.two (ap Ok c.in-Ok-Second.field-0-is)).2 (λ h. let e = c.in-Ok-Second.ensures.one_only h in let f = c.in-Ok-Second.field-0-is in cc) was)

pub returns-in-Ok-Second-clause-version : goal.returns-in-Ok-Second-clause-version
returns-in-Ok-Second-clause-version g c it = absurd ((c.in-Ok-Second.ensures.two (ap Ok c.in-Ok-Second.field-0-is)).1 it)

pub returns-in-Ok-Second-clause-earlier_version : goal.returns-in-Ok-Second-clause-earlier_version
returns-in-Ok-Second-clause-earlier_version g c it = if_book (λ book. book.storage.conn) _ (λ book early none clean. c.in-Ok-Second.ensures.one_named it (early clean)) c.extended.result c.extended.ensures.earlier c.extended.ensures.failures

pub returns-in-Ok-Second-clause-second_version : goal.returns-in-Ok-Second-clause-second_version
returns-in-Ok-Second-clause-second_version g c it = if_book (λ book. book.storage.conn) _ (λ book early none clean. c.in-Ok-Second.ensures.two_named it (early clean)) c.extended.result c.extended.ensures.earlier c.extended.ensures.failures

pub returns-in-Ok-Second-clause-second_old_totals : goal.returns-in-Ok-Second-clause-second_old_totals
returns-in-Ok-Second-clause-second_old_totals g c it = if_book (λ book. book.storage.conn) _ (λ book early none clean. c.in-Ok-Second.ensures.two_old_totals it (early clean)) c.extended.result c.extended.ensures.earlier c.extended.ensures.failures

pub returns-in-Ok-Second-clause-read_only : goal.returns-in-Ok-Second-clause-read_only
returns-in-Ok-Second-clause-read_only g c it = absurd ((c.in-Ok-Second.ensures.two (ap Ok c.in-Ok-Second.field-0-is)).1 it)

pub returns-in-Ok-Second-clause-earlier_read_only : goal.returns-in-Ok-Second-clause-earlier_read_only
returns-in-Ok-Second-clause-earlier_read_only g c it none = absurd (let e = c.in-Ok-Second.ensures.one_only it in let f = c.in-Ok-Second.field-0-is in cc)

pub returns-in-Ok-Second-clause-second_read_only : goal.returns-in-Ok-Second-clause-second_read_only
returns-in-Ok-Second-clause-second_read_only g c it none = either_way (λ book. book.storage.conn) _ (λ h early clean. absurd (none (c.in-Ok-Second.ensures.two_named it (early clean)))) c.extended.result c.extended.ensures.earlier

pub returns-in-Ok-Second-clause-free : goal.returns-in-Ok-Second-clause-free
returns-in-Ok-Second-clause-free g c free = absurd (let e = (c.in-Ok-Second.ensures.free free).0 in let f = c.in-Ok-Second.field-0-is in cc)

pub returns-in-Ok-Second-clause-no_old_totals : goal.returns-in-Ok-Second-clause-no_old_totals
returns-in-Ok-Second-clause-no_old_totals g c it = absurd ((c.in-Ok-Second.ensures.two (ap Ok c.in-Ok-Second.field-0-is)).1 it)

pub returns-in-Ok-Second-clause-beside : goal.returns-in-Ok-Second-clause-beside
returns-in-Ok-Second-clause-beside g c free counts = absurd (let e = (c.in-Ok-Second.ensures.free free).0 in let f = c.in-Ok-Second.field-0-is in cc)

pub returns-in-Ok-Second-clause-beside_undone : goal.returns-in-Ok-Second-clause-beside_undone
returns-in-Ok-Second-clause-beside_undone g c free = absurd (let e = (c.in-Ok-Second.ensures.free free).0 in let f = c.in-Ok-Second.field-0-is in cc)

pub returns-in-Ok-Second-clause-beside_crash : goal.returns-in-Ok-Second-clause-beside_crash
returns-in-Ok-Second-clause-beside_crash g c free counts = absurd (let e = (c.in-Ok-Second.ensures.free free).0 in let f = c.in-Ok-Second.field-0-is in cc)

pub returns-in-Ok-Second-clause-extended_beside : goal.returns-in-Ok-Second-clause-extended_beside
returns-in-Ok-Second-clause-extended_beside g c names sees =
    let leaves = (c.in-Ok-Second.ensures.second_names names).1 in
    if_book (λ book. book.storage.conn) _ (λ book early held. renewed_then (state g.S.Store c.args.conn) (state g.S.Store c.adopt_tables.new.conn) leaves c.in-Ok-Second.ensures.settled IsExtended (state g.S.Store book.storage.conn) early held) c.extended.result c.extended.ensures.earlier
    (c.extended.ensures.beside (sees_still (state g.S.Store c.args.conn) (state g.S.Store c.adopt_tables.new.conn) leaves c.in-Ok-Second.ensures.settled sees))

pub returns-in-Ok-Second-clause-renewed_beside : goal.returns-in-Ok-Second-clause-renewed_beside
returns-in-Ok-Second-clause-renewed_beside g c names sees = absurd (let e = (c.in-Ok-Second.ensures.earlier_names names).0 in let f = c.in-Ok-Second.field-0-is in cc)

pub returns-in-Ok-Second-clause-second_undone : goal.returns-in-Ok-Second-clause-second_undone
returns-in-Ok-Second-clause-second_undone g c names =
    let leaves = (c.in-Ok-Second.ensures.second_names names).1 in
    if_back (λ book. book.storage.conn) _ (λ back early undone. undone_then (state g.S.Store c.args.conn) (state g.S.Store c.adopt_tables.new.conn) leaves c.in-Ok-Second.ensures.settled (state g.S.Store back.1) early undone) c.extended.result c.extended.ensures.earlier c.extended.ensures.undone

pub returns-in-Ok-Second-clause-earlier_undone : goal.returns-in-Ok-Second-clause-earlier_undone
returns-in-Ok-Second-clause-earlier_undone g c names = absurd (let e = (c.in-Ok-Second.ensures.earlier_names names).0 in let f = c.in-Ok-Second.field-0-is in cc)

pub returns-in-Ok-Second-clause-extended_beside_crash : goal.returns-in-Ok-Second-clause-extended_beside_crash
returns-in-Ok-Second-clause-extended_beside_crash g c names sees =
    let leaves = (c.in-Ok-Second.ensures.second_names names).1 in
    either_way (λ book. book.storage.conn) _ (λ h s. crash_then (state g.S.Store c.args.conn) (state g.S.Store c.adopt_tables.new.conn) leaves c.in-Ok-Second.ensures.settled IsExtended (state g.S.Store h) s) c.extended.result (c.extended.ensures.beside_crash (sees_still (state g.S.Store c.args.conn) (state g.S.Store c.adopt_tables.new.conn) leaves c.in-Ok-Second.ensures.settled sees))

pub returns-in-Ok-Second-clause-renewed_beside_crash : goal.returns-in-Ok-Second-clause-renewed_beside_crash
returns-in-Ok-Second-clause-renewed_beside_crash g c names sees = absurd (let e = (c.in-Ok-Second.ensures.earlier_names names).0 in let f = c.in-Ok-Second.field-0-is in cc)

pub returns-in-Ok-Second-clause-last : goal.returns-in-Ok-Second-clause-last
returns-in-Ok-Second-clause-last g c m was = absurd ((c.in-Ok-Second.ensures.two (ap Ok c.in-Ok-Second.field-0-is)).1 was.settled.shows.schema)

pub returns-in-Ok-Second-clause-renewed_last : goal.returns-in-Ok-Second-clause-renewed_last
returns-in-Ok-Second-clause-renewed_last g c m was = c.extended.ensures.last m (held_second (state g.S.Store c.args.conn) (state g.S.Store c.adopt_tables.new.conn) m (c.in-Ok-Second.ensures.two (ap Ok c.in-Ok-Second.field-0-is)).2 (λ h. let e = c.in-Ok-Second.ensures.one_only h in let f = c.in-Ok-Second.field-0-is in cc) was)

pub returns-in-Ok-Second-clause-fresh_last : goal.returns-in-Ok-Second-clause-fresh_last
returns-in-Ok-Second-clause-fresh_last g c free = absurd (let e = (c.in-Ok-Second.ensures.free free).0 in let f = c.in-Ok-Second.field-0-is in cc)
