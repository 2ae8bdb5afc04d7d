use Rattle.std.proofs.Common.{sym, subst}
use Rattle.sqlite.specs.Held.{state}
use Rattle.sqlite.specs.State.{HasCleanDisk}
use Rattle.shop_records.specs.Content.{changed}
use Rattle.shop_tables.specs.Held.{HoldsContent, LeavesOnly}
use Rattle.shop_book.proofs.Filed.{stays_itself}
use Rattle.shop_store.proofs.NextEntries.{remembered_after, still_remembered}
use Rattle.shop_store.proofs.Stored.{behind_err, on_ok, on_err}
use Rattle.shop_store.proofs.sql_storing.SqlStorageStorage.commit.Goals as goal

pub returns-in-Ok-clause-ok : goal.returns-in-Ok-clause-ok
returns-in-Ok-clause-ok g c clean m was fits =
    let next = changed m c.args.change.now in
    let held : HoldsContent (state g.S.Store c.commit_change.new.conn) next = rw c.in-Ok.is at (on_ok _ _ c.from_tables.ensures (λ held. held) (c.commit_change.ensures.ok m was.0 fits)) in (
      subst (λ h. HoldsContent (state g.S.Store h) next) (sym c.remember.ensures.conn) held,
      λ now.
          let before = c.commit_change.ensures.earlier (subst (λ h. HasCleanDisk (state g.S.Store h)) c.remember.ensures.conn now) in
          remembered_after m c.args.change.now fits was.0.trail.numbers c.args.self.now.remembered c.remember.new.self.remembered c.reserve.new.self (was.1 before) c.reserve.ensures.same c.remember.ensures.number c.remember.ensures.at c.remember.ensures.ends
          c.file_new_entry.new.self c.file_new_entry.ensures.stays c.in_ok-file_new_entry.ensures.filed c.remember.ensures.index,
    )

pub returns-in-Ok-clause-lasts : goal.returns-in-Ok-clause-lasts
returns-in-Ok-clause-lasts g c clean m was fits =
    let next = changed m c.args.change.now in
    let only : LeavesOnly (state g.S.Store c.commit_change.new.conn) next = rw c.in-Ok.is at (on_ok _ _ c.from_tables.ensures (λ only. only) (c.commit_change.ensures.lasts m was.0 fits)) in
    subst (λ h. LeavesOnly (state g.S.Store h) next) (sym c.remember.ensures.conn) only clean

pub returns-in-Err-clause-err : goal.returns-in-Err-clause-err
returns-in-Err-clause-err g c clean m was =
    let held : HoldsContent (state g.S.Store c.commit_change.new.conn) m = rw c.in-Err.is at (on_err _ _ _ c.from_tables.ensures (c.commit_change.ensures.err m was.0)) in
    (held, λ now. still_remembered m c.args.self.now.remembered c.reserve.new.self c.file_new_entry.new.self (was.1 (c.commit_change.ensures.earlier now)) c.reserve.ensures.same c.file_new_entry.ensures.stays)

pub returns-in_err-reserve-clause-err : goal.returns-in_err-reserve-clause-err
returns-in_err-reserve-clause-err g c clean m was =
    let it = c.args.self.now.remembered in
    behind_err c.from_residual.result (was.0, λ now. still_remembered m it c.reserve.new.self it.index (was.1 now) c.reserve.ensures.same (stays_itself it.index))

pub returns-in_err-file_new_entry-clause-err : goal.returns-in_err-file_new_entry-clause-err
returns-in_err-file_new_entry-clause-err g c clean m was =
    behind_err c.from_residual-in_err-file_new_entry.result (was.0, λ now. still_remembered m c.args.self.now.remembered c.reserve.new.self c.file_new_entry.new.self (was.1 now) c.reserve.ensures.same c.file_new_entry.ensures.stays)
