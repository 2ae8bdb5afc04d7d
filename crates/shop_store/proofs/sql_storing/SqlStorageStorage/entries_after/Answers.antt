use Rattle.std.proofs.Common.{refl, arith}
use Rattle.sqlite.specs.Held.{state}
use Rattle.sqlite.specs.State.{HasCleanDisk}
use Rattle.shop_store.proofs.NextEntries.{next_entries}
use Rattle.shop_store.proofs.Stored.{if_ok, says_of, reads}
use Rattle.shop_store.proofs.sql_storing.SqlStorageStorage.entries_after.Goals as goal

pub returns-clause-rows : goal.returns-clause-rows
returns-clause-rows g c clean m was = if_ok _ _ _ c.from_tables.ensures (says_of g.S.Store _ c.args.self.now.conn c.entries_after.new.conn c.entries_after.ensures.rows clean m was.0)

pub returns-clause-next : goal.returns-clause-next
returns-clause-next g c clean m was =
    let before : HasCleanDisk (state g.S.Store c.args.self.now.conn) = let l = c.entries_after.ensures.leaves.survives.clean in omega (arith, l, clean) in
    if_ok _ _ _ c.from_tables.ensures (next_entries (state g.S.Store c.args.self.now.conn) m c.args.after c.args.most c.entries_after.result before was.0 (c.entries_after.ensures.was_open clean) (says_of g.S.Store _ c.args.self.now.conn c.entries_after.new.conn c.entries_after.ensures.rows clean m was.0))

pub returns-clause-leaves : goal.returns-clause-leaves
returns-clause-leaves g c = reads g.S.Store (λ storage. storage.conn) (λ storage. storage.remembered) _ _ refl c.entries_after.ensures.leaves
