use Rattle.std.proofs.Common.{refl}
use Rattle.shop_store.proofs.Stored.{if_ok, says_of, reads}
use Rattle.shop_store.proofs.sql_storing.SqlStorageStorage.last_number.Goals as goal

pub returns-clause-number : goal.returns-clause-number
returns-clause-number g c clean m was = if_ok _ _ _ c.from_tables.ensures (says_of g.S.Store _ c.args.self.now.conn c.find_last_number.new.conn c.find_last_number.ensures.number clean m was.0)

pub returns-clause-leaves : goal.returns-clause-leaves
returns-clause-leaves g c = reads g.S.Store (λ storage. storage.conn) (λ storage. storage.remembered) _ _ refl c.find_last_number.ensures.leaves
