use Rattle.std.proofs.Common.{refl}
use Rattle.shop_store.proofs.Stored.{reads}
use Rattle.shop_store.proofs.sql_storing.SqlStorageStorage.stray_use.Goals as goal

pub returns-clause-leaves : goal.returns-clause-leaves
returns-clause-leaves g c = reads g.S.Store (λ storage. storage.conn) (λ storage. storage.remembered) _ _ refl c.find_stray_use.ensures.leaves
