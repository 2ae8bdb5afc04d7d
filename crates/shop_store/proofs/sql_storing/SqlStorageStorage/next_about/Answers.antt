use Rattle.shop_records.specs.Lists.{entries_behind}
use Rattle.shop_store.proofs.sql_storing.SqlStorageStorage.next_about.Goals as goal

pub returns : goal.returns
returns g c = record {
  next = λ clean m was. c.next_about.ensures (entries_behind m 0) (was.1 clean).filed;
}
