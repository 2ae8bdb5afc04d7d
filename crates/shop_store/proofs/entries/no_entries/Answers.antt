use Rattle.std.proofs.Common.{refl}
use Rattle.shop_store.proofs.EarlierContents.{none_remembered}
use Rattle.shop_store.proofs.entries.no_entries.Goals as goal

pub returns : goal.returns
returns c m none = none_remembered m none _ refl refl c.new.ensures
