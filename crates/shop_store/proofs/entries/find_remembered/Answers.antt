use Rattle.std.proofs.lemmas.Result.{IfOk-weaker}
use Rattle.shop_statements.proofs.Reading.{leaves_then}
use Rattle.shop_store.proofs.entries.find_remembered.Goals as goal

pub returns-in-Err-Store-clause-found : goal.returns-in-Err-Store-clause-found
returns-in-Err-Store-clause-found g c clean b was trail = IfOk-weaker c.unread.result _ _ (λ _ none. absurd none) (c.unread.ensures.found clean b (c.read_remembered.ensures.leaves.stays b was))

pub returns-in-Err-Store-clause-leaves : goal.returns-in-Err-Store-clause-leaves
returns-in-Err-Store-clause-leaves g c = leaves_then _ _ _ c.read_remembered.ensures.leaves c.unread.ensures.leaves
