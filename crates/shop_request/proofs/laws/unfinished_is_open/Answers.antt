use Rattle.shop_request.proofs.Open as lemmas
use Rattle.shop_request.proofs.laws.unfinished_is_open.Goals as goal

pub returns : goal.returns
returns c = lemmas.unfinished_is_open
