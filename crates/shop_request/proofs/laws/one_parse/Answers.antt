use Rattle.shop_request.proofs.Uniqueness as lemmas
use Rattle.shop_request.proofs.laws.one_parse.Goals as goal

pub returns : goal.returns
returns c = lemmas.one_parse
