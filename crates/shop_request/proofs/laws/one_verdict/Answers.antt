use Rattle.shop_request.proofs.Guarding as lemmas
use Rattle.shop_request.proofs.laws.one_verdict.Goals as goal

pub returns : goal.returns
returns c = lemmas.one_verdict
