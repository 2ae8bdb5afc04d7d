use Rattle.shop_serve.proofs.Few as lemmas
use Rattle.shop_serve.proofs.laws.few_are_open.Goals as goal

pub returns : goal.returns
returns g c site = lemmas.few_are_open g.C.Connection site g.B.Book g.P.Port
