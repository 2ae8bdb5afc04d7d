use Rattle.shop_serve.proofs.Owned as lemmas
use Rattle.shop_serve.proofs.laws.each_has_its_own.Goals as goal

pub returns : goal.returns
returns g c site = lemmas.each_has_its_own g.C.Connection site g.B.Book g.P.Port
