use Rattle.shop_serve.proofs.Answered as lemmas
use Rattle.shop_serve.proofs.laws.whole_is_answered.Goals as goal

pub returns : goal.returns
returns g c site now stream input client status key old new before after seen seeing reports brings fresh is known serviced =
    lemmas.whole_is_answered g.C.Connection site g.B.Book now stream input client before after seen seeing reports brings fresh status key old new is known serviced
