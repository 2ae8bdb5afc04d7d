use Rattle.shop_forms.proofs.Back.{message_back, reply_back}
use Rattle.shop_forms.proofs.laws.read_back.Goals as goal

pub returns-clause-message : goal.returns-clause-message
returns-clause-message c = λ message h from few. message_back message h from few

pub returns-clause-reply : goal.returns-clause-reply
returns-clause-reply c = λ answer h. reply_back answer h
