use Rattle.shop_forms.proofs.Back.{one_message, one_reply}
use Rattle.shop_forms.proofs.laws.one_text.Goals as goal

pub returns-clause-message : goal.returns-clause-message
returns-clause-message c = λ m n p q same. one_message m n p q same

pub returns-clause-reply : goal.returns-clause-reply
returns-clause-reply c = λ a b p q same. one_reply a b p q same
