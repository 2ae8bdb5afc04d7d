use Rattle.shop_forms.proofs.Back.{never_both}
use Rattle.shop_forms.proofs.laws.one_kind_of_value.Goals as goal

pub returns : goal.returns
returns c = λ d message query p q. never_both d message query p q
