use Rattle.std.proofs.Common.{refl, ◌∙◌}
use Rattle.shop_wire.proofs.Written.{same_answer}
use Rattle.shop_wire.proofs.response.fault_text.Goals as goal

pub returns : goal.returns
returns c = c.in_ok-text.ensures ∙ same_answer _ _ _ _ _ _ c.fault_status.ensures.value c.fault_fields.ensures refl
