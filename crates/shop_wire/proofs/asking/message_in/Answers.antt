use Rattle.std.proofs.Common.{inl, inr, refl, ap, ◌∙◌}
use Rattle.std.specs.Prelude.{option_and_then}
use Rattle.shop_forms.specs.Forms.{message_of}
use Rattle.shop_wire.proofs.asking.message_in.Goals as goal

pub returns-in-Ok : goal.returns-in-Ok
returns-in-Ok c = ap (option_and_then message_of) c.in_ok-value.ensures ∙ c.in-Ok.ensures.ok

pub returns-in-NoMemory : goal.returns-in-NoMemory
returns-in-NoMemory c = inl refl

pub returns : goal.returns
returns c = inr (refl, ap (option_and_then message_of) c.in_ok-value.ensures ∙ (c.in-Err.ensures.err c.in_default.not-NoMemory).1)
