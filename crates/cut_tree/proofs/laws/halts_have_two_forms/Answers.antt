use Rattle.cut_tree.proofs.TwoForms.{one_outcome}
use Rattle.cut_tree.proofs.laws.halts_have_two_forms.Goals as goal

pub returns : goal.returns
returns c = one_outcome
