use Rattle.std.proofs.Common.{subst}
use Rattle.std.proofs.lemmas.Result.{IfOk-weaker}
use Rattle.shop_audit.specs.Compared.{HaltAlikeBelow}
use Rattle.shop_audit.proofs.compared.have_same_halts.Goals as goal

pub returns-clause-same : goal.returns-clause-same
returns-clause-same g c =
    λ clean clean_anew m k held held_anew.
    let one = c.in_ok-behind.ensures in
    let rest = c.have_same_halts_below.ensures in
    let was = rest.keeps_anew.clean_disk clean_anew in
    IfOk-weaker c.have_same_halts_below.result _ _
    (λ same found is. subst (HaltAlikeBelow m k) (one.number was k held_anew) (found is))
    (rest.same clean clean_anew m k held (one.keeps.stays was k held_anew))
