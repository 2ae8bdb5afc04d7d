use Rattle.std.proofs.lemmas.Result.{IfOk-weaker}
use Rattle.shop_audit.proofs.compared.have_same_texts.Goals as goal

pub returns-clause-same : goal.returns-clause-same
returns-clause-same g c =
    λ clean clean_anew m k held held_anew.
    let first = c.in_ok-many.ensures in
    let second = c.in_ok-imports.ensures in
    let rest = c.have_same_halts.ensures in
    let later = rest.keeps.clean_disk clean in
    let later_anew = rest.keeps_anew.clean_disk clean_anew in
    let was = second.keeps.clean_disk later in
    let was_anew = second.keeps_anew.clean_disk later_anew in
    let there = first.keeps.stays was m held in
    let there_anew = first.keeps_anew.stays was_anew k held_anew in
    IfOk-weaker c.have_same_halts.result _ _
    (λ same found is.
    record { many = first.same was was_anew m k held held_anew c.if-not-many.false; imports = second.same later later_anew m k there there_anew c.if-not-imports.false; halts = found is })
    (rest.same clean clean_anew m k (second.keeps.stays later m there) (second.keeps_anew.stays later_anew k there_anew))
