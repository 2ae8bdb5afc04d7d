use Rattle.shop_audit.proofs.audits.judged.Goals as goal

pub returns-in-Same-clause-whole : goal.returns-in-Same-clause-whole
returns-in-Same-clause-whole g c =
    λ clean m held clean_anew.
    let rest = c.rows_verdict.ensures in
    let before = c.in_ok-number.ensures in
    rest.whole clean m (before.keeps.stays (rest.keeps.clean_disk clean) m held) clean_anew (before.given (rest.keeps.clean_disk clean) m held (rest.clean_disk clean_anew) c.in-Same.is)
