use Rattle.shop_forms.specs.Forms.{json_texts}
use Rattle.shop_audit.proofs.Judged.{whole_of}
use Rattle.shop_audit.proofs.audits.rows_verdict.Goals as goal

pub returns-in-None-clause-whole : goal.returns-in-None-clause-whole
returns-in-None-clause-whole g c =
    λ clean m held clean_anew part is.
    whole_of json_texts m part.content part.given (c.in_ok-same.ensures.same (c.in_ok-stray.ensures.keeps.clean_disk clean) clean_anew m part.content held part.holds part.given part.within c.if-not-same.false)
