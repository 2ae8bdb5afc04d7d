use Rattle.std.proofs.Common.{◌∙◌, sym}
use Rattle.shop_forms.specs.Forms.{json_texts}
use Rattle.shop_audit.proofs.Same.{same_content}
use Rattle.shop_audit.proofs.audits.is_same.Goals as goal

pub returns-clause-same : goal.returns-clause-same
returns-clause-same g c =
    λ clean clean_anew m k held held_anew given within same.
    let texts = c.in_ok-texts.ensures in
    same_content json_texts m k c.args.entries (texts.same clean clean_anew m k held held_anew c.if-not-texts.false) given within
    (sym (c.rows-one.ensures clean m (texts.keeps.stays clean m held)) ∙ c.has_rows_of.ensures.0 same ∙ c.rows-other.ensures clean_anew k (texts.keeps_anew.stays clean_anew k held_anew))
