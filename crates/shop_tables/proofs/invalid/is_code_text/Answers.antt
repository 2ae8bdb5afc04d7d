use Rattle.cut_measure.proofs.CodeFields.{code_utf8}
use Rattle.shop_tables.proofs.invalid.is_code_text.Goals as goal

pub returns-in-Err : goal.returns-in-Err
returns-in-Err c code = absurd (c.in-Err.ensures.cases.0 (code_utf8 _ code))
