use Rattle.cut_measure.proofs.CodeFields.{code_utf8}
use Rattle.cut_measure.proofs.code_texts.Code.as_str.Goals as goal

pub unreachable-requires : goal.unreachable-requires
unreachable-requires c = c.in-Err.ensures.cases.0 (code_utf8 _ c.self.invariant.3)
