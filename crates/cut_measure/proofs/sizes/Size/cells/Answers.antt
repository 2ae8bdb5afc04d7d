use Rattle.std.proofs.Common.{◌*◌, length, sym, ap, ◌∙◌}
use Rattle.cut_measure.specs.Measures.{cells_of}
use Rattle.cut_measure.proofs.Cells.{length-cells_of}
use Rattle.cut_measure.proofs.sizes.Size.cells.Goals as goal

pub returns-clause-counted : goal.returns-clause-counted
returns-clause-counted c =
    ap (λ n. n * c.from-2.result) c.from.ensures ∙ ap (λ n. c.self.inside.w * n) c.from-2.ensures
    ∙ sym (length-cells_of (record { w = c.self.inside.w; h = c.self.inside.h })) ∙ ap (λ s. length (cells_of s)) c.self.view_is
