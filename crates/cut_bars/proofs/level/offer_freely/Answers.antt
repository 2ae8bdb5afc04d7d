use Rattle.std.proofs.Common.{◌/◌, length, map, sym, ap, ◌∙◌, subst}
use Rattle.cut_bars.specs.Levels.{HasCell}
use Rattle.cut_bars.specs.Reached.{AreOffered}
use Rattle.cut_wants.proofs.NumberRows.{same_length}
use Rattle.cut_bars.proofs.RaisedCells.{cells_below, raised_freely, written}
use Rattle.cut_bars.proofs.level.offer_freely.Goals as goal

pub raise_freely-requires-clause-fits : goal.raise_freely-requires-clause-fits
raise_freely-requires-clause-fits g c =
    let f = g.T.Number.value in
    rw c.deref_mut.ensures.value
    (cells_below g.T.Number.limit c.args.whole c.args.piece.span c.args.piece.worth (map f c.args.cells.items) (same_length f c.args.cells.items ∙ c.requires.len) c.requires.below)

pub returns-clause-offered : goal.returns-clause-offered
returns-clause-offered g c =
    let f = g.T.Number.value in
    let new = same_length f c.raise_freely.new.cells ∙ c.raise_freely.auto.cells ∙ ap (λ cells. length cells) c.deref_mut.ensures.value ∙ c.requires.len in
    let o = raised_freely c.args.piece.span c.args.piece.worth c.args.whole (map f c.args.cells.items) (map f c.raise_freely.new.cells) c.requires.some
    (same_length f c.args.cells.items ∙ c.requires.len) new (rw c.deref_mut.ensures.value at c.raise_freely.ensures) in
    subst (λ cells. AreOffered c.args.piece.span c.args.piece.worth (c.args.whole / c.args.piece.span) c.args.whole (HasCell (map f c.args.cells.items)) (HasCell (map f cells)))
    (sym (written _ c.raise_freely.new.cells _ (c.raise_freely.auto.cells ∙ c.deref_mut.ensures.len))) o
