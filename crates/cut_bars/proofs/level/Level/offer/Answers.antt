use Rattle.std.proofs.Common.{◌≡◌, ◌+◌, ◌^◌, length, map, sym, ap, ◌∙◌, subst}
use Rattle.std.specs.Prelude.{Contains}
use Rattle.std.proofs.lemmas.Result.{IfOk-weaker}
use Rattle.cut_bars.specs.Levels.{Has, HasCell}
use Rattle.cut_bars.specs.Reached.{AreOffered}
use Rattle.cut_wants.proofs.NumberRows.{same_length}
use Rattle.cut_bars.proofs.OfferedPieces.{entry_below, gain_wider, low_wider, offered_low, offered_same}
use Rattle.cut_bars.proofs.RaisedCells.{cells_below, raised_once, written}
use Rattle.cut_bars.proofs.level.Level.offer.Goals as goal

pub offer_entries-requires-clause-low : goal.offer_entries-requires-clause-low
offer_entries-requires-clause-low g c =
    let b = rw c.in-Listed.is at c.requires.below in
    rw c.deref.ensures.value (low_wider b.price (2 ^ 30) c.args.whole (Contains c.in-Listed.entries.items) b.modest b.low)

pub offer_entries-requires-clause-gain : goal.offer_entries-requires-clause-gain
offer_entries-requires-clause-gain g c = gain_wider c.requires.below.price (2 ^ 30) c.args.batch.span c.args.batch.worth c.requires.below.modest c.requires.below.gains

pub level_of-requires-clause-low : goal.level_of-requires-clause-low
level_of-requires-clause-low g c =
    let b = rw c.in-Listed.is at c.requires.below in
    offered_low (2 ^ 30) c.args.batch.span c.args.batch.worth 1 c.args.whole (Contains c.in-Listed.entries.items) (Contains c.in_ok-offered-in-Listed.offered.items)
    (rw c.deref.ensures.value at c.in_ok-offered-in-Listed.ensures.offered) (low_wider b.price (2 ^ 30) c.args.whole (Contains c.in-Listed.entries.items) b.modest b.low)
    (gain_wider b.price (2 ^ 30) c.args.batch.span c.args.batch.worth b.modest b.gains)

pub level_of-requires-clause-below : goal.level_of-requires-clause-below
level_of-requires-clause-below g c =
    let b = rw c.in-Listed.is at c.requires.below in
    entry_below g.T.Number.limit b.price c.args.whole (Contains c.in_ok-offered-in-Listed.offered.items)
    (offered_low b.price c.args.batch.span c.args.batch.worth 1 c.args.whole (Contains c.in-Listed.entries.items) (Contains c.in_ok-offered-in-Listed.offered.items)
    (rw c.deref.ensures.value at c.in_ok-offered-in-Listed.ensures.offered) b.low b.gains) b.below

pub raise-requires-clause-fits : goal.raise-requires-clause-fits
raise-requires-clause-fits g c =
    let f = g.T.Number.value in
    let items : length c.in-Tabled.cells.items ≡ c.args.whole + 1 = rw c.in-Tabled.is at c.requires.level in
    let b = rw c.in-Tabled.is at c.requires.below in
    rw c.deref_mut.ensures.value
    (cells_below g.T.Number.limit c.args.whole c.args.batch.span c.args.batch.worth (map f c.in-Tabled.cells.items) (same_length f c.in-Tabled.cells.items ∙ items) b)

pub returns-in_ok-offered-in-Listed-clause-offered :
    goal.returns-in_ok-offered-in-Listed-clause-offered
returns-in_ok-offered-in-Listed-clause-offered g c =
    IfOk-weaker c.level_of.result _ _
    (λ level same. rw c.in-Listed.is
    (offered_same c.args.batch.span c.args.batch.worth 1 c.args.whole (Contains c.in-Listed.entries.items) (Contains c.in-Listed.entries.items) (Contains c.in_ok-offered-in-Listed.offered.items)
    (Has g.T.Number.value level)
    (rw c.deref.ensures.value at c.in_ok-offered-in-Listed.ensures.offered) (λ e. (λ h. h, λ h. h)) (λ e. ((same e).1, (same e).0)))) c.level_of.ensures.same

pub returns-in-Tabled-clause-offered : goal.returns-in-Tabled-clause-offered
returns-in-Tabled-clause-offered g c =
    let f = g.T.Number.value in
    let items : length c.in-Tabled.cells.items ≡ c.args.whole + 1 = rw c.in-Tabled.is at c.requires.level in
    let len = same_length f c.in-Tabled.cells.items ∙ items in
    let new = same_length f c.raise.new.cells ∙ c.raise.auto.cells ∙ ap (λ cells. length cells) c.deref_mut.ensures.value ∙ items in
    let o = raised_once c.args.batch.span c.args.batch.worth c.args.whole (map f c.in-Tabled.cells.items) (map f c.raise.new.cells) len new (rw c.deref_mut.ensures.value at c.raise.ensures) in
    rw c.in-Tabled.is
    (subst (λ cells. AreOffered c.args.batch.span c.args.batch.worth 1 c.args.whole (HasCell (map f c.in-Tabled.cells.items)) (HasCell (map f cells)))
    (sym (written _ c.raise.new.cells _ (c.raise.auto.cells ∙ c.deref_mut.ensures.len))) o)
