use Rattle.std.proofs.Common.{max, sym, ap, ◌∙◌, arith}
use Rattle.std.proofs.Math.Nat.{max-eq_left}
use Rattle.cut_bars.proofs.RaisedCells.{gained_none, gained_some}
use Rattle.cut_bars.proofs.cells.offered.Goals as goal

pub returns-then-worth-eq0 : goal.returns-then-worth-eq0
returns-then-worth-eq0 g c =
    let f = g.T.Number.value in
    let none = gained_none c.args.gain (f c.args.from) (omega (arith, c.worth.ensures, c.if-worth-eq0.true)) in
    sym (max-eq_left (omega (arith, none)))

pub returns-else-worth-eq0 : goal.returns-else-worth-eq0
returns-else-worth-eq0 g c =
    let f = g.T.Number.value in
    let some = gained_some c.args.gain (f c.args.from) (omega (arith, c.worth.ensures, c.if-worth-eq0.false)) in
    c.raised.ensures ∙ ap (λ n. max (f c.args.cell) n) (omega (arith, c.of.ensures, some))
