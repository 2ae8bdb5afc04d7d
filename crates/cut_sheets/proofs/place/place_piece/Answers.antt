use Rattle.std.proofs.Common.{arith}
use Rattle.cut_sheets.proofs.PlacedLeaves.{corner_upright, corner_turned}
use Rattle.cut_sheets.proofs.place.place_piece.Goals as goal

pub returns-in_ok-node-in-Some : goal.returns-in_ok-node-in-Some
returns-in_ok-node-in-Some c =
    rw (c.in_ok-node-in-Some.ensures, c.h.ensures.value, c.w.ensures.value, c.if-turned.true) (
    corner_turned _ _ _ _ _ c.in-Some.size c.requires.own (rw c.if-turned.true at c.requires.inside) c.in-Some.ensures.found (omega (arith, c.w.ensures.value, c.w.ensures.least)) (omega (arith, c.h.ensures.value, c.h.ensures.least))
    )

pub returns-in_ok-node-in-Some-2 : goal.returns-in_ok-node-in-Some-2
returns-in_ok-node-in-Some-2 c =
    rw (c.in_ok-node-in-Some-2.ensures, c.h-else-turned.ensures.value, c.w-else-turned.ensures.value, c.if-turned.false) (
    corner_upright _ _ _ _ _ c.in-Some.size c.requires.own (rw c.if-turned.false at c.requires.inside) c.in-Some.ensures.found (omega (arith, c.w-else-turned.ensures.value, c.w-else-turned.ensures.least)) (omega (arith, c.h-else-turned.ensures.value, c.h-else-turned.ensures.least))
    )
