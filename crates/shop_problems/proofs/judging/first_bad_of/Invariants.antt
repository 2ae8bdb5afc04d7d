use Rattle.std.proofs.Common.{◌≡◌, ◌+◌, drop, take}
use Rattle.std.specs.Prelude.{option_map}
use Rattle.shop_problems.specs.Judged.{AreSized, bad_from}
use Rattle.shop_problems.proofs.judging.first_bad_of.Given as goal

abbrev pub invariant-loop-i : goal.invariant-loop-i
invariant-loop-i l =
    let shop = option_map (λ entries. entries.now) l.shop in
    record { first : bad_from shop (l.i + 1) l.last (drop l.i l.lines) ≡ bad_from shop 1 0 l.lines; sized : AreSized (take l.i l.lines) }
