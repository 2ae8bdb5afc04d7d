use Rattle.std.proofs.Common.{refl, arith}
use Rattle.shop_backup.proofs.Steps.{greatest_next}
use Rattle.shop_backup.proofs.backing.greatest_of.Goals as goal
use Rattle.shop_backup.proofs.backing.greatest_of.Goals.{then-number-greatest, else-number-greatest}

pub loop-number-init : goal.loop-number-init
loop-number-init c = refl

pub loop-number-preserved : goal.loop-number-preserved
loop-number-preserved c =
    greatest_next c.args.numbers.now c.loop-number.number-index 0 c.loop-number.greatest c.if-number-greatest.greatest (omega arith)
    (elim c.if-number-greatest.branch [
      | then-number-greatest w ↦ omega (arith, w.if-number-greatest, w.greatest-is)
      | else-number-greatest w ↦ omega (arith, w.if-number-greatest, w.greatest-is)
    ]) c.loop-number.invariant
