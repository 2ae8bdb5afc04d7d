use Rattle.std.proofs.Common.{take}
use Rattle.std.specs.Prelude.{All}
use Rattle.shop_records.specs.Messages.{IsNumber}
use Rattle.shop_messages.proofs.halting.see_cuts.Given as goal

abbrev pub invariant-loop-cut : goal.invariant-loop-cut
invariant-loop-cut l = All IsNumber (take l.cut-index l.cuts)
